-- What counts and threads stand for, and what content may look at.
use Rattle.std.specs.Prelude.{ℕ, List, [], ◌∷◌, length, map, nat_lt, if◌then◌else◌}
use Rattle.ink_effects.specs.declared.shared.Shared.{Shared}
use Rattle.ink_model.specs.Run.Configuration.{ChoiceOf, map_choice}
use Rattle.ink_model.specs.Variables.Counts.{CountsOf}
use Rattle.ink_model.specs.Run.Effect.{Context}
use Rattle.ink_model.specs.Flow.Frames.{ThreadsOf, map_thread}
use Rattle.ink_model.specs.Story.Places.{places}
use Rattle.ink_model.specs.Variables.Rows.{map_keys}
use Rattle.ink_model.specs.Story.Tree.{StoryTree}
use Rattle.ink_model.specs.declared.place.Part.{Part}
use Rattle.ink_tree.specs.Nodes.{node_place, place_of}
use Rattle.ink_tree.specs.declared.spot.Spot.{Spot}

-- the rows of a story's contents; rows rise, and so these come first
abbrev pub rows_below : ℕ → List (ℕ × ℕ) → List (ℕ × ℕ)
rows_below k [] = []
rows_below k (r ∷ rs) = if nat_lt r.0 k then r ∷ rows_below k rs else []

abbrev pub rows_in : StoryTree → List (ℕ × ℕ) → List (List Part × ℕ)
rows_in s rows = map_keys (λ n. node_place s (record { number = n })) (rows_below (length (places s)) rows)

-- what counts by number stand for in a story
abbrev pub counts_in : StoryTree → CountsOf ℕ → CountsOf (List Part)
counts_in s counts = record { visits = rows_in s counts.visits; turns = rows_in s counts.turns }

-- what a machine has beside its threads that content may look at and not change
pub record Rest : Type 0 where
  pub choices : List (ChoiceOf Spot)
  pub counts : CountsOf ℕ
  pub turn : ℕ

abbrev pub rest_in : List (ChoiceOf Spot) → Shared → Rest
rest_in choices shared = record { choices = choices; counts = shared.counts.rows; turn = shared.turn }

-- what content may look at and not change, as `context_of` gives it
abbrev pub seen_by : StoryTree → ThreadsOf Spot → Rest → Context
seen_by s threads rest = record {
  thread = map_thread (place_of s) threads.thread;
  choices = map (map_choice (place_of s)) rest.choices;
  counts = counts_in s rest.counts;
  turn = rest.turn;
}
