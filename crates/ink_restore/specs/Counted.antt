-- What is counted.
use Rattle.std.specs.Prelude.{⊤, ℕ, ◌<◌, List, [], ◌∷◌, length, Bool}
use Rattle.ink_model.specs.Variables.Counts.{CountsOf}
use Rattle.ink_model.specs.Story.Flags.{counts_visits, notes_turns}
use Rattle.ink_model.specs.Story.Places.{places}
use Rattle.ink_model.specs.Variables.Rows.{map_keys}
use Rattle.ink_model.specs.Story.Tree.{StoryTree}
use Rattle.ink_model.specs.declared.place.Part.{Part}
use Rattle.ink_restore.specs.declared.counting.Counted.{Counted}
use Rattle.ink_restore.specs.declared.counting.Counted.TheVariants.{Turns, Visits}
use Rattle.ink_tree.specs.Nodes.{node_place}

-- the flag of the containers that have such a count
abbrev pub flag_of : Counted → ℕ → Bool
flag_of Visits = counts_visits
flag_of Turns = notes_turns

-- the least such a count may be
abbrev pub least_of : Counted → ℕ
least_of Visits = 1
least_of Turns = 0

abbrev pub place_at : StoryTree → ℕ → List Part
place_at s n = node_place s (record { number = n })

-- rows over the places that their numbers stand for
abbrev pub rows_at : StoryTree → List (ℕ × ℕ) → List (List Part × ℕ)
rows_at s rows = map_keys (place_at s) rows

abbrev pub row_at : StoryTree → ℕ × ℕ → List Part × ℕ
row_at s r = (place_at s r.0, r.1)

-- counts over the places that their numbers stand for
abbrev pub counts_at : StoryTree → CountsOf ℕ → CountsOf (List Part)
counts_at s counts = record { visits = rows_at s counts.visits; turns = rows_at s counts.turns }

-- the numbers of rows are below this one
abbrev pub AreBelow : ℕ → List (ℕ × ℕ) → Type 0
AreBelow k [] = ⊤
AreBelow k (r ∷ rs) = (r.0 < k) × AreBelow k rs

-- those of counts are of contents of the story
pub record AreOwn (s : StoryTree) (counts : CountsOf ℕ) : Type 0 where
  pub visits : AreBelow (length (places s)) counts.visits
  pub turns : AreBelow (length (places s)) counts.turns
