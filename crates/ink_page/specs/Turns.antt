-- What a turn function notes, whether it was bound or asks, and which functions ask.
use Rattle.std.specs.Prelude.{◌≡◌, ◌⊎◌, ⊤, ℕ, ◌<◌, List, [], length, Option, None, Some, is_some, true}
use Rattle.std.specs.Option.{option_map}
use Rattle.ink_host.specs.Desk.{DeskView, Rows, at}
use Rattle.ink_host.specs.declared.objects.Bound.{Bound}
use Rattle.ink_host.specs.declared.objects.Bound.TheVariants as bound
use Rattle.ink_host.specs.declared.objects.Called.{Called}
use Rattle.ink_model.specs.Run.Place.{knot}
use Rattle.ink_model.specs.Run.Step.Host.{call_at}
use Rattle.ink_model.specs.Story.Places.{places}
use Rattle.ink_model.specs.Story.Tree.{StoryTree}
use Rattle.ink_model.specs.Story.Tree as trees
use Rattle.ink_page.specs.declared.asked.Asked.{Asked}
use Rattle.ink_page.specs.declared.asked.Turn.{Turn}
use Rattle.ink_page.specs.declared.asked.Turn.TheVariants as turn
use Rattle.ink_page.specs.declared.page.Look.{Look}
use Rattle.ink_tree.specs.Nodes.{node_place}

module _ {F G : Type 0} where
  abbrev pub log_of : (F → List Called) → (G → List Called) → Turn F G → List Called
  log_of bound asked (turn.Bound f) = bound f
  log_of bound asked (turn.Asked f) = asked f

  abbrev pub refusals_of : (F → ℕ) → (G → ℕ) → Turn F G → ℕ
  refusals_of bound asked (turn.Bound f) = bound f
  refusals_of bound asked (turn.Asked f) = asked f

-- the function that is called at a place, if one is
abbrev pub function_at : Option StoryTree → Option (List ℕ)
function_at found = option_map (λ call. call.name) (call_at found)

module _ {P T : Type 0} where
  -- something is bound to this name, or it is a knot
  abbrev pub IsAnswered : StoryTree → List ℕ → Rows (Bound P T) → Type 0
  IsAnswered s name functions = (is_some (at name functions) ≡ true) ⊎ (is_some (knot name s) ≡ true)

  -- each function that is called by one of the first contents, so many as are given
  abbrev pub AnsweredBelow : StoryTree → ℕ → Rows (Bound P T) → Type 0
  AnsweredBelow s count functions = (k : ℕ) → k < count → (name : List ℕ) → function_at (trees.at s (node_place s (record { number = k }))) ≡ Some name → IsAnswered s name functions

  -- each function that the story calls
  abbrev pub AllAnswered : StoryTree → Rows (Bound P T) → Type 0
  AllAnswered s functions = AnsweredBelow s (length (places s)) functions

-- a function asks by this name and in this look, and was not called yet
abbrev pub AsksBy : {R : Type 0} → Look → List ℕ → Asked R → Type 0
AsksBy look name asked = (asked.name ≡ name) × (asked.look ≡ look) × (asked.noted.log ≡ [])

module _ {P F R : Type 0} where
  -- nothing is bound to this name, or a function that asks by it, and it is no knot
  abbrev pub MayAsk : Look → StoryTree → List ℕ → Option (Bound P (Turn F (Asked R))) → Type 0
  MayAsk look s name None = ⊤
  MayAsk look s name (Some b) = (knot name s ≡ None) × (asked : Asked R) × (b ≡ bound.Turn (turn.Asked asked)) × AsksBy look name asked

  -- Between two states of a desk functions were bound that ask, and nothing else came about: each has a name that nothing was bound
  -- to and that is no knot of the story.
  pub record AsksMore {O : Type 0} (look : Look) (s : StoryTree) (old new : DeskView P (Turn F (Asked R)) O) : Type 0 where
    pub watchers : new.watchers ≡ old.watchers
    pub events : new.events ≡ old.events
    pub next : new.next ≡ old.next
    pub kept : (name : List ℕ) → is_some (at name old.functions) ≡ true → at name new.functions ≡ at name old.functions
    pub others : (name : List ℕ) → at name old.functions ≡ None → MayAsk look s name (at name new.functions)
