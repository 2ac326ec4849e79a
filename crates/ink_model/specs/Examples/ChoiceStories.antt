-- Stories with choice points, how a host goes on with them, and what is looked at then.
use Rattle.std.specs.Prelude.{ℕ, List, [], ◌∷◌, ◌++◌, codes, Option, Some, None, option_and_then}
use Rattle.std.specs.Option.{option_map}
use Rattle.ink_model.specs.Choices.Choosing.{chosen, jump_place, jumped, open_choice}
use Rattle.ink_model.specs.Examples.CallStories.{does, list, now, says}
use Rattle.ink_model.specs.Protocol.Turns.{open_choices}
use Rattle.ink_model.specs.Run.Configuration.{ChoiceOf, Configuration, begun, settled}
use Rattle.ink_model.specs.Run.Moments.{moment}
use Rattle.ink_model.specs.Run.Step.{nothing_bound}
use Rattle.ink_model.specs.Run.Visits.{entering_around}
use Rattle.ink_model.specs.Story.Tree.{StoryTree, leaf, container, key, no_keys}
use Rattle.ink_model.specs.Story.View.{trees_of}
use Rattle.ink_model.specs.declared.content.Control.TheVariants as control
use Rattle.ink_model.specs.declared.content.Leaf.TheVariants as leaves
use Rattle.ink_model.specs.declared.passage.Shown.{Shown}
use Rattle.ink_model.specs.declared.place.Part.{Part}

-- ---- content

abbrev pub offers : List ℕ → ℕ → StoryTree
offers path flags = leaf (leaves.Choice path flags)

-- a string
abbrev pub string_of : List StoryTree → List StoryTree
string_of ts = does control.BeginString ∷ (ts ++ does control.EndString ∷ [])

-- a tag in a string
abbrev pub tag_of : List ℕ → List StoryTree
tag_of t = does control.BeginTag ∷ says t ∷ does control.EndTag ∷ []

-- a choice with text of one string, and its evaluation: 6 steps
abbrev pub choice_by : List ℕ → List ℕ → ℕ → List StoryTree
choice_by t path flags = does control.BeginEval ∷ (string_of (says t ∷ []) ++ does control.EndEval ∷ offers path flags ∷ [])

-- a first container and then `done`, with the knots `f`, `g` and `k`; of `k` visits are counted, and turns noted
abbrev pub knots : List StoryTree → List StoryTree → List StoryTree → List StoryTree → StoryTree
knots main f g k = container None 0 (trees_of (list main ∷ does control.Done ∷ []))
    (key (codes "f") (list f) (key (codes "g") (list g) (key (codes "k") (container None 3 (trees_of k) no_keys) no_keys)))

-- ---- a host

-- the run from there, so many steps long
abbrev pub goes_on : ℕ → StoryTree → Option Configuration → Option Configuration
goes_on n s c = option_and_then (λ d. now (moment s nothing_bound (begun d) [] n)) c

-- between commands
abbrev pub chooses : ℕ → StoryTree → Option Configuration → Option Configuration
chooses n s c = option_and_then (λ d. option_map (λ choice. entering_around s (chosen choice (settled d))) (open_choice n d)) c

abbrev pub jumps : List ℕ → StoryTree → Option Configuration → Option Configuration
jumps path s c = option_and_then (λ d. option_map (λ q. entering_around s (jumped q (settled d))) (jump_place s path)) c

-- ---- what is looked at

abbrev pub shows : Option Configuration → List Shown
shows None = []
shows (Some c) = open_choices c

abbrev pub choices_in : Option Configuration → List (ChoiceOf (List Part))
choices_in None = []
choices_in (Some c) = c.flow.choices

-- a choice as it is shown
abbrev pub shown_as : List ℕ → List (List ℕ) → Shown
shown_as text tags = record { text = text; tags = tags }

abbrev pub turn_in : Option Configuration → Option ℕ
turn_in c = option_map (λ d. d.shared.turn) c
