-- How changes of choices are put back (docs/CHOICES.md).
use Rattle.std.specs.Prelude.{◌≤◌, ℕ, List, Option, length, insert, vec_capacity}
use Rattle.ink_model.specs.Run.Configuration.{ChoiceOf}
use Rattle.ink_model.specs.declared.limits.TheConstants.{MAX_CHOICES}
use Rattle.ink_trail.specs.Stays.{Stays}
use Rattle.ink_trail.specs.Undo.{but_last, spare, stood_at}
use Rattle.ink_choice.specs.Choices.{ChoicesView}
use Rattle.ink_choice.specs.declared.undo.ChoicePair.{ChoicePair}
use Rattle.ink_choice.specs.declared.undo.ChoicePair.TheVariants.{Added, Taken, Cleared}

module _ {P : Type 0} where
  -- the choices before a change
  abbrev pub choices_back : ChoicePair P → List (ChoiceOf P) → List (ChoiceOf P)
  choices_back Added cs = but_last cs
  choices_back (Taken i c) cs = insert cs i c
  choices_back (Cleared list) cs = list.items

  -- choices are within the limit, and within the room of their list
  abbrev pub Held : ℕ → List (ChoiceOf P) → Type 0
  Held room cs = (length cs ≤ MAX_CHOICES) × (length cs ≤ room)

  -- a list that was cleared comes back with its room
  abbrev pub room_of : ChoicePair P → ℕ → ℕ
  room_of Added room = room
  room_of (Taken i c) room = room
  room_of (Cleared list) room = vec_capacity list

  -- so they are while the trail is put back
  abbrev pub StaysHeld : ℕ → List (ChoicePair P) → List (ChoiceOf P) → Type 0
  StaysHeld room es cs = Stays choices_back room_of Held room es cs

  -- the choices as they stood at the mark, where one stands
  unfoldable pub choices_stood : ChoicesView P → Option (List (ChoiceOf P))
  choices_stood v = stood_at choices_back v.trail v.items

  -- how many changes more can be noted without memory
  unfoldable pub choices_spare : ChoicesView P → ℕ
  choices_spare v = spare v.trail
