-- What calls do, by what the rules give.
use Rattle.std.specs.Prelude.{◌≡◌, ℕ, ◌<◌, false, ◌&&◌, ◌||◌, List, length, get_or, remove, Bool, Option, Some, None, is_some, Result, Ok, Err}
use Rattle.std.specs.Option.{option_map}
use Rattle.ink_model.specs.Text.Bytes.{fits_text}
use Rattle.ink_model.specs.Text.Output.{kept_text}
use Rattle.ink_model.specs.Choices.Making.{added, option_asks, taken_of}
use Rattle.ink_model.specs.Memory.Asks.{makes_choice}
use Rattle.ink_model.specs.Memory.Refusals.{ByRule, LacksMemory}
use Rattle.ink_model.specs.Run.Configuration.{ChoiceOf}
use Rattle.ink_model.specs.declared.fault.Fault.{Fault}
use Rattle.ink_model.specs.declared.value.Value.{Value}

-- A call makes what has this text, which has to be within its limit. Where it is, and what is made asks for memory, that may be refused.
abbrev pub MakesWith : {A : Type 0} → List ℕ → Bool → A → Result A Fault → Type 0
MakesWith text asks made result = ByRule (LacksMemory (fits_text text && asks)) (λ a b. b ≡ a) (λ why. why) (kept_text text made) result

module _ {P : Type 0} where
  -- Making asks for memory where there is too little room for the changes, and for a choice that asks for some. Faults are found before.
  abbrev pub making_asks : Bool → Result (Option (ChoiceOf P) × List Value) Fault → Bool
  making_asks short (Ok r) = short || option_asks r.0
  making_asks short (Err f) = false

  -- A call hands out what the rule makes and leaves the stack that it leaves, or has the rule's fault, or is refused memory that it asks
  -- for. After an error nothing has changed.
  abbrev pub Makes : Bool → Result (Option (ChoiceOf P) × List Value) Fault → List Value → List Value → Result (Option (ChoiceOf P)) Fault → Type 0
  Makes short rule old new result = ByRule (LacksMemory (making_asks short rule)) (λ r made. (made ≡ r.0) × (new ≡ r.1)) (λ why. why × (new ≡ old)) rule result

  -- the stack that is left, beside the choices or the fault of one too many
  abbrev pub beside : List Value → Result (List (ChoiceOf P)) Fault → Result (List Value × List (ChoiceOf P)) Fault
  beside left (Ok cs) = Ok (left, cs)
  beside left (Err f) = Err f

  -- the stack and the choices after what a choice point makes, if it makes any, is added
  abbrev pub after_adding : List (ChoiceOf P) → Result (Option (ChoiceOf P) × List Value) Fault → Result (List Value × List (ChoiceOf P)) Fault
  after_adding cs (Ok (None, left)) = Ok (left, cs)
  after_adding cs (Ok (Some c, left)) = beside left (added c cs)
  after_adding cs (Err f) = Err f

  -- That asks for memory where there is too little room for the changes, for a choice that asks for some, and for its place behind the
  -- others. Faults are found before.
  abbrev pub adding_asks : Bool → List (ChoiceOf P) → Result (Option (ChoiceOf P) × List Value) Fault → Bool
  adding_asks short cs (Ok r) = short || makes_choice (length cs) (Ok r)
  adding_asks short cs (Err f) = false

  -- A call adds what the rule makes and leaves the stack that it leaves, or has the rule's fault or that of one choice too many, or is
  -- refused memory that it asks for. After an error nothing has changed.
  abbrev pub AddsMade : Bool → Result (Option (ChoiceOf P) × List Value) Fault → List Value → List Value → List (ChoiceOf P) → List (ChoiceOf P) → Result (Unit {0}) Fault → Type 0
  AddsMade short rule old new cs ds result =
      ByRule (LacksMemory (adding_asks short cs rule)) (λ r u. (new ≡ r.0) × (ds ≡ r.1)) (λ why. why × (new ≡ old) × (ds ≡ cs)) (after_adding cs rule) result

  -- the list, or what is left of it
  abbrev pub left_of : List (ChoiceOf P) → Option (ChoiceOf P × List (ChoiceOf P)) → List (ChoiceOf P)
  left_of cs None = cs
  left_of cs (Some r) = r.1

  -- A call takes what the rule says out of a list, or nothing. For what it takes it may be refused memory, and then nothing has changed.
  abbrev pub Takes : Option (ChoiceOf P × List (ChoiceOf P)) → List (ChoiceOf P) → List (ChoiceOf P) → Result (Option (ChoiceOf P)) Fault → Type 0
  Takes gone old new result =
      ByRule (LacksMemory (is_some gone)) (λ first taken. (taken ≡ first) × (new ≡ left_of old gone)) (λ why. why × (new ≡ old)) (Ok (option_map (λ r. r.0) gone)) result

  -- the index of what is to be taken
  abbrev pub FindsIndex : (ChoiceOf P → Bool) → ℕ → List (ChoiceOf P) → Option ℕ → Type 0
  FindsIndex test n cs (Some i) = (i < length cs) × ((d : ChoiceOf P) → taken_of test n cs ≡ Some (get_or cs i d, remove cs i))
  FindsIndex test n cs None = taken_of test n cs ≡ None
