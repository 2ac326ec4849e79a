-- What a host's objects give, and what names are bound to (docs/HOST.md).
use Rattle.std.specs.Prelude.{ℕ, List, Bool, true, false, Option, Some, None}
use Rattle.ink_model.specs.Story.Leaves.{is_small}
use Rattle.ink_model.specs.Text.Bytes.{fits_text}
use Rattle.ink_model.specs.declared.host.Given.{Given}
use Rattle.ink_model.specs.declared.host.Given.TheVariants as given
use Rattle.ink_model.specs.declared.value.Value.{Value}
use Rattle.ink_model.specs.declared.value.Value.TheVariants as value

-- ---- what is given

abbrev pub value_given : Given → Value
value_given (given.Int z) = value.Int z
value_given (given.Bool b) = value.Bool b
value_given (given.Text t) = value.Text t
value_given given.Void = value.Void

-- what gives a value: targets, pointers and tags are not given
abbrev pub giving : Value → Option Given
giving (value.Int z) = Some (given.Int z)
giving (value.Bool b) = Some (given.Bool b)
giving (value.Text t) = Some (given.Text t)
giving value.Void = Some given.Void
giving v = None

-- an integer that is given has 32 bits, and a text is within its limit
abbrev pub fits_given : Given → Bool
fits_given (given.Int z) = is_small z
fits_given (given.Bool b) = true
fits_given (given.Text t) = fits_text t
fits_given given.Void = true

-- a copy of it is a text with one owner more
abbrev pub shares : Given → Type 0
shares (given.Int z) = ⊥
shares (given.Bool b) = ⊥
shares (given.Text t) = Unit {0}
shares given.Void = ⊥

-- ---- what is bound

-- a turn function, or a pure one with what it answers, which is nothing where it refuses
pub data Binding : Type 0 where
  turn_function : Binding
  pure_function : (List Value → Option Given) → Binding

-- what each name is bound to
abbrev pub Bound : Type 0
Bound = List ℕ → Option Binding

abbrev pub nothing_bound : Bound
nothing_bound name = None

-- what a player's host has bound, and the names of globals that it watches
pub record Bindings : Type 0 where
  pub functions : Bound
  pub watches : List ℕ → Bool

abbrev pub no_objects : Bindings
no_objects = record { functions = nothing_bound; watches = λ name. false }
