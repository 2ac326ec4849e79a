-- Calls of external functions, beside the definitions (docs/HOST.md, "Calls").
use Rattle.std.specs.Prelude.{◌≡◌, ◌⊎◌, ℕ, List, [], ◌∷◌, Bool, true, false, if◌then◌else◌, Option, Some, None, Result, Ok, Err}
use Rattle.std.specs.List.{list_all}
use Rattle.ink_model.specs.Run.Effect.{Fields}
use Rattle.ink_model.specs.Host.Events.{Made, calls}
use Rattle.ink_model.specs.Memory.Refusals.{IsRefusedMemory, given_asks}
use Rattle.ink_model.specs.Run.Step.Host.{Acts, Suspends, Call, CallEffect, answering, arguments_on, is_argument}
use Rattle.ink_model.specs.Story.Tree.{StoryTree}
use Rattle.ink_model.specs.declared.fault.Fault.{Fault}
use Rattle.ink_model.specs.declared.fault.Fault.TheVariants.{BadOperands, StackEmpty}
use Rattle.ink_model.specs.declared.host.Event.{Event}
use Rattle.ink_model.specs.declared.host.Given.{Given}
use Rattle.ink_model.specs.declared.value.Value.{Value}
use Rattle.ink_effects.specs.Performs.{Performs}
use Rattle.ink_effects.specs.declared.host.External.{External}
use Rattle.ink_effects.specs.declared.transfer.Transfer.{Transfer}

abbrev pub call_of : External → Call
call_of call = record { name = call.name.now; arguments = call.arguments; conditional = call.conditional }

-- what is lent to a function of a host: so many values on top, where all may be arguments
abbrev pub lent_of : Option (List Value × List Value) → Result (List Value) Fault
lent_of None = Err StackEmpty
lent_of (Some r) = if list_all is_argument r.0 then Ok r.0 else Err BadOperands

abbrev pub lent_arguments : ℕ → List Value → Result (List Value) Fault
lent_arguments n vs = lent_of (arguments_on n vs)

-- what a turn function was called with, and what it gave
abbrev pub made_call : List ℕ → List Value → Option Given → Made
made_call name arguments gave = record { name = name; arguments = arguments; gave = gave }

-- a condition is true, and no fault
abbrev pub is_true_of : Result Bool Fault → Bool
is_true_of (Ok truth) = truth
is_true_of (Err f) = false

-- a call asks a turn function
abbrev pub is_asking : CallEffect → Bool
is_asking (Suspends name arguments f) = true
is_asking (Acts e) = false

-- Performing a call that asks a turn function calls it once, and goes on with what it gave; or memory was refused before
-- that, and nothing was called. Performing another calls nothing. The events count on from a stamp.
abbrev pub PerformsCall : StoryTree → ℕ → Bool → CallEffect → List Event → Fields → Result Transfer Fault → Type 0
PerformsCall s n asks (Suspends name arguments left) es new result =
    ((gave : Option Given) × (es ≡ calls n (made_call name arguments gave ∷ [])) × Performs s (given_asks arguments left gave) (answering gave left) new result)
    ⊎ ((es ≡ []) × IsRefusedMemory asks result)
PerformsCall s n asks (Acts e) es new result = (es ≡ []) × Performs s asks e new result
