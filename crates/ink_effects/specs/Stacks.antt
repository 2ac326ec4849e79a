-- The top of a stack, beside the definitions.
use Rattle.std.specs.Prelude.{◌≡◌, List, Bool, true, false, Option, Some, None, Result, Ok, Err}
use Rattle.ink_model.specs.Memory.Refusals.{Gives}
use Rattle.ink_model.specs.Values.Stack.{popped}
use Rattle.ink_model.specs.declared.fault.Fault.{Fault}
use Rattle.ink_model.specs.declared.fault.Fault.TheVariants.{StackEmpty, TooDeep}
use Rattle.ink_model.specs.declared.value.Value.{Value}

-- what is taken off a stack
abbrev pub Pops : List Value → List Value → Option Value → Type 0
Pops old new None = (popped old ≡ None) × (new ≡ old)
Pops old new (Some v) = popped old ≡ Some (v, new)

-- a copy of what is at the top of a stack, where there is room for one more value
abbrev pub CopiesTop : Bool → Option (Value × List Value) → Result Value Fault → Type 0
CopiesTop room None result = result ≡ Err StackEmpty
CopiesTop true (Some r) result = Gives result (Ok r.0)
CopiesTop false (Some r) result = result ≡ Err TooDeep
