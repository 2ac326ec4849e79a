-- The evaluation stack, from the bottom (docs/RUNNING.md, "Evaluation").
use Rattle.std.specs.Prelude.{ℕ, zero, suc, List, [], ◌∷◌, ◌++◌, length, nat_lt, if◌then◌else◌, Option, Some, None, option_and_then, Result, Ok, Err}
use Rattle.std.specs.Option.{option_map}
use Rattle.ink_model.specs.Values.Operator.{apply, takes}
use Rattle.ink_model.specs.declared.fault.Fault.{Fault}
use Rattle.ink_model.specs.declared.fault.Fault.TheVariants.{StackEmpty, TooDeep}
use Rattle.ink_model.specs.declared.limits.TheConstants.{MAX_STACK}
use Rattle.ink_model.specs.declared.operator.Op.{Op}
use Rattle.ink_model.specs.declared.value.Value.{Value}

-- with a value on top, while there is room
abbrev pub pushed : Value → List Value → Result (List Value) Fault
pushed v vs = if nat_lt (length vs) MAX_STACK then Ok (vs ++ v ∷ []) else Err TooDeep

-- the top, and what is below it
abbrev pub popped : List Value → Option (Value × List Value)
popped [] = None
popped (v ∷ []) = Some (v, [])
popped (v ∷ w ∷ vs) = option_map (λ r. (r.0, v ∷ r.1)) (popped (w ∷ vs))

-- the values at the top, as many as are asked for, in the order in which they were pushed, and what is below them
abbrev pub taken : ℕ → List Value → List Value → Option (List Value × List Value)
taken zero vs above = Some (above, vs)
taken (suc n) vs above = option_and_then (λ r. taken n r.1 (r.0 ∷ above)) (popped vs)

-- ---- operators

abbrev pub on_top : List Value → Result Value Fault → Result (List Value) Fault
on_top below (Ok v) = Ok (below ++ v ∷ [])
on_top below (Err f) = Err f

abbrev pub applied_to : Op → Option (List Value × List Value) → Result (List Value) Fault
applied_to o None = Err StackEmpty
applied_to o (Some r) = on_top r.1 (apply o r.0)

-- an operator takes all its operands off before their kinds are looked at, and what it makes of them is on top
abbrev pub applied : Op → List Value → Result (List Value) Fault
applied o vs = applied_to o (taken (takes o) vs [])
