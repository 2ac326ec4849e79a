-- The effects of variables and pointers (docs/VARIABLES.md).
use Rattle.std.specs.Prelude.{ℕ, ℤ, List, Result}
use Rattle.ink_model.specs.Flow.Frames.{ThreadOf}
use Rattle.ink_model.specs.Run.Effect.{Context, Fields, Effect, Stores, or_fault, popping, pushing}
use Rattle.ink_model.specs.Run.Step.Evaluation.{push_value}
use Rattle.ink_model.specs.Variables.Access as variables
use Rattle.ink_model.specs.Variables.Access.{point, read}
use Rattle.ink_model.specs.Variables.Store.{Values}
use Rattle.ink_model.specs.declared.fault.Fault.{Fault}
use Rattle.ink_model.specs.declared.place.Part.{Part}
use Rattle.ink_model.specs.declared.scope.Scope.{Scope}

-- what a variable is read as is pushed
abbrev pub push_variable : List ℕ → Context → Fields → Effect
push_variable name seen f = or_fault (read f.globals seen.thread name) (λ v. pushing v f)

-- a pointer is a value; where its frame is not known, that is found as it is pushed
abbrev pub push_pointer : List ℕ → ℤ → Context → Fields → Effect
push_pointer name frame seen f = push_value (point seen.thread frame name) f

-- flow moves on with these variables
abbrev pub storing : Result (Values × ThreadOf (List Part)) Fault → Fields → Effect
storing r f = or_fault r (λ w. Stores w.1 (record f { globals = w.0 }))

-- what is popped becomes the value of a global, or of a temporary of the current frame
abbrev pub declare : Scope → List ℕ → Context → Fields → Effect
declare scope name seen f = popping f (λ v left. storing (variables.declare left.globals seen.thread scope name v) left)

-- what is popped becomes the value of the variable that the name leads to, which has to be there
abbrev pub assign : List ℕ → Context → Fields → Effect
assign name seen f = popping f (λ v left. storing (variables.assign left.globals seen.thread name v) left)
