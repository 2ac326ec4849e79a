-- The evaluation stack, as contracts see it.
use Rattle.std.specs.Prelude.{List, [], ◌∷◌, ◌++◌, Option, Some, None}
use Rattle.ink_model.specs.declared.value.Value.{Value}
use Rattle.ink_trail.specs.Undo.{TrailView}
use Rattle.ink_value.specs.declared.undo.StackPair.{StackPair}

-- its values, the bottom first, and the trail of what they were
pub record Stack : Type 0 where
  pub items : List Value
  pub trail : TrailView StackPair

-- what was popped, with another value in the place of the one on top
abbrev pub with_top : Value → Option (Value × List Value) → Option (List Value)
with_top v None = None
with_top v (Some r) = Some (r.1 ++ v ∷ [])
