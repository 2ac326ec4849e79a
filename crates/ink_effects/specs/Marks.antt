-- Where a mark makes content ask for memory.
use Rattle.std.specs.Prelude.{ℕ, nat_lt, Bool, true, false, ◌&&◌, Option, is_some}
use Rattle.ink_model.specs.declared.content.Leaf.{Leaf}
use Rattle.ink_model.specs.declared.content.Leaf.TheVariants as leaves

-- a content takes a value off the stack and keeps it, so that while a mark stands it copies the value, or the one before
abbrev pub takes_value : Leaf → Bool
takes_value (leaves.Declare name) = true
takes_value (leaves.DeclareTemp name) = true
takes_value (leaves.Assign name) = true
takes_value (leaves.AssignTemp name) = true
takes_value l = false

-- a mark stands in a part, and fewer than n changes of it can be noted without memory
abbrev pub lacks : {A : Type 0} → Option A → ℕ → ℕ → Bool
lacks stood spare n = is_some stood && nat_lt spare n
