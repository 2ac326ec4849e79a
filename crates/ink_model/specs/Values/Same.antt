-- When two values are the same: of one kind, with the same content (docs/VALUES.md).
use Rattle.std.specs.Prelude.{Bool, true, false, ◌&&◌, bytes_eq}
use Rattle.std.specs.Ordering.{int_eq}
use Rattle.ink_model.specs.Values.Value.{same_path, same_truth}
use Rattle.ink_model.specs.declared.value.Value.{Value}
use Rattle.ink_model.specs.declared.value.Value.TheVariants.{Int, Bool as Truth, Text, Target, Pointer, Void, Tag}

-- targets by all their components, pointers by number and name
abbrev pub same_value : Value → Value → Bool
same_value (Int i) (Int j) = int_eq i j
same_value (Truth b) (Truth c) = same_truth b c
same_value (Text t) (Text u) = bytes_eq t u
same_value (Target p) (Target q) = same_path p q
same_value (Pointer i n) (Pointer j m) = int_eq i j && bytes_eq n m
same_value Void Void = true
same_value (Tag t) (Tag u) = bytes_eq t u
same_value v w = false
