-- Operators (docs/VALUES.md, "Operators").
use Rattle.std.specs.Prelude.{ℕ, ℤ, pos, negsuc, List, [], ◌∷◌, ◌++◌, Bool, true, false, not, ◌&&◌, ◌||◌, bytes_eq, int_lt, int_le, int_div, int_rem, if◌then◌else◌, Result, Ok, Err}
use Rattle.std.specs.Fmt.{signed_decimal}
use Rattle.std.specs.Int.{w32, int_wrapping_add, int_wrapping_sub, int_wrapping_mul, int_wrapping_neg, int_min, int_max}
use Rattle.std.specs.Ordering.{int_eq}
use Rattle.ink_model.specs.Text.Bytes.{fits_text, has}
use Rattle.ink_model.specs.Values.Value.{truth_text, same_path}
use Rattle.ink_model.specs.declared.fault.Fault.{Fault}
use Rattle.ink_model.specs.declared.fault.Fault.TheVariants.{BadOperands, Divide, TooDeep}
use Rattle.ink_model.specs.declared.operator.Op.{Op}
use Rattle.ink_model.specs.declared.operator.Op.TheVariants as op
use Rattle.ink_model.specs.declared.place.Path.{Path}
use Rattle.ink_model.specs.declared.value.Value.{Value}
use Rattle.ink_model.specs.declared.value.Value.TheVariants.{Int, Bool as Truth, Text, Target, Pointer, Void, Tag}

-- ---- operands

-- What an operand can be taken for: an integer or a boolean is a number, and has a text too.
pub data Operand : Type 0 where
  number : ℤ → List ℕ → Operand
  words : List ℕ → Operand
  target : Path → Operand
  other : Operand

abbrev pub truth_number : Bool → ℤ
truth_number true = pos 1
truth_number false = pos 0

abbrev pub operand : Value → Operand
operand (Int z) = number z (signed_decimal z)
operand (Truth b) = number (truth_number b) (truth_text b)
operand (Text t) = words t
operand (Target p) = target p
operand (Pointer i n) = other
operand Void = other
operand (Tag t) = other

-- two operands as the higher of their kinds
pub data Operands : Type 0 where
  numbers : ℤ → ℤ → Operands
  texts : List ℕ → List ℕ → Operands
  targets : Path → Path → Operands
  unlike : Operands

abbrev pub both : Operand → Operand → Operands
both (number x s) (number y t) = numbers x y
both (number x s) (words t) = texts s t
both (words s) (number y t) = texts s t
both (words s) (words t) = texts s t
both (target p) (target q) = targets p q
both a b = unlike

-- ---- integers, of 32 bits, which wrap

abbrev pub least : ℤ
least = negsuc 2147483647

-- a quotient has no divisor 0, and fits
abbrev pub can_divide : ℤ → ℤ → Bool
can_divide x y = not (int_eq y (pos 0)) && not (int_eq x least && int_eq y (negsuc 0))

-- truncated toward zero; the remainder has the dividend's sign
abbrev pub quotient : ℤ → ℤ → Result Value Fault
quotient x y = if can_divide x y then Ok (Int (int_div x y)) else Err Divide

abbrev pub remainder : ℤ → ℤ → Result Value Fault
remainder x y = if can_divide x y then Ok (Int (int_rem x y)) else Err Divide

abbrev pub is_set : ℤ → Bool
is_set z = not (int_eq z (pos 0))

abbrev pub of_numbers : Op → ℤ → ℤ → Result Value Fault
of_numbers op.Add x y = Ok (Int (int_wrapping_add w32 x y))
of_numbers op.Subtract x y = Ok (Int (int_wrapping_sub w32 x y))
of_numbers op.Divide x y = quotient x y
of_numbers op.Multiply x y = Ok (Int (int_wrapping_mul w32 x y))
of_numbers op.Remainder x y = remainder x y
of_numbers op.Equal x y = Ok (Truth (int_eq x y))
of_numbers op.Greater x y = Ok (Truth (int_lt y x))
of_numbers op.Less x y = Ok (Truth (int_lt x y))
of_numbers op.AtLeast x y = Ok (Truth (int_le y x))
of_numbers op.AtMost x y = Ok (Truth (int_le x y))
of_numbers op.NotEqual x y = Ok (Truth (not (int_eq x y)))
of_numbers op.And x y = Ok (Truth (is_set x && is_set y))
of_numbers op.Or x y = Ok (Truth (is_set x || is_set y))
of_numbers op.Min x y = Ok (Int (int_min x y))
of_numbers op.Max x y = Ok (Int (int_max x y))
of_numbers operator x y = Err BadOperands

-- ---- texts

abbrev pub joined_text : List ℕ → Result Value Fault
joined_text t = if fits_text t then Ok (Text t) else Err TooDeep

abbrev pub of_texts : Op → List ℕ → List ℕ → Result Value Fault
of_texts op.Add s t = joined_text (s ++ t)
of_texts op.Equal s t = Ok (Truth (bytes_eq s t))
of_texts op.NotEqual s t = Ok (Truth (not (bytes_eq s t)))
of_texts op.Has s t = Ok (Truth (has s t))
of_texts op.HasNot s t = Ok (Truth (not (has s t)))
of_texts operator s t = Err BadOperands

-- ---- divert targets

abbrev pub of_targets : Op → Path → Path → Result Value Fault
of_targets op.Equal p q = Ok (Truth (same_path p q))
of_targets op.NotEqual p q = Ok (Truth (not (same_path p q)))
of_targets operator p q = Err BadOperands

-- ---- all operators

-- how many values an operator takes
abbrev pub takes : Op → ℕ
takes op.Negate = 1
takes op.Not = 1
takes op.Floor = 1
takes op.Ceiling = 1
takes op.Int = 1
takes operator = 2

abbrev pub of_one : Op → Operand → Result Value Fault
of_one op.Negate (number x s) = Ok (Int (int_wrapping_neg w32 x))
of_one op.Not (number x s) = Ok (Truth (not (is_set x)))
of_one op.Floor (number x s) = Ok (Int x)
of_one op.Ceiling (number x s) = Ok (Int x)
of_one op.Int (number x s) = Ok (Int x)
of_one operator a = Err BadOperands

abbrev pub of_two : Op → Operands → Result Value Fault
of_two operator (numbers x y) = of_numbers operator x y
of_two operator (texts s t) = of_texts operator s t
of_two operator (targets p q) = of_targets operator p q
of_two operator unlike = Err BadOperands

-- what an operator makes of as many values as it takes, in the order in which they were pushed
unfoldable pub apply : Op → List Value → Result Value Fault
apply operator (v ∷ []) = of_one operator (operand v)
apply operator (v ∷ w ∷ []) = of_two operator (both (operand v) (operand w))
apply operator vs = Err BadOperands
