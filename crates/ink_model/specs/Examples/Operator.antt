-- Small worked examples of values and operators, each proved by computation (docs/VALUES.md).
use Rattle.std.specs.Prelude.{◌≡◌, ℕ, pos, negsuc, List, [], ◌∷◌, length, refl, codes, true, false, Result, Ok, Err}
use Rattle.std.specs.Fmt.{digits}
use Rattle.ink_model.specs.Values.Operator.{apply, joined_text}
use Rattle.ink_model.specs.Values.Value.{printed, is_true}
use Rattle.ink_model.specs.declared.fault.Fault.{Fault}
use Rattle.ink_model.specs.declared.fault.Fault.TheVariants.{BadOperands, Divide, TooDeep}
use Rattle.ink_model.specs.declared.operator.Op.{Op}
use Rattle.ink_model.specs.declared.operator.Op.TheVariants as op
use Rattle.ink_model.specs.declared.place.Part.TheVariants.{Index, Name}
use Rattle.ink_model.specs.declared.value.Value.{Value}
use Rattle.ink_model.specs.declared.value.Value.TheVariants.{Int, Bool as Truth, Text, Target, Pointer, Void, Tag}

-- two operands
abbrev two : Op → Value → Value → Result Value Fault
two operator v w = apply operator (v ∷ w ∷ [])

abbrev one : Op → Value → Result Value Fault
one operator v = apply operator (v ∷ [])

-- ---- arithmetic

a_sum : two op.Add (Int (pos 2)) (Int (pos 3)) ≡ Ok (Int (pos 5))
unfolding apply
a_sum = refl

-- past the most, a sum wraps to the least
a_sum_wraps : two op.Add (Int (pos 2147483647)) (Int (pos 1)) ≡ Ok (Int (negsuc 2147483647))
unfolding apply
a_sum_wraps = refl

the_left_less_the_right : two op.Subtract (Int (pos 2)) (Int (pos 3)) ≡ Ok (Int (negsuc 0))
unfolding apply
the_left_less_the_right = refl

a_product_wraps : two op.Multiply (Int (pos 65536)) (Int (pos 65537)) ≡ Ok (Int (pos 65536))
unfolding apply
a_product_wraps = refl

-- -7 / 2 is -3, and leaves -1
toward_zero : two op.Divide (Int (negsuc 6)) (Int (pos 2)) ≡ Ok (Int (negsuc 2))
unfolding apply
toward_zero = refl

sign_of_the_dividend : two op.Remainder (Int (negsuc 6)) (Int (pos 2)) ≡ Ok (Int (negsuc 0))
unfolding apply
sign_of_the_dividend = refl

not_of_the_divisor : two op.Remainder (Int (pos 7)) (Int (negsuc 1)) ≡ Ok (Int (pos 1))
unfolding apply
not_of_the_divisor = refl

by_zero : two op.Divide (Int (pos 1)) (Int (pos 0)) ≡ Err Divide
unfolding apply
by_zero = refl

rest_by_zero : two op.Remainder (Int (pos 1)) (Truth false) ≡ Err Divide
unfolding apply
rest_by_zero = refl

least_by_minus_one : two op.Divide (Int (negsuc 2147483647)) (Int (negsuc 0)) ≡ Err Divide
unfolding apply
least_by_minus_one = refl

-- ---- one operand

the_least_negated : one op.Negate (Int (negsuc 2147483647)) ≡ Ok (Int (negsuc 2147483647))
unfolding apply
the_least_negated = refl

a_truth_negated : one op.Negate (Truth true) ≡ Ok (Int (negsuc 0))
unfolding apply
a_truth_negated = refl

not_two : one op.Not (Int (pos 2)) ≡ Ok (Truth false)
unfolding apply
not_two = refl

floor_of_a_truth : one op.Floor (Truth true) ≡ Ok (Int (pos 1))
unfolding apply
floor_of_a_truth = refl

no_number_of_a_text : one op.Int (Text (codes "1")) ≡ Err BadOperands
unfolding apply
no_number_of_a_text = refl

-- an operator of two has no result for one
one_too_few : one op.Add (Int (pos 1)) ≡ Err BadOperands
unfolding apply
one_too_few = refl

-- ---- comparisons, logic and extremes

below : two op.Less (Int (negsuc 0)) (Int (pos 0)) ≡ Ok (Truth true)
unfolding apply
below = refl

not_above_itself : two op.Greater (Int (pos 4)) (Int (pos 4)) ≡ Ok (Truth false)
unfolding apply
not_above_itself = refl

at_least_itself : two op.AtLeast (Int (pos 4)) (Int (pos 4)) ≡ Ok (Truth true)
unfolding apply
at_least_itself = refl

two_and_zero : two op.And (Int (pos 2)) (Truth false) ≡ Ok (Truth false)
unfolding apply
two_and_zero = refl

two_or_zero : two op.Or (Int (pos 2)) (Int (pos 0)) ≡ Ok (Truth true)
unfolding apply
two_or_zero = refl

the_lesser : two op.Min (Int (negsuc 4)) (Int (pos 3)) ≡ Ok (Int (negsuc 4))
unfolding apply
the_lesser = refl

the_greater : two op.Max (Int (negsuc 4)) (Truth true) ≡ Ok (Int (pos 1))
unfolding apply
the_greater = refl

-- ---- operands of different kinds

two_truths_are_numbers : two op.Add (Truth true) (Truth true) ≡ Ok (Int (pos 2))
unfolding apply
two_truths_are_numbers = refl

a_truth_is_one : two op.Equal (Truth true) (Int (pos 1)) ≡ Ok (Truth true)
unfolding apply
a_truth_is_one = refl

a_number_is_written : two op.Add (Text (codes "a")) (Int (negsuc 11)) ≡ Ok (Text (codes "a-12"))
unfolding apply digits
a_number_is_written = refl

a_truth_is_written : two op.Add (Truth true) (Text (codes "!")) ≡ Ok (Text (codes "true!"))
unfolding apply
a_truth_is_written = refl

-- ---- texts

equal_texts : two op.Equal (Text (codes "1")) (Int (pos 1)) ≡ Ok (Truth true)
unfolding apply digits
equal_texts = refl

stands_in : two op.Has (Text (codes "abcd")) (Text (codes "bc")) ≡ Ok (Truth true)
unfolding apply
stands_in = refl

does_not_stand_in : two op.Has (Text (codes "bc")) (Text (codes "abcd")) ≡ Ok (Truth false)
unfolding apply
does_not_stand_in = refl

the_empty_text_stands_in : two op.HasNot (Text []) (Text []) ≡ Ok (Truth false)
unfolding apply
the_empty_text_stands_in = refl

texts_have_no_order : two op.Less (Text (codes "a")) (Text (codes "b")) ≡ Err BadOperands
unfolding apply
texts_have_no_order = refl

one_byte_too_long : (t : List ℕ) → length t ≡ 1048577 → joined_text t ≡ Err TooDeep
one_byte_too_long t h = rw h refl

as_long_as_can_be : (t : List ℕ) → length t ≡ 1048576 → joined_text t ≡ Ok (Text t)
as_long_as_can_be t h = rw h refl

-- ---- divert targets

targets_are_equal : two op.Equal (Target (record { relative = false; parts = Name (codes "k") ∷ Index 0 ∷ [] })) (Target (record { relative = false; parts = Name (codes "k") ∷ Index 0 ∷ [] })) ≡ Ok (Truth true)
unfolding apply
targets_are_equal = refl

a_longer_target : two op.NotEqual (Target (record { relative = false; parts = Index 0 ∷ [] })) (Target (record { relative = false; parts = Index 0 ∷ Index 0 ∷ [] })) ≡ Ok (Truth true)
unfolding apply
a_longer_target = refl

no_target_and_text : two op.Equal (Target (record { relative = false; parts = Index 0 ∷ [] })) (Text (codes "0")) ≡ Err BadOperands
unfolding apply
no_target_and_text = refl

void_has_no_equal : two op.Equal Void Void ≡ Err BadOperands
unfolding apply
void_has_no_equal = refl

-- ---- printed text and truth

printed_number : printed (Int (negsuc 0)) ≡ Ok (codes "-1")
unfolding printed digits
printed_number = refl

printed_truth : printed (Truth false) ≡ Ok (codes "false")
unfolding printed
printed_truth = refl

printed_void : printed Void ≡ Ok []
unfolding printed
printed_void = refl

no_printed_pointer : printed (Pointer (pos 0) (codes "x")) ≡ Err BadOperands
unfolding printed
no_printed_pointer = refl

zero_is_false : is_true (Int (pos 0)) ≡ Ok false
unfolding is_true
zero_is_false = refl

the_text_false_is_true : is_true (Text (codes "false")) ≡ Ok true
unfolding is_true
the_text_false_is_true = refl

the_empty_text_is_false : is_true (Text []) ≡ Ok false
unfolding is_true
the_empty_text_is_false = refl

a_tag_is_neither : is_true (Tag (codes "t")) ≡ Err BadOperands
unfolding is_true
a_tag_is_neither = refl
