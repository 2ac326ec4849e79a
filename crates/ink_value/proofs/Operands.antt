-- A value that stands for a number has its number and its printed text as an operand.
use Rattle.std.proofs.Common.{◌≡◌, ◌≢◌, Bool, ℕ, ℤ, pos, List, [], ◌∷◌, true, false, if◌then◌else◌, get_or, is_some, length, unwrap_or, Some, Result, Ok, Err, arith, refl}
use Rattle.ink_model.specs.Values.Operator.{apply, can_divide, operand, number, both, of_numbers, of_texts, of_two}
use Rattle.ink_model.specs.Values.Value.{printed}
use Rattle.ink_model.specs.declared.fault.Fault.{Fault}
use Rattle.ink_model.specs.declared.fault.Fault.TheVariants.{Divide, OutOfMemory}
use Rattle.ink_model.specs.declared.operator.Op.{Op}
use Rattle.ink_model.specs.declared.operator.Op.TheVariants as op
use Rattle.ink_model.specs.declared.value.Value.{Value}
use Rattle.ink_model.specs.declared.value.Value.TheVariants.{Int, Bool as Truth, Text, Target, Pointer, Void, Tag}
use Rattle.ink_model.specs.Memory.Refusals.{Gives}
use Rattle.ink_value.specs.Standing.{number_of, number_text}

pub as_number : (v : Value) (z : ℤ) → number_of v ≡ Some z → (operand v ≡ number z (number_text v)) × (printed v ≡ Ok (number_text v))
unfolding printed
as_number (Int x) z h = (cc, refl)
as_number (Truth b) z h = (cc, refl)
as_number (Text t) z h = absurd cc
as_number (Target p) z h = absurd cc
as_number (Pointer i n) z h = absurd cc
as_number Void z h = absurd cc
as_number (Tag t) z h = absurd cc

pub operand_number : (v : Value) (z : ℤ) → number_of v ≡ Some z → operand v ≡ number z (number_text v)
operand_number v z h = (as_number v z h).0

pub printed_number : (v : Value) (z : ℤ) → number_of v ≡ Some z → printed v ≡ Ok (number_text v)
printed_number v z h = (as_number v z h).1

-- the same of a value that stands for some number
counted : (v : Value) → is_some (number_of v) ≡ true → number_of v ≡ Some (unwrap_or (number_of v) (pos 0))
counted (Int z) h = refl
counted (Truth b) h = refl
counted (Text t) h = absurd cc
counted (Target p) h = absurd cc
counted (Pointer i n) h = absurd cc
counted Void h = absurd cc
counted (Tag t) h = absurd cc

pub operand_counted : (v : Value) → is_some (number_of v) ≡ true → operand v ≡ number (unwrap_or (number_of v) (pos 0)) (number_text v)
operand_counted v h = operand_number v (unwrap_or (number_of v) (pos 0)) (counted v h)

pub printed_counted : (v : Value) → is_some (number_of v) ≡ true → printed v ≡ Ok (number_text v)
printed_counted v h = printed_number v (unwrap_or (number_of v) (pos 0)) (counted v h)

-- a number before a text is printed
pub text_before : (operator : Op) (v w : Value) (s t : List ℕ) (r : Result Value Fault) → is_some (number_of v) ≡ true → printed v ≡ Ok s → w ≡ Text t
    → Gives r (of_texts operator s t) → Gives r (of_two operator (both (operand v) (operand w)))
text_before operator v w s t r is_number shown is_text h =
    let same : s ≡ number_text v = cc (printed_counted v is_number) in
    rw (operand_counted v is_number, is_text, ← same) h

-- what is made of two numbers takes no memory
divided : (b : Bool) (v : Value) → (if b then Ok v else Err Divide) ≢ Err OutOfMemory
divided true v h = absurd (cc)
divided false v h = absurd (cc)

pub without_memory : (o : Op) (x y : ℤ) → of_numbers o x y ≢ Err OutOfMemory
without_memory op.Divide x y h = divided (can_divide x y) _ h
without_memory op.Remainder x y h = divided (can_divide x y) _ h
without_memory o x y h = absurd (cc)

-- a list of two
pub two_values : (vs : List Value) (v w d e : Value) → length vs ≡ 2 → v ≡ get_or vs 0 d → w ≡ get_or vs 1 e → vs ≡ v ∷ w ∷ []
two_values [] v w d e two p q = absurd (cc)
two_values (a ∷ []) v w d e two p q = absurd (omega arith)
two_values (a ∷ b ∷ []) v w d e two p q = rw (p, q) refl
two_values (a ∷ b ∷ x ∷ xs) v w d e two p q = absurd (omega arith)

pub gives_two : (o : Op) (vs : List Value) (v w : Value) (r : Result Value Fault) → vs ≡ v ∷ w ∷ [] → Gives r (of_two o (both (operand v) (operand w))) → Gives r (apply o vs)
unfolding apply
gives_two o vs v w r two h = rw two h
