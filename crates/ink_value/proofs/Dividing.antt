-- A quotient of two integers of 32 bits fits, where its divisor is not 0 and it is not the least integer by -1.
use Rattle.std.proofs.Common.{◌≡◌, ◌≢◌, ◌∙◌, ◌-◌, ◌/◌, ◌<◌, ℕ, ℤ, zero, suc, pos, negsuc, true, Ok, ap, arith, refl, sym}
use Rattle.std.proofs.Math.IntN.{neg_ℤ}
use Rattle.std.proofs.Math.Nat.{div-le_self, div-lt_self, div-one}
use Rattle.std.proofs.lemmas.Bool.{true≢false}
use Rattle.std.proofs.lemmas.Int.{to_z-of_z}
use Rattle.std.specs.Int.{cast_signed, cast_unsigned, w32}
use Rattle.std.specs.Int.RustNames.{FitsSigned}
use Rattle.std.specs.Int.Signed.{mag, mag_rem}
use Rattle.std.specs.Prelude.{int_div, int_rem}
use Rattle.ink_model.specs.Values.Operator.{can_divide, quotient, remainder}
use Rattle.ink_model.specs.declared.value.Value.TheVariants.{Int}

negated : (n : ℕ) → mag (neg_ℤ (pos n)) ≡ n - 1
negated zero = refl
negated (suc n) = omega arith

not_least : (a : ℕ) → can_divide (negsuc a) (negsuc zero) ≡ true → a ≢ 2147483647
not_least a h e = true≢false (sym h ∙ ap (λ n. can_divide (negsuc n) (negsuc zero)) e)

divides : (x y : ℤ) → FitsSigned w32 x → FitsSigned w32 y → can_divide x y ≡ true → (0 < cast_unsigned w32 y) × FitsSigned w32 (int_div x y)
divides x (pos zero) f g h = absurd (cc)
divides (pos a) (pos (suc b)) f g h = (omega arith, record { sfits = omega (arith, f.sfits, div-le_self a (suc b)) })
divides (pos a) (negsuc b) f g h = (omega (arith, g.sfits), record { sfits = omega (arith, f.sfits, div-le_self a (suc b), negated (a / suc b)) })
divides (negsuc a) (pos (suc b)) f g h = (omega arith, record { sfits = omega (arith, f.sfits, div-le_self (suc a) (suc b), negated (suc a / suc b)) })
divides (negsuc a) (negsuc zero) f g h = (omega arith, record { sfits = omega (arith, f.sfits, not_least a h, div-one (suc a)) })
divides (negsuc a) (negsuc (suc b)) f g h = (
  omega (arith, g.sfits),
  record { sfits = omega (arith, f.sfits, div-lt_self {n = suc a} {k = suc (suc b)} (omega arith) (omega arith)) },
)

-- an integer, as it is passed
abbrev pub passed : ℤ → ℤ
passed z = cast_signed w32 (cast_unsigned w32 z)

module _ (x y : ℤ) (f : FitsSigned w32 x) (g : FitsSigned w32 y) (h : can_divide (passed x) (passed y) ≡ true) where
  can : can_divide x y ≡ true
  can = rw (to_z-of_z w32 x f, to_z-of_z w32 y g) at h

  pub has_quotient : (0 < cast_unsigned w32 y) × FitsSigned w32 (int_div (passed x) (passed y))
  has_quotient = rw (to_z-of_z w32 x f, to_z-of_z w32 y g) (divides x y f g can)

  pub quotient_is : Ok (Int (passed (int_div (passed x) (passed y)))) ≡ quotient x y
  quotient_is = rw (to_z-of_z w32 x f, to_z-of_z w32 y g, to_z-of_z w32 (int_div x y) (divides x y f g can).1, can) refl

  remainder_fits : FitsSigned w32 (int_rem x y)
  remainder_fits = record { sfits = omega (arith, f.sfits, mag_rem x y) }

  pub remainder_is : Ok (Int (passed (int_rem (passed x) (passed y)))) ≡ remainder x y
  remainder_is = rw (to_z-of_z w32 x f, to_z-of_z w32 y g, to_z-of_z w32 (int_rem x y) remainder_fits, can) refl
