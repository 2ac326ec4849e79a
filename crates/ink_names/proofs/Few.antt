-- Names of a few bytes, which are the same where their numbers are.
use Rattle.std.proofs.Common.{◌≡◌, ◌∙◌, ◌<◌, ◌≤◌, ◌+◌, ◌-◌, ◌*◌, ℕ, Bool, true, false, List, bytes_eq, ap, arith, ext_get_or, get_or, inl, inr, length, refl, sym, subst}
use Rattle.std.proofs.Math.Dec.{eqb}
use Rattle.std.proofs.lemmas.Bool.{cases_lt, true≢false}
use Rattle.std.proofs.lemmas.Bool.Decides.{Decides-eqb}
use Rattle.std.proofs.lemmas.Slice.Eq.{bytes_eq-Decides}
use Rattle.ink_names.specs.Few.{four_at}

-- each is a byte
abbrev pub AreBytes : List ℕ → Type 0
AreBytes xs = (k : ℕ) → get_or xs k 0 < 256

pub same_where : (xs ys : List ℕ) → length xs ≡ length ys → ((k : ℕ) → k < length xs → get_or xs k 0 ≡ get_or ys k 0) → true ≡ bytes_eq xs ys
same_where xs ys len each = sym ((bytes_eq-Decides xs ys).1 (ext_get_or 0 xs ys len each))

pub other_where : (xs ys : List ℕ) → (xs ≡ ys → ⊥) → false ≡ bytes_eq xs ys
other_where xs ys apart = by (bytes_eq xs ys) refl
  where
    by : (b : Bool) → bytes_eq xs ys ≡ b → false ≡ b
    by true e = absurd (apart ((bytes_eq-Decides xs ys).0 e))
    by false e = refl

pub four_same : (a b c d e f g h : ℕ) → a < 256 → b < 256 → c < 256 → d < 256 → e < 256 → f < 256 → g < 256 → h < 256
    → a + 256 * b + 65536 * c + 16777216 * d ≡ e + 256 * f + 65536 * g + 16777216 * h → (a ≡ e) × (b ≡ f) × (c ≡ g) × (d ≡ h)
four_same a b c d e f g h p q r s t u v w is = (omega arith, omega arith, omega arith, omega arith)

-- an element at an index, where that is known
at_index : (xs ys : List ℕ) (k i : ℕ) → k ≡ i → get_or xs i 0 ≡ get_or ys i 0 → get_or xs k 0 ≡ get_or ys k 0
at_index xs ys k i is same = subst (λ n. get_or xs n 0 ≡ get_or ys n 0) (sym is) same

-- four bytes by their number
pub four_from : (xs ys : List ℕ) (at : ℕ) → AreBytes xs → AreBytes ys → four_at xs at ≡ four_at ys at → (k : ℕ) → at ≤ k → k < at + 4 → get_or xs k 0 ≡ get_or ys k 0
four_from xs ys at p q is k low high =
    let each = four_same _ _ _ _ _ _ _ _ (p at) (p (at + 1)) (p (at + 2)) (p (at + 3)) (q at) (q (at + 1)) (q (at + 2)) (q (at + 3)) is in
    elim (cases_lt k (at + 1)) [
      | inl first ↦ at_index xs ys k at (omega (arith, first, low)) each.0
      | inr past ↦ elim (cases_lt k (at + 2)) [
        | inl second ↦ at_index xs ys k (at + 1) (omega (arith, second, past)) each.1
        | inr further ↦ elim (cases_lt k (at + 3)) [
          | inl third ↦ at_index xs ys k (at + 2) (omega (arith, third, further)) each.2
          | inr last ↦ at_index xs ys k (at + 3) (omega (arith, last, high)) each.3
        ]
      ]
    ]

-- four to eight bytes
module _ (xs ys : List ℕ) (len : length xs ≡ length ys) (p : AreBytes xs) (q : AreBytes ys) (least : 4 ≤ length xs) (most : length xs ≤ 8) (first : four_at xs 0 ≡ four_at ys 0) where
  ends_same : four_at xs (length xs - 4) ≡ four_at ys (length xs - 4) → true ≡ bytes_eq xs ys
  ends_same last = same_where xs ys len (λ k within. elim (cases_lt k 4) [
    | inl early ↦ four_from xs ys 0 p q first k (omega arith) (omega (arith, early))
    | inr late ↦ four_from xs ys (length xs - 4) p q last k (omega (arith, late, most)) (omega (arith, within, least))
  ])

  pub same_by_last : (r : Bool) → r ≡ eqb (four_at xs (length xs - 4)) (four_at ys (length xs - 4)) → r ≡ bytes_eq xs ys
  same_by_last true is = ends_same ((Decides-eqb _ _).0 (sym is))
  same_by_last false is = other_where xs ys (λ e. true≢false (sym ((Decides-eqb _ _).1 (ap (λ l. four_at l (length xs - 4)) e)) ∙ sym is))
