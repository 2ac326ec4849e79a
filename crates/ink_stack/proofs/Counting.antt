-- How many changes a trail counts.
use Rattle.std.proofs.Common.{◌≡◌, ◌∙◌, ap, refl, ℕ, false, is_some, Option, None, Some}
use Rattle.ink_trail.specs.Undo.{Undo, with_count, with_pair, writes_of}

module _ {E : Type 0} where
  of_pair : (e : E) (n : ℕ) (u : Option (Undo E)) → writes_of (with_pair e n u) ≡ writes_of (with_count n u)
  of_pair e n None = refl
  of_pair e n (Some u) = refl

  -- with a pair as many as without
  pub writes-noted : (e : E) (n : ℕ) (old new : Option (Undo E)) → new ≡ with_pair e n old → writes_of new ≡ writes_of (with_count n old)
  writes-noted e n old new noted = ap writes_of noted ∙ of_pair e n old

  -- none without a mark
  pub writes-unmarked : (n : ℕ) (u : Option (Undo E)) → is_some u ≡ false → writes_of u ≡ writes_of (with_count n u)
  writes-unmarked n None none = refl
  writes-unmarked n (Some u) none = absurd (cc)
