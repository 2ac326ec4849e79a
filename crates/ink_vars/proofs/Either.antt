-- What becomes of a trail, whether a call fails or not.
use Rattle.std.proofs.Common.{◌≡◌, ◌∙◌, ℕ, false, is_some, Result, Ok, Err, OnErr, arith, refl}
use Rattle.ink_trail.proofs.Undoing.{trails-after, trails-unmarked}
use Rattle.ink_trail.specs.Undo.{KeepsTrail, TrailView, TrailsOrKeeps}

module _ {E D : Type 0} (back : E → D → D) {A F : Type 0} where
  -- after room was made
  pub either-after : (r : Result A F) (n : ℕ) (was is : D) (old ready new : TrailView E) → KeepsTrail old ready → TrailsOrKeeps back n was ready is new r → TrailsOrKeeps back n was old is new r
  either-after (Ok a) n was is old ready new kept h = trails-after back n was is old ready new kept h
  either-after (Err f) n was is old ready new kept h = (h.0, (h.1.0 ∙ kept.0, omega (arith, h.1.1, kept.1)))

  -- while no mark stands
  pub either-unmarked : (r : Result A F) (n : ℕ) (was is : D) (t : TrailView E) → is_some t.undo ≡ false → OnErr r (is ≡ was) → TrailsOrKeeps back n was t is t r
  either-unmarked (Ok a) n was is t none same = trails-unmarked back n was is t t none (refl, omega arith)
  either-unmarked (Err f) n was is t none same = (same, (refl, omega arith))

pub on_err : {A F X : Type 0} (r : Result A F) → X → OnErr r X
on_err (Ok a) x = tt
on_err (Err f) x = x
