-- At most one line of a run.
use Rattle.std.proofs.Common.{◌≡◌, sym, ap, ◌∙◌, ℕ, suc, inl, inr}
use Rattle.ink_model.specs.Host.Bindings.{Bound}
use Rattle.ink_model.specs.Run.Moments.{Moment}
use Rattle.ink_model.specs.Story.Tree.{StoryTree}
use Rattle.ink_model.specs.Run.Line.{IsLineOf}
use Rattle.ink_line.proofs.Looks.{order}

pub one_line : (s : StoryTree) (b : Bound) (limit : ℕ) (m : ℕ → Moment) (x y : Moment) → IsLineOf s b limit m x → IsLineOf s b limit m y → x ≡ y
one_line s b limit m x y (inl h) (inl k) = elim (order k.step h.step) [
  | inl below ↦ absurd (k.first h.step below h.firm)
  | inr (inl above) ↦ absurd (h.first k.step above k.firm)
  | inr (inr same) ↦ sym h.ends ∙ (ap (λ n. m (suc n)) (sym same) ∙ k.ends)
]
one_line s b limit m x y (inl h) (inr k) = absurd (k.none h.step h.firm)
one_line s b limit m x y (inr h) (inl k) = absurd (h.none k.step k.firm)
one_line s b limit m x y (inr h) (inr k) = sym h.ends ∙ k.ends
