use Rattle.std.proofs.Common.{◌≡◌, ◌∙◌, ◌↔◌, Bool, IsTrue, inl, inr, refl, subst, sym}
use Rattle.ink_model.specs.Save.Sound.{PathFits, ValueFits}
use Rattle.ink_restore.proofs.Common.{StoryTree, Value, story_tree}
use Rattle.ink_restore.proofs.fitting.value_fits.Goals as goal

fits_as : (s : StoryTree) (b : Bool) (v w : Value) → v ≡ w → IsTrue b ↔ ValueFits s v → IsTrue b ↔ ValueFits s w
fits_as s b v w same h = subst (λ x. IsTrue b ↔ ValueFits s x) same h

pub returns-in-Bool : goal.returns-in-Bool
returns-in-Bool c =
    let s = story_tree c.args.tree.now in
    elim c.in-Bool.is [
      | inl p ↦ fits_as s _ _ _ (sym p.1 ∙ c.get.ensures.value) (λ k. tt, λ k. refl)
      | inr e ↦ fits_as s _ _ _ (sym e ∙ c.get.ensures.value) (λ k. tt, λ k. refl)
    ]

pub returns-in-Target : goal.returns-in-Target
returns-in-Target c =
    let s = story_tree c.args.tree.now in
    fits_as s _ _ _ (sym c.in-Target.is ∙ c.get.ensures.value) (subst (λ p. IsTrue c.leads.result ↔ PathFits s p) c.get-in-Target.ensures c.leads.ensures)
