use Rattle.std.proofs.Common.{◌∙◌, ap, refl, subst, sym}
use Rattle.ink_out.proofs.Common.{IsStateOf, but_last}
use Rattle.ink_out.proofs.section.Section.take_back.Goals as goal

pub invariant_of-self : goal.invariant_of-self
invariant_of-self c =
    let fits = subst (λ marks. IsStateOf marks c.args.state) (ap but_last (sym c.self.view_is) ∙ sym c.take_last_back.ensures.marks) c.requires in
    c.take_last_back.ensures.sees c.args.state c.self.inside.state refl fits c.self.invariant
