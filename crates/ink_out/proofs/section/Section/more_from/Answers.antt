use Rattle.std.proofs.Common.{reverse, ap, ◌∙◌}
use Rattle.ink_model.specs.Text.Shown.{more_from}
use Rattle.ink_out.proofs.Answering.{more_of}
use Rattle.ink_out.proofs.section.Section.more_from.Goals as goal

pub returns : goal.returns
returns c =
    let s = c.self.inside in
    c.is_past.ensures ∙ more_of s.marks.items (reverse s.settled.items) s.state c.args.index c.self.invariant.stands ∙ ap (λ ms. more_from ms c.args.index) c.self.view_is
