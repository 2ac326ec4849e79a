use Rattle.std.proofs.Common.{◌∙◌, ◌<◌, ap, arith, length, subst, sym}
use Rattle.ink_out.proofs.Common.{nil_from_length, IsStateOf, page_of, but_last}
use Rattle.ink_out.specs.Undo.{open_marks, with_open}
use Rattle.ink_out.proofs.Undoing.{last_open, last_with}
use Rattle.ink_out.proofs.undo.unwrite.Goals as goal

pub take_back-requires : goal.take_back-requires
take_back-requires c =
    subst (λ sections. IsStateOf (but_last (open_marks (page_of c.args.line.now sections 0))) c.args.state) (nil_from_length c.args.sections.now c.in-0.is) (c.requires 0)

pub take_back-requires-in_default : goal.take_back-requires-in_default
take_back-requires-in_default c =
    let some : 0 < length c.args.sections.now = grind arith in
    subst (λ ms. IsStateOf (but_last ms) c.args.state) (last_open c.args.line.now c.args.sections.now 0 c.index-sections-open.result some) (c.requires 0)

pub returns-in_default : goal.returns-in_default
returns-in_default c = λ n.
    let some : 0 < length c.args.sections.now = grind arith in
    let is = c.take_back-in_default.ensures in
    last_with c.args.line.now c.args.sections.now n c.index-sections-open.result c.take_back-in_default.new.self some (ap (λ s. s.kind) is)
    ∙ ap (λ ms. with_open ms (page_of c.args.line.now c.args.sections.now n))
    (ap (λ s. s.marks) is ∙ ap but_last (sym (last_open c.args.line.now c.args.sections.now n c.index-sections-open.result some)))
