use Rattle.ink_out.specs.Undo.{output_back}
use Rattle.ink_trail.proofs.Undoing.{trails-more}
use Rattle.std.proofs.Common.{ap, arith}
use Rattle.ink_out.proofs.Closing.{any_below, handed_out, marked, below_len}
use Rattle.ink_out.proofs.output.Output.end_tag.Goals as goal

pub returns-then-has_string-clause-page : goal.returns-then-has_string-clause-page
returns-then-has_string-clause-page c =
    let below = any_below c.self.inside.sections.items c.deref.result.now c.args.self.now.page.sections c.depth-below.result _ (ap (λ w. w.page.sections) c.self.view_is) c.deref.ensures.value c.requires c.depth-below.ensures c.if-has_string.ensures in
    (handed_out c.args.text c.args.self.now.page c.close.new.self.page below c.in_ok-close.ensures.page.0, tt)

pub returns-clause-page : goal.returns-clause-page
returns-clause-page c =
    let below = any_below c.self.inside.sections.items c.deref.result.now c.args.self.now.page.sections c.depth-below.result _ (ap (λ w. w.page.sections) c.self.view_is) c.deref.ensures.value c.requires c.depth-below.ensures c.if-has_string.ensures in
    (marked c.args.text c.args.self.now.page c.close_with.new.self.page below c.in_ok-close_with.ensures.page.0, tt)

pub slice_bounds-has_string-end : goal.slice_bounds-has_string-end
slice_bounds-has_string-end c = below_len c.self.inside.sections.items c.deref.result.now c.args.self.now.page.sections c.depth-below.result (ap (λ w. w.page.sections) c.self.view_is) c.deref.ensures.value c.depth-below.ensures

pub returns-then-has_string-clause-trail : goal.returns-then-has_string-clause-trail
returns-then-has_string-clause-trail c = trails-more output_back 1 2 _ _ _ _ (omega arith) c.in_ok-close.ensures.trail
