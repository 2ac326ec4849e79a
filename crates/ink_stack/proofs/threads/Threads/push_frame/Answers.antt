use Rattle.std.proofs.Common.{◌∙◌, sym}
use Rattle.ink_stack.proofs.Common.{frame_pushed, top_result, frame_kind, threads_in}
use Rattle.ink_stack.proofs.Bases.{top_grows}
use Rattle.ink_stack.proofs.Holding.{held-moved}
use Rattle.ink_stack.specs.declared.undo.ThreadsPair.TheVariants.{FramePushed}
use Rattle.ink_stack.proofs.Unmarked.{spare-or, stood-or, trails-grown, unnoted}
use Rattle.ink_stack.proofs.threads.Threads.push_frame.Goals as goal

pub invariant_of-self : goal.invariant_of-self
invariant_of-self g c =
    (c.self.invariant.0, held-moved c.self.inside.trail.undo c.self.inside.running c.push-pushed.new.self c.self.inside.below.items _ (sym c.is_marked.ensures ∙ c.if-is_marked.false) c.within.ensures c.self.invariant.1)

pub returns : goal.returns
returns g c =
    let ts = threads_in c.self.inside.running c.self.inside.below.items in
    let rule = frame_pushed (frame_kind c.args.kind) c.args.depth ts.thread in
    let frame_pushed = c.push-pushed.result in
    let threads = top_grows rule ts c.push-pushed.new.self.thread frame_pushed c.push-pushed.ensures.thread in
    let none = sym c.is_marked.ensures ∙ c.if-is_marked.false in
    let trail = trails-grown 1 (top_result rule ts) ts _ frame_pushed c.self.inside.trail none threads in
    rw (← c.self.view_is) (record { threads = threads; trail = trail; pair = unnoted frame_pushed FramePushed _ none; stood = stood-or frame_pushed 1 _ _ trail; spare = spare-or frame_pushed 1 _ _ trail })
