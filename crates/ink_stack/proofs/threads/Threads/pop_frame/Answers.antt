use Rattle.std.proofs.Common.{◌∙◌, sym}
use Rattle.ink_stack.proofs.Common.{frame_popped, top_result, threads_in}
use Rattle.ink_stack.proofs.Bases.{top_changes}
use Rattle.ink_stack.proofs.Holding.{held-moved}
use Rattle.ink_stack.proofs.Unmarked.{spare-or, stood-or, trails-changed}
use Rattle.ink_stack.proofs.threads.Threads.pop_frame.Goals as goal

pub invariant_of-self : goal.invariant_of-self
invariant_of-self g c =
    (c.self.invariant.0, held-moved c.self.inside.trail.undo c.self.inside.running c.pop_away-popped.new.self c.self.inside.below.items _ (sym c.is_marked.ensures ∙ c.if-is_marked.false) c.within.ensures c.self.invariant.1)

pub returns : goal.returns
returns g c =
    let ts = threads_in c.self.inside.running c.self.inside.below.items in
    let rule = frame_popped c.args.kind c.args.depth ts.thread in
    let frame_popped = c.pop_away-popped.result in
    let threads = top_changes rule ts c.pop_away-popped.new.self.thread frame_popped c.pop_away-popped.ensures.thread in
    let trail = trails-changed 1 (top_result rule ts) ts _ frame_popped c.self.inside.trail (sym c.is_marked.ensures ∙ c.if-is_marked.false) threads in
    rw (← c.self.view_is) (record { threads = threads; trail = trail; stood = stood-or frame_popped 1 _ _ trail; spare = spare-or frame_popped 1 _ _ trail })
