use Rattle.std.proofs.Common.{◌≡◌, ◌∙◌, ◌+◌, ap, arith, length, subst, sym, vec_capacity}
use Rattle.ink_stack.proofs.Common.{OnTrue_at, IsQuiet, RunningView, threads_in, StaysHeld, threads_back}
use Rattle.ink_model.specs.Flow.Threads.{frame_count, stale, stale_run, staled}
use Rattle.ink_trail.proofs.Undoing.{trails-more, trails-trails}
use Rattle.ink_trail.specs.Undo.{Trails, trail_of}
use Rattle.ink_stack.proofs.Framing.{framed_top}
use Rattle.ink_stack.proofs.Quietness.{quiet_run}
use Rattle.ink_stack.proofs.Staling.{staled_twice}
use Rattle.ink_stack.proofs.undo.end_freshness.Given.{Over}
use Rattle.ink_stack.proofs.undo.end_freshness.Goals.{After-end_freshness, After-end_one}
use Rattle.ink_stack.proofs.Numbers.{one_there}
use Rattle.ink_stack.proofs.undo.end_freshness.Goals as goal

-- the top frame is fresh no more
top : (g : Over) (c : After-end_one g) → c.end_one.new.running
    ≡ record c.args.running.now { thread = record c.args.running.now.thread { frame = stale c.args.depth c.args.running.now.thread.frame } }
top g c =
    c.end_one.ensures.running
    ∙ ap (λ u. record { thread = u; room = c.args.running.now.room }) (framed_top (stale c.args.depth) c.frames-top.result c.args.running.now.thread c.frames-top.ensures.count)

-- none is any more
all : (g : Over) (c : After-end_freshness g) → c.end_run.new.running ≡ record c.args.running.now { thread = staled c.args.depth c.args.running.now.thread }
all g c =
    c.end_run.ensures.running
    ∙ ap (λ (v : RunningView g.row.P.Denot). record v { thread = record v.thread { below = stale_run c.args.depth v.thread.below } }) (top g (goal.at.After-end_freshness g c).After-end_one)

same : (g : Over) (c : After-end_freshness g) → c.end_freshness.new.self ≡ c.end_run.new.running
same g c =
    let d = c.args.depth in
    let e = all g c in
    c.end_freshness.ensures ∙ ap (λ (v : RunningView g.row.P.Denot). record v { thread = staled d v.thread }) e
    ∙ ap (λ t. record c.args.running.now { thread = t }) (staled_twice d c.args.running.now.thread) ∙ sym e

pub returns-then-is_quiet-clause-running : goal.returns-then-is_quiet-clause-running
returns-then-is_quiet-clause-running g c =
    let d = c.args.depth in
    let t = c.args.running.now.thread in
    let e = top g (goal.at.returns-then-is_quiet-clause-running g c).After-end_one in
    let quiet = subst (λ (v : RunningView g.row.P.Denot). IsQuiet d v.thread.below) e (OnTrue_at c.if-is_quiet.true c.is_quiet.ensures) in
    e ∙ ap (λ fs. record c.args.running.now { thread = record t { frame = stale d t.frame; below = fs } }) (sym (quiet_run d t.below quiet))

pub returns-clause-running : goal.returns-clause-running
returns-clause-running g c =
    let at = (goal.at.returns-clause-running g c).After-end_freshness in
    same g at ∙ all g at

pub returns-clause-trail : goal.returns-clause-trail
returns-clause-trail g c =
    let at = (goal.at.returns-clause-trail g c).After-end_freshness in
    let t = c.args.running.now.thread in
    let v = c.end_one.new.running in
    let count = ap (λ v. length v.thread.below) (top g (goal.at.returns-clause-trail g c).After-end_one) in
    subst (λ (w : RunningView g.row.P.Denot). Trails threads_back (frame_count t) (threads_in c.args.running.now c.args.below.now.items) c.args.trail.now (threads_in w c.args.below.now.items) c.end_run.new.trail)
    (sym (same g at))
    (trails-more threads_back (1 + length v.thread.below) (frame_count t) _ _ _ _ (omega (arith, count))
    (trails-trails threads_back 1 (length v.thread.below) _ _ _ _ _ _ c.end_one.ensures.trail c.end_run.ensures.trail))

pub returns-clause-held : goal.returns-clause-held
returns-clause-held g c =
    subst (λ (w : RunningView g.row.P.Denot). StaysHeld (record { frames = w.room; threads = vec_capacity c.args.below.now }) (trail_of c.end_run.new.trail.undo) (threads_in w c.args.below.now.items))
    (sym (same g (goal.at.returns-clause-held g c).After-end_freshness)) c.end_run.ensures.held

pub returns-then-is_quiet-clause-trail : goal.returns-then-is_quiet-clause-trail
returns-then-is_quiet-clause-trail g c = trails-more threads_back 1 (frame_count c.args.running.now.thread) _ _ _ _ (one_there c.args.running.now.thread) c.end_one.ensures.trail
