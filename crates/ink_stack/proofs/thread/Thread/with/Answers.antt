use Rattle.std.proofs.Common.{◌≡◌, ◌∙◌, ◌<◌, ◌++◌, [], ◌∷◌, ap, arith, length}
use Rattle.ink_stack.proofs.Common.{length-append, MAX_FRAMES, err_from_is_err_and}
use Rattle.ink_stack.proofs.BaseTests.{bottom_base}
use Rattle.ink_stack.proofs.Given.{thread_asks, thread_made}
use Rattle.ink_stack.proofs.thread.Thread.with.Goals as goal

pub invariant_of-running : goal.invariant_of-running
invariant_of-running g c =
    let rest = c.pop.new.self.items in
    let frame = c.in-Some.frame in
    let whole : c.args.frames.items ≡ rest ++ frame ∷ [] = c.in-Some.ensures.items in
    let few : length rest < MAX_FRAMES = omega (arith, ap length whole ∙ length-append rest (frame ∷ []), c.requires.few) in
    rw c.in_ok-below.ensures.frames (few, tt, bottom_base rest frame c.args.frames.items whole c.requires.base, tt)

pub returns-in_err-below-clause-memory : goal.returns-in_err-below-clause-memory
returns-in_err-below-clause-memory g c =
    let p = err_from_is_err_and c.from_residual.result c.from_residual.ensures.1 in
    rw p.1 (thread_asks c.args.frames.items c.pop.new.self.items c.in-Some.frame c.args.previous c.in-Some.ensures.items c.in_err-below.ensures.memory)

pub returns-clause-thread : goal.returns-clause-thread
returns-clause-thread g c = thread_made c.args.frames.items c.pop.new.self.items c.in_ok-below.below.items c.in-Some.frame c.args.previous c.in-Some.ensures.items c.in_ok-below.ensures.frames
