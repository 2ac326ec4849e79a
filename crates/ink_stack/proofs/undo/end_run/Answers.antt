use Rattle.std.proofs.Common.{◌≡◌, ◌∙◌, ◌-◌, ◌+◌, ◌≤◌, true, false, ap, arith, length, refl, sym}
use Rattle.ink_stack.proofs.Common.{stale, stale_run, threads_back}
use Rattle.ink_trail.proofs.Undoing.{trails-more, trails-none, trails-trails}
use Rattle.ink_stack.proofs.Framing.{length-changed}
use Rattle.ink_stack.proofs.Staling.{framed_lower, from_step, from_stop, from_top, from_zero, function_at, function_below, running_is, stale_from}
use Rattle.ink_stack.proofs.undo.end_run.Goals as goal

pub loop-number-init : goal.loop-number-init
loop-number-init g c =
    let t = c.args.running.now.thread in
    let count : c.frames-number.result - 1 ≡ length t.below = omega (arith, c.frames-number.ensures.count) in
    record {
      within = omega (arith, count);
      count = refl;
      room = refl;
      frame = refl;
      previous = refl;
      run = from_top c.args.depth (c.frames-number.result - 1) t.below count;
      spare = omega (arith, count, c.requires.spare);
      trail = trails-none threads_back (length t.below - (c.frames-number.result - 1)) _ _ c.args.trail.now c.args.trail.now refl refl (omega arith);
      held = c.requires.held;
    }

pub end_one-requires-clause-there : goal.end_one-requires-clause-there
end_one-requires-clause-there g c = omega (arith, c.loop-number.invariant.within, c.loop-number.invariant.count)

pub end_one-requires-clause-spare : goal.end_one-requires-clause-spare
end_one-requires-clause-spare g c = omega (arith, c.loop-number.invariant.spare)

pub loop-number-preserved : goal.loop-number-preserved
loop-number-preserved g c =
    let d = c.args.depth in
    let inv = c.loop-number.invariant in
    let n = c.loop-number.number in
    let v = c.loop-number.running in
    let here : n ≤ length v.thread.below = omega (arith, inv.within, inv.count) in
    let function : function_at d n v.thread.below ≡ true = sym (function_below d v.thread.frame v.thread.below n here) ∙ sym c.is_function.ensures ∙ c.if-is_function.true in
    let e = c.end_one.ensures.running ∙ ap (λ u. record { thread = u; room = v.room }) (framed_lower d (stale d) v.thread n here) in
    record {
      within = omega (arith, inv.within);
      count = ap (λ w. length w.thread.below) e ∙ length-changed (stale d) n v.thread.below ∙ inv.count;
      room = ap (λ w. w.room) e ∙ inv.room;
      frame = ap (λ w. w.thread.frame) e ∙ inv.frame;
      previous = ap (λ w. w.thread.previous) e ∙ inv.previous;
      run = ap (λ w. stale_from d (n - 1) w.thread.below) e ∙ from_step d n v.thread.below c.loop-number-test.true here function ∙ inv.run;
      spare = omega (arith, inv.spare, c.end_one.ensures.spare);
      trail = trails-more threads_back (length c.args.running.now.thread.below - n + 1) (length c.args.running.now.thread.below - (n - 1)) _ _ _ _ (omega (arith, inv.within, c.loop-number-test.true))
          (trails-trails threads_back (length c.args.running.now.thread.below - n) 1 _ _ _ _ _ _ inv.trail c.end_one.ensures.trail);
      held = c.end_one.ensures.held;
    }

pub returns-else-is_function : goal.returns-else-is_function
returns-else-is_function g c =
    let d = c.args.depth in
    let inv = c.loop-number.invariant in
    let n = c.loop-number.number in
    let v = c.loop-number.running in
    let t = c.args.running.now.thread in
    let here : n ≤ length v.thread.below = omega (arith, inv.within, inv.count) in
    let other : function_at d n v.thread.below ≡ false = sym (function_below d v.thread.frame v.thread.below n here) ∙ sym c.is_function.ensures ∙ c.if-is_function.false in
    record {
      running = running_is v (record t { below = stale_run d t.below }) c.args.running.now.room inv.frame (sym (from_stop d n v.thread.below other) ∙ inv.run) inv.previous inv.room;
      trail = trails-more threads_back (length t.below - n) (length t.below) _ _ _ _ (omega arith) inv.trail;
      held = inv.held;
    }

pub returns-after-loop-number : goal.returns-after-loop-number
returns-after-loop-number g c =
    let d = c.args.depth in
    let inv = c.loop-number.invariant in
    let n = c.loop-number.number in
    let below = c.loop-number.running.thread.below in
    let t = c.args.running.now.thread in
    let none : 0 ≡ n = omega arith in
    let run = sym (from_zero d below) ∙ ap (λ m. stale_from d m below) none ∙ inv.run in
    record {
      running = running_is c.loop-number.running (record t { below = stale_run d t.below }) c.args.running.now.room inv.frame run inv.previous inv.room;
      trail = trails-more threads_back (length t.below - n) (length t.below) _ _ _ _ (omega arith) inv.trail;
      held = inv.held;
    }
