use Rattle.std.proofs.Common.{◌≡◌, ◌≤◌, ◌-◌, length, vec_capacity}
use Rattle.ink_stack.proofs.Common.{stale_run, threads_in, StaysHeld, threads_back}
use Rattle.ink_trail.specs.Undo.{Trails, spare, trail_of}
use Rattle.ink_stack.proofs.Staling.{stale_from}
use Rattle.ink_stack.proofs.undo.end_run.Given as goal

abbrev pub invariant-loop-number : goal.invariant-loop-number
invariant-loop-number g l =
    let t = l.fn.running.thread in
    record {
      within : l.number ≤ length t.below;
      count : length l.running.thread.below ≡ length t.below;
      room : l.running.room ≡ l.fn.running.room;
      frame : l.running.thread.frame ≡ t.frame;
      previous : l.running.thread.previous ≡ t.previous;
      run : stale_from l.depth l.number l.running.thread.below ≡ stale_run l.depth t.below;
      spare : l.number ≤ spare l.trail;
      trail : Trails threads_back (length t.below - l.number) (threads_in l.fn.running l.below.items) l.fn.trail (threads_in l.running l.below.items) l.trail;
      held : StaysHeld (record { frames = l.running.room; threads = vec_capacity l.below }) (trail_of l.trail.undo) (threads_in l.running l.below.items);
    }

abbrev pub decreases-loop-number : goal.decreases-loop-number
decreases-loop-number g l = l.number
