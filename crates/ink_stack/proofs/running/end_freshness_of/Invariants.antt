use Rattle.std.proofs.Common.{◌≡◌, ◌≤◌, ℕ, length, reverse}
use Rattle.ink_model.specs.Flow.Threads.{stale_run}
use Rattle.ink_stack.proofs.Common.{Settled}
use Rattle.ink_stack.proofs.Quietness.{QuietSoFar}
use Rattle.ink_stack.proofs.Runs.{run_at}
use Rattle.ink_stack.proofs.running.end_freshness_of.Given as goal

abbrev pub invariant-loop-count : goal.invariant-loop-count
invariant-loop-count g l = record {
  within : l.count ≤ length l.frames.items;
  run : run_at l.depth l.count l.frames.items ≡ stale_run l.depth (reverse l.initial.frames.items);
  quiet : QuietSoFar l.count l.frames.items l.quiet;
  settled : (n : ℕ) → Settled n l.initial.frames.items → Settled n l.frames.items;
  room : l.frames.room ≡ l.initial.frames.room;
}

abbrev pub decreases-loop-count : goal.decreases-loop-count
decreases-loop-count g l = l.count
