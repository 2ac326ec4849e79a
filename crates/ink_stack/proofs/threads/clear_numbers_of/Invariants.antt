use Rattle.std.proofs.Common.{◌≡◌, ◌++◌, drop, map, take}
use Rattle.ink_model.specs.Flow.Frames.{unnumbered_thread}
use Rattle.ink_stack.proofs.threads.clear_numbers_of.Given as goal

abbrev pub invariant-loop-thread : goal.invariant-loop-thread
invariant-loop-thread g l =
    take l.thread-index l.thread-items ++ map unnumbered_thread (drop l.thread-index l.thread-items) ≡ map unnumbered_thread l.initial.thread-items
