use Rattle.std.proofs.Common.{◌≡◌}
use Rattle.ink_model.specs.Flow.Threads.{frame_count}
use Rattle.ink_model.specs.Variables.Access.{last_pointer}
use Rattle.ink_vars.proofs.pointers.chain_further.Given as goal

abbrev pub invariant-loop-left : goal.invariant-loop-left
invariant-loop-left g l =
    let thread = l.threads.threads.thread in
    last_pointer l.globals.rows thread l.left l.frame l.name ≡ last_pointer l.globals.rows thread (frame_count thread) l.fn.frame l.fn.name

abbrev pub decreases-loop-left : goal.decreases-loop-left
decreases-loop-left g l = l.left
