-- Threads, as contracts see them.
use Rattle.ink_model.specs.Flow.Frames.{ThreadsOf}
use Rattle.ink_trail.specs.Undo.{TrailView}
use Rattle.ink_stack.specs.declared.undo.ThreadsPair.{ThreadsPair}

-- where flow is, by the top thread and those below it, and the trail of what that was
pub record ThreadsView (P : Type 0) : Type 0 where
  pub threads : ThreadsOf P
  pub trail : TrailView (ThreadsPair P)
