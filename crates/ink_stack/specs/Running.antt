-- The thread that runs, as contracts see it.
use Rattle.std.specs.Prelude.{◌≡◌, List, [], reverse}
use Rattle.ink_model.specs.Flow.Frames.{FrameOf, ThreadOf, ThreadsOf}
use Rattle.ink_model.specs.Variables.Store.{Values}
use Rattle.ink_frames.specs.Frames.{Room}

-- its frames and its previous place, and the room for frames below the top one
pub record RunningView (P : Type 0) : Type 0 where
  pub thread : ThreadOf P
  pub room : Room

module _ {P : Type 0} where
  -- it and those below it, which are listed with the nearest last
  abbrev pub threads_in : RunningView P → List (ThreadOf P) → ThreadsOf P
  threads_in t below = record { thread = t.thread; below = reverse below }

  -- what a copy of a thread asks memory for: the temporaries of its top frame, and the frames below that, the bottom one first
  abbrev pub fork_of : ThreadOf P → Values × List (FrameOf P)
  fork_of t = (t.frame.temps, reverse t.below)

  -- a frame alone without temporaries
  pub record IsPlain (t : ThreadOf P) : Type 0 where
    pub temps : t.frame.temps ≡ []
    pub below : t.below ≡ []
