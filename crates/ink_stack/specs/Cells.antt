-- What cells of a thread held, put back.
use Rattle.std.specs.Prelude.{◌<◌, ℕ, List, [], ◌∷◌, length, nat_eq, Bool, false, if◌then◌else◌, Option, Some, None}
use Rattle.ink_frames.specs.Frames.{FitsIn, Room}
use Rattle.ink_model.specs.Flow.Bases.{BaseFirst}
use Rattle.ink_model.specs.Flow.Frames.{FrameOf, ThreadOf}
use Rattle.ink_model.specs.Flow.Threads.{changed, frame_count}
use Rattle.ink_model.specs.declared.limits.TheConstants.{MAX_FRAMES}

module _ {P : Type 0} where
  -- a test of a frame that there may be
  abbrev pub holds_of : (FrameOf P → Bool) → Option (FrameOf P) → Bool
  holds_of test None = false
  holds_of test (Some f) = test f

  -- with a change of the frame of a number, which the bottom one has as 1
  abbrev pub with_frame : (FrameOf P → FrameOf P) → ℕ → ThreadOf P → ThreadOf P
  with_frame change n t = if nat_eq n (frame_count t) then record t { frame = change t.frame } else record t { below = changed change n t.below }

  -- flow left the place p, and q was the previous one
  abbrev pub ungone : Option P → Option P → ThreadOf P → ThreadOf P
  ungone p q t = record t { frame = record t.frame { place = p }; previous = q }

  abbrev pub number_back : Option ℕ → ThreadOf P → ThreadOf P
  number_back n t = record t { frame = record t.frame { enter = n } }

  abbrev pub unpushed_to : List (FrameOf P) → ThreadOf P → ThreadOf P
  unpushed_to [] t = t
  unpushed_to (f ∷ fs) t = record t { frame = f; below = fs }

  -- without the top frame, where there is one below
  abbrev pub unpushed : ThreadOf P → ThreadOf P
  unpushed t = unpushed_to t.below t

  abbrev pub unpopped : FrameOf P → ThreadOf P → ThreadOf P
  unpopped f t = record t { frame = f; below = t.frame ∷ t.below }

  -- its frames are within their limit and within a room, and the bottom one alone is the base
  pub record Within (room : Room) (t : ThreadOf P) : Type 0 where
    pub few : length t.below < MAX_FRAMES
    pub fit : FitsIn room t.below
    pub base : BaseFirst t.frame.kind t.below
