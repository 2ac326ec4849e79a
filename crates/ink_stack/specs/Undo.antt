-- How changes of frames and threads are put back.
use Rattle.std.specs.Prelude.{⊤, ◌≡◌, ◌≤◌, ◌<◌, ℕ, List, ◌∷◌, length, drop, true, vec_capacity, Option}
use Rattle.ink_model.specs.Flow.Frames.{ThreadsOf, mode_in, on_top, put_in}
use Rattle.ink_model.specs.declared.limits.TheConstants.{MAX_THREADS}
use Rattle.ink_model.specs.declared.value.Value.{Value}
use Rattle.ink_trail.specs.Stays.{Stays}
use Rattle.ink_trail.specs.Undo.{TrailView, spare, stood_at, with_pair}
use Rattle.ink_frames.specs.Cells.{temp_back, with_fresh}
use Rattle.ink_stack.specs.Cells.{Within, number_back, ungone, unpopped, unpushed, with_frame}
use Rattle.ink_frames.specs.Frames.{MoreRoom, Room}
use Rattle.ink_stack.specs.Running.{threads_in}
use Rattle.ink_stack.specs.Threads.{ThreadsView}
use Rattle.ink_stack.specs.declared.undo.ThreadsPair.{ThreadsPair}
use Rattle.ink_stack.specs.declared.undo.ThreadsPair.TheVariants.{Placed, Gone, Evaluating, Numbered, Fresh, Temp, FramePushed, FramePopped, ThreadPushed, ThreadPopped, Replaced}

-- the room for frames below the top one, and how many threads below the top one fit without memory
pub record Rooms : Type 0 where
  pub frames : Room
  pub threads : ℕ

-- as much room, or more
pub record More (r s : Rooms) : Type 0 where
  pub frames : MoreRoom r.frames s.frames
  pub threads : r.threads ≤ s.threads

module _ {P : Type 0} where
  -- the threads before a change
  abbrev pub threads_back : ThreadsPair P → ThreadsOf P → ThreadsOf P
  threads_back (Placed p) ts = on_top (put_in p) ts
  threads_back (Gone p q) ts = on_top (ungone p q) ts
  threads_back (Evaluating b) ts = on_top (mode_in b) ts
  threads_back (Numbered n) ts = on_top (number_back n) ts
  threads_back (Fresh n) ts = on_top (with_frame (with_fresh true) n) ts
  threads_back (Temp n i o) ts = on_top (with_frame (temp_back i o) n) ts
  threads_back FramePushed ts = on_top unpushed ts
  threads_back (FramePopped f) ts = on_top (unpopped f) ts
  threads_back ThreadPushed ts = record ts { below = drop 1 ts.below }
  threads_back (ThreadPopped t) ts = record { thread = t.thread; below = ts.thread ∷ ts.below }
  threads_back (Replaced t below) ts = threads_in t below.items

  -- what was noted last is that flow went
  abbrev pub HasGone : List (ThreadsPair P) → Type 0
  HasGone (Gone p q ∷ es) = ⊤
  HasGone es = ⊥

  -- what was noted last is the mode, and then that flow went
  abbrev pub HasMode : List (ThreadsPair P) → Type 0
  HasMode (Gone p q ∷ Evaluating b ∷ es) = ⊤
  HasMode es = ⊥

  -- one row of the frame of a number is noted, and nothing else
  abbrev pub NotesTemp : ℕ → TrailView (ThreadsPair P) → TrailView (ThreadsPair P) → Type 0
  NotesTemp n old new = (i : ℕ) × (was : Option Value) × (new.undo ≡ with_pair (Temp n i was) 1 old.undo)

  -- ---- what a mark keeps

  -- the threads as they stood at the mark; none where no mark stands
  unfoldable pub threads_stood : ThreadsView P → Option (ThreadsOf P)
  threads_stood v = stood_at threads_back v.trail v.threads

  -- how many changes can still be noted without memory
  unfoldable pub threads_spare : ThreadsView P → ℕ
  threads_spare v = spare v.trail

  -- ---- room

  -- the top thread and the threads below it are within their limits and their rooms
  pub record Held (r : Rooms) (ts : ThreadsOf P) : Type 0 where
    pub thread : Within r.frames ts.thread
    pub few : length ts.below < MAX_THREADS
    pub fit : length ts.below ≤ r.threads

  -- a thread and a list of threads come back with their rooms
  abbrev pub rooms_of : ThreadsPair P → Rooms → Rooms
  rooms_of (ThreadPopped t) r = record r { frames = t.room }
  rooms_of (Replaced t below) r = record { frames = t.room; threads = vec_capacity below }
  rooms_of e r = r

  -- so they are while the trail is put back
  abbrev pub StaysHeld : Rooms → List (ThreadsPair P) → ThreadsOf P → Type 0
  StaysHeld r es ts = Stays threads_back rooms_of Held r es ts
