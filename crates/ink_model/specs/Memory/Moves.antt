-- Where flow asks for memory on its way from a content: calls push frames, marks and void are written where functions end, and
-- a landing may be the first visit of a container (docs/RUNNING.md, "Out of memory"; docs/FRAMES.md).
use Rattle.std.specs.Prelude.{List, [], ◌∷◌, Bool, true, false, not, ◌||◌, ◌&&◌, nat_eq, nat_lt, if◌then◌else◌, Option, Some, None, is_some, option_and_then, Result, Ok, Err, is_ok}
use Rattle.ink_model.specs.Flow.Frames.{FrameOf, ThreadOf, ThreadsOf, is_function}
use Rattle.ink_model.specs.Flow.Threads.{dropped, frame_count, frame_popped, thread_count}
use Rattle.ink_model.specs.Flow.Transfers.{Written, Reached, Reaches, Halts, Breaks, called, depth_of, moved_on, reach, returned}
use Rattle.ink_model.specs.Run.Configuration.{Configuration, with_choices}
use Rattle.ink_model.specs.Run.Effect.{Effect, Moves, Stores, Offers, Lands, Calls, Returns, Forks, Done, Ends, Fails, with_fields, with_thread}
use Rattle.ink_model.specs.Run.Move.{may_enter, place_to, written_in}
use Rattle.ink_model.specs.Run.Place.{next_place}
use Rattle.ink_model.specs.Run.Visits.{adds_rows, around}
use Rattle.ink_model.specs.Story.Tree.{StoryTree}
use Rattle.ink_model.specs.Text.Output.{ends_function}
use Rattle.ink_model.specs.Variables.Counts.{CountsOf}
use Rattle.ink_model.specs.declared.fault.Fault.{Fault}
use Rattle.ink_model.specs.declared.frame.FrameKind.{FrameKind}
use Rattle.ink_model.specs.declared.frame.FrameKind.TheVariants.{Function}
use Rattle.ink_model.specs.declared.limits.TheConstants.{MAX_FRAMES, MAX_THREADS}
use Rattle.ink_model.specs.declared.place.Part.{Part}

abbrev pub is_some_frame : {P : Type 0} → List (FrameOf P) → Bool
is_some_frame [] = false
is_some_frame (f ∷ fs) = true

-- the mark of a function's end has room
abbrev pub has_end_room : {P : Type 0} → FrameOf P → Written → Bool
has_end_room f w = is_ok (ends_function f.enter w.page)

-- a function at its end is popped, and its mark written
abbrev pub end_asks : {P : Type 0} → ThreadOf P → Written → Bool
end_asks t w = is_some_frame t.below && (nat_eq t.frame.depth (depth_of w) && has_end_room t.frame w)

module _ {P : Type 0} (after : P → Option P) where
  -- The first function that comes to its end on the way is popped, and so writes its mark. Threads above it are only dropped.
  abbrev pub threads_ask : ThreadOf P → List (ThreadOf P) → Written → Bool
  threads_ask t [] w = not (is_some (option_and_then after t.frame.place)) && (is_function t.frame.kind && end_asks t w)
  threads_ask t (u ∷ us) w =
      not (is_some (option_and_then after t.frame.place)) && (if is_function t.frame.kind then end_asks t w else threads_ask u us w)

  abbrev pub moved_asks : ThreadsOf P → Written → Bool
  moved_asks ts w = threads_ask ts.thread ts.below w

  abbrev pub went_asks : Option P → ThreadsOf P → Written → Bool
  went_asks None ts w = moved_asks ts w
  went_asks (Some q) ts w = false

  -- a function's mark is written; a tunnel has none
  abbrev pub popped_asks : FrameKind → Result (ThreadOf P) Fault → Option P → ThreadsOf P → Written → Bool
  popped_asks k (Err f) to ts w = false
  popped_asks Function (Ok t) to ts w = has_end_room ts.thread.frame w
  popped_asks k (Ok t) to ts w = went_asks to (record ts { thread = t }) w

  abbrev pub returned_asks : FrameKind → Option P → ThreadsOf P → Written → Bool
  returned_asks k to ts w = popped_asks k (frame_popped k (depth_of w) ts.thread) to ts w

  -- the top thread is copied where flow went on
  abbrev pub copied_asks : Reached P → Bool
  copied_asks (Reaches ts w) = nat_lt (thread_count ts) MAX_THREADS
  copied_asks (Halts ts w) = false
  copied_asks (Breaks f) = false

  abbrev pub forked_asks : ThreadsOf P → Written → Bool
  forked_asks ts w = moved_asks ts w || copied_asks (moved_on after ts w)

  abbrev pub dropped_asks : Option (ThreadsOf P) → Written → Bool
  dropped_asks None w = false
  dropped_asks (Some ts) w = moved_asks ts w

-- a landing is the first visit of a container around
abbrev pub landed_asks : StoryTree → Bool → CountsOf (List Part) → Reached (List Part) → Bool
landed_asks s true counts (Reaches ts w) = adds_rows s (around s ts) counts
landed_asks s enters counts r = false

abbrev pub flow_asks : StoryTree → Effect → CountsOf (List Part) → ThreadsOf (List Part) → Written → Bool
flow_asks s (Moves f) counts ts w = moved_asks (next_place s) ts w
flow_asks s (Stores t f) counts ts w = moved_asks (next_place s) ts w
flow_asks s (Offers choices f) counts ts w = moved_asks (next_place s) ts w
flow_asks s (Lands to f) counts ts w = landed_asks s to.enters counts (reach to.place ts w)
flow_asks s (Calls k to f) counts ts w = nat_lt (frame_count ts.thread) MAX_FRAMES || landed_asks s to.enters counts (called k to.place ts w)
flow_asks s (Returns k to f) counts ts w =
    returned_asks (next_place s) k (place_to to) ts w || landed_asks s (may_enter to) counts (returned (next_place s) k (place_to to) ts w)
flow_asks s (Forks f) counts ts w = forked_asks (next_place s) ts w
flow_asks s (Done f) counts ts w = dropped_asks (next_place s) (dropped ts) w
flow_asks s (Ends f) counts ts w = false
flow_asks s (Fails f) counts ts w = false

-- with the fields as the effect leaves them
abbrev pub after_effect : Effect → Configuration → Configuration
after_effect (Moves f) c = with_fields f c
after_effect (Stores t f) c = with_fields f (with_thread t c)
after_effect (Offers choices f) c = with_fields f (with_choices choices c)
after_effect (Lands to f) c = with_fields f c
after_effect (Calls k to f) c = with_fields f c
after_effect (Returns k to f) c = with_fields f c
after_effect (Forks f) c = with_fields f c
after_effect (Done f) c = with_fields f c
after_effect (Ends f) c = with_fields f c
after_effect (Fails f) c = c

-- flow asks for memory after an effect
abbrev pub move_asks : StoryTree → Effect → Configuration → Bool
move_asks s e c = flow_asks s e c.shared.counts (after_effect e c).flow.threads (written_in (after_effect e c))
