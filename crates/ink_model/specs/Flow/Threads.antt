-- What calls do to frames and threads, over any kind of place (docs/FRAMES.md).
use Rattle.std.specs.Prelude.{ℕ, ◌+◌, List, [], ◌∷◌, length, Bool, true, false, nat_eq, nat_lt, if◌then◌else◌, Option, Some, None, option_and_then, Result, Ok, Err}
use Rattle.ink_model.specs.Flow.Frames.{FrameOf, ThreadOf, ThreadsOf, frame_numbered, is_function}
use Rattle.ink_model.specs.Variables.Rows.{name_order, row, with_row}
use Rattle.ink_model.specs.declared.fault.Fault.{Fault}
use Rattle.ink_model.specs.declared.fault.Fault.TheVariants.{BadMode, BadPop, TooDeep}
use Rattle.ink_model.specs.declared.frame.FrameKind.{FrameKind}
use Rattle.ink_model.specs.declared.frame.FrameKind.TheVariants.{Base, Function, Tunnel}
use Rattle.ink_model.specs.declared.limits.TheConstants.{MAX_FRAMES, MAX_THREADS}
use Rattle.ink_model.specs.declared.value.Value.{Value}

abbrev pub same_kind : FrameKind → FrameKind → Bool
same_kind Base Base = true
same_kind Function Function = true
same_kind Tunnel Tunnel = true
same_kind a b = false

module _ {P : Type 0} where
  -- ---- frames

  -- a frame as it is pushed: outside evaluation mode, without temporaries; a function is fresh
  abbrev pub new_frame : FrameKind → Option P → ℕ → FrameOf P
  new_frame k p d = record { kind = k; place = p; temps = []; evaluating = false; fresh = is_function k; depth = d; enter = None }

  -- a text in a section ends the freshness of what was pushed when so many sections were open
  abbrev pub stale : ℕ → FrameOf P → FrameOf P
  stale d f = if nat_eq f.depth d then record f { fresh = false } else f

  -- the same for the function frames that come first
  abbrev pub stale_run : ℕ → List (FrameOf P) → List (FrameOf P)
  stale_run d [] = []
  stale_run d (f ∷ fs) = if is_function f.kind then stale d f ∷ stale_run d fs else f ∷ fs

  -- with a change of the frame of a number, which the bottom one has as 1
  abbrev pub changed : (FrameOf P → FrameOf P) → ℕ → List (FrameOf P) → List (FrameOf P)
  changed change n [] = []
  changed change n (f ∷ fs) = if nat_eq n (length fs + 1) then change f ∷ fs else f ∷ changed change n fs

  abbrev pub with_row_in : List ℕ → Value → FrameOf P → FrameOf P
  with_row_in name v f = record f { temps = with_row name_order name v f.temps }

  -- ---- a thread

  abbrev pub frame_count : ThreadOf P → ℕ
  frame_count t = length t.below + 1

  -- a frame is pushed, where its caller is
  abbrev pub frame_pushed : FrameKind → ℕ → ThreadOf P → Result (ThreadOf P) Fault
  frame_pushed k d t = if nat_lt (frame_count t) MAX_FRAMES
      then Ok (record t { frame = new_frame k t.frame.place d; below = t.frame ∷ t.below }) else Err TooDeep

  abbrev pub back_to : List (FrameOf P) → ℕ → ThreadOf P → Result (ThreadOf P) Fault
  back_to [] d t = Err BadPop
  back_to (f ∷ fs) d t = if nat_eq t.frame.depth d then Ok (record t { frame = f; below = fs }) else Err BadMode

  -- A frame of a kind is popped: there is one on top, and as many sections are open as were at its push.
  abbrev pub frame_popped : FrameKind → ℕ → ThreadOf P → Result (ThreadOf P) Fault
  frame_popped k d t = if same_kind t.frame.kind k then back_to t.below d t else Err BadPop

  -- the top frame has this number of its Enter
  abbrev pub number_in : ℕ → ThreadOf P → ThreadOf P
  number_in n t = record t { frame = record t.frame { enter = Some n } }

  -- a text is written where so many sections are open
  abbrev pub staled : ℕ → ThreadOf P → ThreadOf P
  staled d t = record t { frame = stale d t.frame; below = stale_run d t.below }

  -- what the frame of a number has by a name
  abbrev pub temp_in : ℕ → List ℕ → ThreadOf P → Option Value
  temp_in n name t = option_and_then (λ f. row name_order name f.temps) (frame_numbered n (t.frame ∷ t.below))

  abbrev pub with_temp : ℕ → List ℕ → Value → ThreadOf P → ThreadOf P
  with_temp n name v t = if nat_eq n (frame_count t)
      then record t { frame = with_row_in name v t.frame } else record t { below = changed (with_row_in name v) n t.below }

  -- ---- threads

  -- what becomes of the top thread, among all
  abbrev pub top_result : Result (ThreadOf P) Fault → ThreadsOf P → Result (ThreadsOf P) Fault
  top_result (Ok t) ts = Ok (record ts { thread = t })
  top_result (Err f) ts = Err f

  abbrev pub thread_count : ThreadsOf P → ℕ
  thread_count ts = length ts.below + 1

  -- a copy of the top thread is put on top
  abbrev pub doubled : ThreadsOf P → Result (ThreadsOf P) Fault
  doubled ts = if nat_lt (thread_count ts) MAX_THREADS then Ok (record ts { below = ts.thread ∷ ts.below }) else Err TooDeep

  abbrev pub dropped_to : List (ThreadOf P) → Option (ThreadsOf P)
  dropped_to [] = None
  dropped_to (t ∷ below) = Some (record { thread = t; below = below })

  -- without the top thread; none where it is the last
  abbrev pub dropped : ThreadsOf P → Option (ThreadsOf P)
  dropped ts = dropped_to ts.below

  -- this thread alone
  abbrev pub alone : ThreadOf P → ThreadsOf P
  alone t = record { thread = t; below = [] }
