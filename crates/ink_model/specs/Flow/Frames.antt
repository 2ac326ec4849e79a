-- Frames and threads, over any kind of place (docs/RUNNING.md, "Configurations").
use Rattle.std.specs.Prelude.{ℕ, ◌+◌, List, [], ◌∷◌, length, map, Bool, true, false, ◌&&◌, nat_eq, if◌then◌else◌, Option, Some, None}
use Rattle.std.specs.Option.{option_map}
use Rattle.ink_model.specs.declared.frame.FrameKind.{FrameKind}
use Rattle.ink_model.specs.declared.frame.FrameKind.TheVariants.{Base, Function, Tunnel}
use Rattle.ink_model.specs.declared.value.Value.{Value}

-- temps: rows that rise by name (Variables/Rows.antt); depth: the string and tag sections that were open at the push; enter: the number
-- of its Enter on this line
pub record FrameOf (P : Type 0) : Type 0 where
  pub kind : FrameKind
  pub place : Option P
  pub temps : List (List ℕ × Value)
  pub evaluating : Bool
  pub fresh : Bool
  pub depth : ℕ
  pub enter : Option ℕ

-- the frames below the top one, the nearest first; the place from which the thread last moved
pub record ThreadOf (P : Type 0) : Type 0 where
  pub frame : FrameOf P
  pub below : List (FrameOf P)
  pub previous : Option P

-- the threads below the top one, the nearest first
pub record ThreadsOf (P : Type 0) : Type 0 where
  pub thread : ThreadOf P
  pub below : List (ThreadOf P)

-- ---- the same at other places

module _ {P Q : Type 0} (f : P → Q) where
  abbrev pub map_frame : FrameOf P → FrameOf Q
  map_frame a = record {
    kind = a.kind;
    place = option_map f a.place;
    temps = a.temps;
    evaluating = a.evaluating;
    fresh = a.fresh;
    depth = a.depth;
    enter = a.enter;
  }

  abbrev pub map_thread : ThreadOf P → ThreadOf Q
  map_thread t = record { frame = map_frame t.frame; below = map map_frame t.below; previous = option_map f t.previous }

  abbrev pub map_threads : ThreadsOf P → ThreadsOf Q
  map_threads ts = record { thread = map_thread ts.thread; below = map map_thread ts.below }

-- ---- one base frame

abbrev pub base_frame : {P : Type 0} → Option P → FrameOf P
base_frame p = record { kind = Base; place = p; temps = []; evaluating = false; fresh = false; depth = 0; enter = None }

-- one thread of one base frame
abbrev pub base_threads : {P : Type 0} → Option P → ThreadsOf P
base_threads p = record { thread = record { frame = base_frame p; below = []; previous = None }; below = [] }

-- ---- where flow is

module _ {P : Type 0} where
  abbrev pub place_in : ThreadsOf P → Option P
  place_in ts = ts.thread.frame.place

  abbrev pub on_top : (ThreadOf P → ThreadOf P) → ThreadsOf P → ThreadsOf P
  on_top change ts = record ts { thread = change ts.thread }

  -- the top frame is put at a place, or at none; the previous place stays
  abbrev pub put_in : Option P → ThreadOf P → ThreadOf P
  put_in p t = record t { frame = record t.frame { place = p } }

  -- flow goes to a place, or to none, and the one that it leaves becomes the previous one
  abbrev pub gone : Option P → ThreadOf P → ThreadOf P
  gone p t = record t { frame = record t.frame { place = p }; previous = t.frame.place }

  -- evaluation mode is the top frame's
  abbrev pub mode_in : Bool → ThreadOf P → ThreadOf P
  mode_in b t = record t { frame = record t.frame { evaluating = b } }

-- ---- frames

abbrev pub is_function : FrameKind → Bool
is_function Base = false
is_function Function = true
is_function Tunnel = false

-- the section in which a frame is a fresh function, by the number of those open below it
abbrev pub fresh_depth : {P : Type 0} → FrameOf P → Option ℕ
fresh_depth f = if is_function f.kind && f.fresh then Some f.depth else None

-- a frame by its number: the bottom one has number 1
abbrev pub frame_numbered : {P : Type 0} → ℕ → List (FrameOf P) → Option (FrameOf P)
frame_numbered n [] = None
frame_numbered n (f ∷ fs) = if nat_eq n (length fs + 1) then Some f else frame_numbered n fs

-- ---- without the numbers of Enters

module _ {P : Type 0} where
  abbrev pub unnumbered_frame : FrameOf P → FrameOf P
  unnumbered_frame f = record f { enter = None }

  abbrev pub unnumbered_thread : ThreadOf P → ThreadOf P
  unnumbered_thread t = record t { frame = unnumbered_frame t.frame; below = map unnumbered_frame t.below }

  abbrev pub unnumbered_threads : ThreadsOf P → ThreadsOf P
  unnumbered_threads ts = record { thread = unnumbered_thread ts.thread; below = map unnumbered_thread ts.below }
