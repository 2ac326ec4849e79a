-- Frames as they are kept: headers, and the temporaries of the lowest ones. In a list of headers the bottom one is the first, and so
-- it is in `framed`; in `with_temps` and `FitsIn` the top frame is.
use Rattle.std.specs.Prelude.{◌≤◌, ℕ, suc, zero, List, [], ◌∷◌, length, Bool, true, false, if◌then◌else◌, Option, Some, None, Vec}
use Rattle.ink_model.specs.Flow.Frames.{FrameOf}
use Rattle.ink_model.specs.Variables.Store.{Values}
use Rattle.ink_frames.specs.declared.frame.Header.{Header}

-- how many frames fit without memory, and how many of these with temporaries, from the bottom on
pub record Room : Type 0 where
  pub frames : ℕ
  pub temps : ℕ

-- as much room, or more
pub record MoreRoom (r s : Room) : Type 0 where
  pub frames : r.frames ≤ s.frames
  pub temps : r.temps ≤ s.temps

-- the items of a list, where there is one
abbrev pub items_of : {A L : Type 0} → Option (Vec A L) → List A
items_of None = []
items_of (Some v) = v.items

-- the frames, and their room
pub record FramesView (P : Type 0) : Type 0 where
  pub items : List (FrameOf P)
  pub room : Room

module _ {P : Type 0} where
  -- the frame of a header and of temporaries
  abbrev pub frame_with : Header P → Values → FrameOf P
  frame_with h rows = record { kind = h.kind; place = h.place; temps = rows; evaluating = h.evaluating; fresh = h.fresh; depth = h.depth; enter = h.enter }

  -- without the number of its Enter
  abbrev pub unnumbered : Header P → Header P
  unnumbered h = record h { enter = None }

  -- as it is seen: without the number of its Enter where that counts no more
  abbrev pub as_seen : Bool → Header P → Header P
  as_seen true h = unnumbered h
  as_seen false h = h

  -- frames of these headers; those behind the temporaries have none
  abbrev pub framed : List (Header P) → List Values → List (FrameOf P)
  framed [] ts = []
  framed (h ∷ hs) [] = frame_with h [] ∷ framed hs []
  framed (h ∷ hs) (t ∷ ts) = frame_with h t ∷ framed hs ts

  -- it has no temporaries
  abbrev pub is_bare : FrameOf P → Bool
  is_bare f = no_rows f.temps
    where
      no_rows : Values → Bool
      no_rows [] = true
      no_rows (r ∷ rs) = false

  -- how many frames there are from the bottom up to the highest one that has temporaries
  abbrev pub with_temps : List (FrameOf P) → ℕ
  with_temps [] = zero
  with_temps (f ∷ fs) = if is_bare f then with_temps fs else suc (length fs)

  -- frames fit in a room
  pub record FitsIn (r : Room) (fs : List (FrameOf P)) : Type 0 where
    pub frames : length fs ≤ r.frames
    pub temps : with_temps fs ≤ r.temps
