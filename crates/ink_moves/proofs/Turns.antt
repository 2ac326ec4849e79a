-- One turn of where flow goes, by what is at its end.
use Rattle.std.proofs.Common.{◌≡◌, ◌∙◌, ap, is_ok, sym, subst, refl, inl, inr, ℕ, ◌+◌, List, [], ◌∷◌, length, Bool, true, false, nat_eq, Option, Some, None, option_and_then, Result, Ok, Err}
use Rattle.ink_model.specs.Flow.Transfers.{Written, Reached, Reaches, Halts, Breaks, depth_of, leave_for, moved_on, on_page, or_breaks, reach, thread_of, void_for}
use Rattle.ink_model.specs.Flow.Frames.{FrameOf, ThreadOf, ThreadsOf, gone, map_threads}
use Rattle.ink_model.specs.Memory.Moves.{moved_asks}
use Rattle.ink_model.specs.Memory.Refusals.{LacksMemory}
use Rattle.ink_model.specs.Text.Output.{ends_function}
use Rattle.ink_model.specs.Text.Page.{Page}
use Rattle.ink_model.specs.Flow.Threads.{frame_popped}
use Rattle.ink_model.specs.declared.fault.Fault.{Fault}
use Rattle.ink_model.specs.declared.frame.FrameKind.TheVariants.{Function}
use Rattle.ink_moves.specs.Reaches.{PassesAs, ReachesAs, off_function, left_asks, void_given}
use Rattle.ink_moves.specs.declared.flow.StepEnd.{StepEnd}
use Rattle.ink_moves.specs.declared.flow.StepEnd.TheVariants as ends

module _ {P : Type 0} (after : P → Option P) where
  -- a place comes next
  pub goes : (f : FrameOf P) (fs : List (FrameOf P)) (o : Option P) (us : List (ThreadOf P)) (w : Written) (q : P) → option_and_then after f.place ≡ Some q
      → moved_on after (record { thread = thread_of f fs o; below = us }) w ≡ Reaches (record { thread = gone (Some q) (thread_of f fs o); below = us }) w
  goes f [] o [] w q next = rw next refl
  goes f (g ∷ gs) o [] w q next = rw next refl
  goes f [] o (u ∷ us) w q next = rw next refl
  goes f (g ∷ gs) o (u ∷ us) w q next = rw next refl

  -- a function ends
  module _ (f : FrameOf P) (o : Option P) (w : Written) (next : option_and_then after f.place ≡ None) (kind : f.kind ≡ Function) where
    -- flow goes on where the function that ended leaves it
    abbrev GoesOn : List (FrameOf P) → List (ThreadOf P) → Type 0
    GoesOn fs us = let ts : ThreadsOf P = record { thread = thread_of f fs o; below = us } in moved_on after ts w ≡ or_breaks (off_function ts w) Breaks (λ r. moved_on after r.0 r.1)

    pub leaves : (fs : List (FrameOf P)) (us : List (ThreadOf P)) → GoesOn fs us
    leaves [] [] = rw (next, kind) refl
    leaves [] (u ∷ us) = rw (next, kind) refl
    leaves (g ∷ gs) us = by us (nat_eq f.depth (depth_of w)) refl (leave_for Function f.enter w) refl
      where
        void : (us : List (ThreadOf P)) → nat_eq f.depth (depth_of w) ≡ true → (v : Written) → leave_for Function f.enter w ≡ Ok v
            → (x : Result Written Fault) → void_for g.evaluating v ≡ x → GoesOn (g ∷ gs) us
        void [] depth v leave (Ok y) given = rw (next, kind, depth, leave, given) refl
        void (u ∷ us) depth v leave (Ok y) given = rw (next, kind, depth, leave, given) refl
        void [] depth v leave (Err e) given = rw (next, kind, depth, leave, given) refl
        void (u ∷ us) depth v leave (Err e) given = rw (next, kind, depth, leave, given) refl

        by : (us : List (ThreadOf P)) (b : Bool) → nat_eq f.depth (depth_of w) ≡ b → (r : Result Written Fault) → leave_for Function f.enter w ≡ r → GoesOn (g ∷ gs) us
        by [] false depth r leave = rw (next, kind, depth) refl
        by (u ∷ us) false depth r leave = rw (next, kind, depth) refl
        by [] true depth (Err e) leave = rw (next, kind, depth, leave) refl
        by (u ∷ us) true depth (Err e) leave = rw (next, kind, depth, leave) refl
        by us true depth (Ok v) leave = void us depth v leave (void_for g.evaluating v) refl

    pub leave_asks : (fs : List (FrameOf P)) (us : List (ThreadOf P)) → left_asks Function (frame_popped Function (depth_of w) (thread_of f fs o)) f w ≡ true
        → moved_asks after (record { thread = thread_of f fs o; below = us }) w ≡ true
    leave_asks [] us asking = absurd (let no : false ≡ true = rw kind at asking in cc)
    leave_asks (g ∷ gs) us asking = by us (nat_eq f.depth (depth_of w)) refl
      where
        by : (us : List (ThreadOf P)) (b : Bool) → nat_eq f.depth (depth_of w) ≡ b → moved_asks after (record { thread = thread_of f (g ∷ gs) o; below = us }) w ≡ true
        by [] true depth = rw (next, kind, depth) (rw (kind, depth) at asking)
        by (u ∷ us) true depth = rw (next, kind, depth) (rw (kind, depth) at asking)
        by us false depth = absurd (let no : false ≡ true = rw (kind, depth) at asking in cc)

-- ---- what is left of a way that begins with calls

pub more_asks : {P : Type 0} (few many : Bool) → (few ≡ true → many ≡ true) → (m : Reached P) (ts : ThreadsOf P) (w : Written) (r : Result StepEnd Fault) → ReachesAs few m ts w r
    → ReachesAs many m ts w r
more_asks few many more (Reaches us v) ts w (Ok ends.Went) h = h
more_asks few many more (Halts us v) ts w (Ok ends.Stopped) h = h
more_asks few many more m ts w (Ok end) h = absurd h
more_asks few many more (Breaks g) ts w (Err f) (inl h) = inl h
more_asks few many more (Breaks g) ts w (Err f) (inr h) = inr (h.0, more h.1)
more_asks few many more m ts w (Err f) h = (h.0, more h.1)

-- memory was refused
pub refused : {P : Type 0} (asks : Bool) (m : Reached P) (ts : ThreadsOf P) (w : Written) (f : Fault) → LacksMemory asks f → ReachesAs asks m ts w (Err f)
refused asks (Breaks g) ts w f h = inr h
refused asks m ts w f h = h

module _ {P : Type 0} (go : ThreadsOf P × Written → Reached P) where
  -- the first call went through
  pub way_on : (few : Bool) (rule : Result (ThreadsOf P × Written) Fault) (ts : ThreadsOf P) (w : Written) (u : Unit {0}) → PassesAs few rule ts w (Ok u)
      → or_breaks rule Breaks go ≡ go (ts, w)
  way_on few (Ok r) ts w u h = rw (h.0, h.1) refl
  way_on few (Err g) ts w u h = absurd h

  -- and where it did not
  pub way_off : (few many : Bool) → (few ≡ true → many ≡ true) → (rule : Result (ThreadsOf P × Written) Fault) (ts us : ThreadsOf P) (w v : Written) (f : Fault) → PassesAs few rule ts w (Err f)
      → ReachesAs many (or_breaks rule Breaks go) us v (Err f)
  way_off few many more (Ok r) ts us w v f h = refused many (go r) us v f (h.0, more h.1)
  way_off few many more (Err g) ts us w v f (inl h) = inl h
  way_off few many more (Err g) ts us w v f (inr h) = inr (h.0, more h.1)

-- ---- how far there is to go

-- the frames of threads
abbrev pub frames_in : {P : Type 0} → List (ThreadOf P) → ℕ
frames_in [] = 0
frames_in (t ∷ ts) = length t.below + 1 + frames_in ts

abbrev pub all_frames : {P : Type 0} → ThreadsOf P → ℕ
all_frames ts = frames_in (ts.thread ∷ ts.below)

-- a function that ended could be popped, and its mark had room
module _ {P : Type 0} where
  ended_asks : (asks : Bool) (ts us : ThreadsOf P) (w v : Written) (u : Unit {0}) → PassesAs asks (off_function ts w) us v (Ok u)
      → left_asks Function (frame_popped Function (depth_of w) ts.thread) ts.thread.frame w ≡ true
  ended_asks asks ts us w v u = by (frame_popped Function (depth_of w) ts.thread) (ends_function ts.thread.frame.enter w.page) refl
    where
      by : (r : Result (ThreadOf P) Fault) (page : Result Page Fault) → ends_function ts.thread.frame.enter w.page ≡ page
          → PassesAs asks (or_breaks (or_breaks r Err (λ t. or_breaks (on_page page w) Err (λ x. Ok (record ts { thread = t }, x)))) Err void_given) us v (Ok u)
          → left_asks Function r ts.thread.frame w ≡ true
      by (Ok t) (Ok page) is h = ap is_ok is
      by (Ok t) (Err g) is h = absurd h
      by (Err g) page is h = absurd h

-- ---- the way from a start

-- flow goes on from here as it does from the start, and asks for memory only where that asks
pub record OnTheWay {P : Type 0} (after : P → Option P) (start : ThreadsOf P) (begun : Written) (here : ThreadsOf P) (w : Written) : Type 0 where
  pub same : moved_on after here w ≡ moved_on after start begun
  pub asks : moved_asks after here w ≡ true → moved_asks after start begun ≡ true

module _ {P Q : Type 0} (f : P → Q) (after : Q → Option Q) (start : ThreadsOf Q) (begun w : Written) (ts : ThreadsOf P) (way : OnTheWay after start begun (map_threads f ts) w) where
  -- a place comes next
  pub reached : (asks : Bool) (q : Q) → option_and_then after (map_threads f ts).thread.frame.place ≡ Some q → (us : ThreadsOf Q) (r : Result StepEnd Fault)
      → ReachesAs false (reach q (map_threads f ts) w) us w r → ReachesAs asks (moved_on after start begun) us w r
  reached asks q next us r h = subst (λ m. ReachesAs asks m us w r) (sym (goes after _ _ _ _ w q next) ∙ way.same)
      (more_asks false asks (λ no. absurd (cc)) (reach q (map_threads f ts) w) us w r h)

  module _ (next : option_and_then after (map_threads f ts).thread.frame.place ≡ None) where
    module _ (kind : ts.thread.frame.kind ≡ Function) (us : ThreadsOf Q) (v : Written) where
      asking : left_asks Function (frame_popped Function (depth_of w) (map_threads f ts).thread) (map_threads f ts).thread.frame w ≡ true → moved_asks after start begun ≡ true
      asking h = way.asks (leave_asks after _ _ w next kind _ _ h)

      -- a function ends
      pub function_ended : (u : Unit {0}) → PassesAs (left_asks Function (frame_popped Function (depth_of w) (map_threads f ts).thread) (map_threads f ts).thread.frame w) (off_function (map_threads f ts) w) us v (Ok u)
          → OnTheWay after start begun us v
      function_ended u h =
          let there = leaves after _ _ w next kind _ _ ∙ way_on (λ r. moved_on after r.0 r.1) _ (off_function (map_threads f ts) w) us v u h in
          record { same = sym there ∙ way.same; asks = λ _. asking (ended_asks _ (map_threads f ts) us w v u h) }

      pub function_broke : (g : Fault) (ended_in : ThreadsOf Q) (x : Written) → PassesAs (left_asks Function (frame_popped Function (depth_of w) (map_threads f ts).thread) (map_threads f ts).thread.frame w) (off_function (map_threads f ts) w) us v (Err g)
          → ReachesAs (moved_asks after start begun) (moved_on after start begun) ended_in x (Err g)
      function_broke g ended_in x h = subst (λ m. ReachesAs (moved_asks after start begun) m ended_in x (Err g)) (sym (leaves after _ _ w next kind _ _) ∙ way.same)
          (way_off (λ r. moved_on after r.0 r.1) _ (moved_asks after start begun) asking (off_function (map_threads f ts) w) us ended_in v x g h)
