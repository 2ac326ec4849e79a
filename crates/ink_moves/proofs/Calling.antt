-- Calls and returns: a frame is pushed or popped, and flow goes on from there.
use Rattle.std.proofs.Common.{◌≡◌, ◌∙◌, is_ok, sym, subst, refl, ◌∷◌, Bool, true, false, nat_lt, if◌then◌else◌, Option, Result, Ok, Err}
use Rattle.ink_model.specs.Flow.Transfers.{Written, Breaks, called, depth_of, enter_for, leave_for, number_for, on_page, or_breaks, reach, reach_or_on, returned}
use Rattle.ink_model.specs.Flow.Frames.{ThreadOf, ThreadsOf}
use Rattle.ink_model.specs.Memory.Moves.{popped_asks, returned_asks, went_asks}
use Rattle.ink_model.specs.Text.Output.{ends_function}
use Rattle.ink_model.specs.Text.Page.{Page}
use Rattle.ink_model.specs.Flow.Threads.{frame_count, new_frame, frame_popped, frame_pushed, top_result}
use Rattle.ink_model.specs.declared.fault.Fault.{Fault}
use Rattle.ink_model.specs.declared.fault.Fault.TheVariants.{TooDeep}
use Rattle.ink_model.specs.declared.frame.FrameKind.{FrameKind}
use Rattle.ink_model.specs.declared.frame.FrameKind.TheVariants.{Function}
use Rattle.ink_model.specs.declared.limits.TheConstants.{MAX_FRAMES}
use Rattle.ink_stack.specs.Outcomes.{Grows}
use Rattle.ink_moves.specs.Reaches.{PassesAs, ReachesAs, frame_entered, left, left_asks}
use Rattle.ink_moves.specs.declared.flow.StepEnd.{StepEnd}
use Rattle.ink_moves.proofs.Turns.{more_asks, way_off, way_on}

-- ---- calls

module _ {P : Type 0} (k : FrameKind) (q : P) (ts us : ThreadsOf P) (w : Written) (u : Unit {0}) (pushing : Grows (top_result (frame_pushed k (depth_of w) ts.thread) ts) ts us (Ok u)) where
  room : nat_lt (frame_count ts.thread) MAX_FRAMES ≡ true
  room = by (nat_lt (frame_count ts.thread) MAX_FRAMES) pushing
    where
      by : (b : Bool) → Grows (top_result (if b then Ok (record ts.thread { frame = new_frame k ts.thread.frame.place (depth_of w); below = ts.thread.frame ∷ ts.thread.below }) else Err TooDeep) ts) ts us (Ok u) → b ≡ true
      by true h = refl
      by false h = absurd h

  called_then : called k q ts w ≡ or_breaks (frame_entered k us w) Breaks (λ r. reach q r.0 r.1)
  called_then = by (frame_pushed k (depth_of w) ts.thread) pushing
    where
      inside : (t : ThreadOf P) (e : Result Written Fault) → or_breaks e Breaks (λ v. reach q (record ts { thread = number_for k w t }) v)
          ≡ or_breaks {A = ThreadsOf P × Written} (or_breaks e Err (λ v. Ok (record ts { thread = number_for k w t }, v))) Breaks (λ r. reach q r.0 r.1)
      inside t (Ok v) = refl
      inside t (Err f) = refl

      by : (r : Result (ThreadOf P) Fault) → Grows (top_result r ts) ts us (Ok u)
          → or_breaks r Breaks (λ t. or_breaks (enter_for k w) Breaks (λ v. reach q (record ts { thread = number_for k w t }) v)) ≡ or_breaks (frame_entered k us w) Breaks (λ r. reach q r.0 r.1)
      by (Ok t) h = rw h (inside t (enter_for k w))
      by (Err f) h = absurd h

  module _ (few : Bool) (xs : ThreadsOf P) (v : Written) where
    pub call_lands : (i : Unit {0}) → PassesAs few (frame_entered k us w) xs v (Ok i) → (new : ThreadsOf P) (r : Result StepEnd Fault) → ReachesAs false (reach q xs v) new v r
        → ReachesAs (nat_lt (frame_count ts.thread) MAX_FRAMES) (called k q ts w) new v r
    call_lands i entering new r h = subst (λ m. ReachesAs (nat_lt (frame_count ts.thread) MAX_FRAMES) m new v r) (sym (called_then ∙ way_on (λ r. reach q r.0 r.1) few (frame_entered k us w) xs v i entering))
        (more_asks false _ (λ no. absurd (cc)) (reach q xs v) new v r h)

    pub call_breaks : (f : Fault) → PassesAs few (frame_entered k us w) xs v (Err f) → ReachesAs (nat_lt (frame_count ts.thread) MAX_FRAMES) (called k q ts w) xs v (Err f)
    call_breaks f entering = subst (λ m. ReachesAs (nat_lt (frame_count ts.thread) MAX_FRAMES) m xs v (Err f)) (sym called_then)
        (way_off (λ r. reach q r.0 r.1) few (nat_lt (frame_count ts.thread) MAX_FRAMES) (λ _. room) (frame_entered k us w) xs xs v v f entering)

-- ---- returns

module _ {P : Type 0} (after : P → Option P) (k : FrameKind) (to : Option P) (ts us : ThreadsOf P) (w v : Written) where
  returned_then : returned after k to ts w ≡ or_breaks (left k ts w) Breaks (λ r. reach_or_on after to r.0 r.1)
  returned_then = by (frame_popped k (depth_of w) ts.thread) (leave_for k ts.thread.frame.enter w)
    where
      by : (p : Result (ThreadOf P) Fault) (l : Result Written Fault) → or_breaks p Breaks (λ t. or_breaks l Breaks (λ x. reach_or_on after to (record ts { thread = t }) x))
          ≡ or_breaks {A = ThreadsOf P × Written} (or_breaks p Err (λ t. or_breaks l Err (λ x. Ok (record ts { thread = t }, x)))) Breaks (λ r. reach_or_on after to r.0 r.1)
      by (Ok t) (Ok x) = refl
      by (Ok t) (Err f) = refl
      by (Err f) l = refl

  leaving_asks : (h : FrameKind) (p : Result (ThreadOf P) Fault) → left_asks h p ts.thread.frame w ≡ true → popped_asks after h p to ts w ≡ true
  leaving_asks Function (Ok t) asking = asking
  leaving_asks h p asking = absurd (cc)

  going_asks : (few : Bool) (u : Unit {0}) (h : FrameKind) (p : Result (ThreadOf P) Fault)
      → PassesAs few (or_breaks p Err (λ t. or_breaks (leave_for h ts.thread.frame.enter w) Err (λ x. Ok (record ts { thread = t }, x)))) us v (Ok u)
      → went_asks after to us v ≡ true → popped_asks after h p to ts w ≡ true
  going_asks few u Function (Ok t) leaving asking = by (ends_function ts.thread.frame.enter w.page) leaving
    where
      by : (page : Result Page Fault) → PassesAs few (or_breaks (on_page page w) Err (λ x. Ok (record ts { thread = t }, x))) us v (Ok u) → is_ok page ≡ true
      by (Ok page) h = refl
      by (Err g) h = absurd h
  going_asks few u h (Ok t) leaving asking = rw (leaving.0, leaving.1) at asking
  going_asks few u h (Err f) leaving asking = absurd leaving

  pub return_goes : (few : Bool) (u : Unit {0}) → PassesAs few (left k ts w) us v (Ok u) → (new : ThreadsOf P) (x : Written) (r : Result StepEnd Fault)
      → ReachesAs (went_asks after to us v) (reach_or_on after to us v) new x r → ReachesAs (returned_asks after k to ts w) (returned after k to ts w) new x r
  return_goes few u leaving new x r h = subst (λ m. ReachesAs (returned_asks after k to ts w) m new x r)
      (sym (returned_then ∙ way_on (λ r. reach_or_on after to r.0 r.1) few (left k ts w) us v u leaving))
      (more_asks (went_asks after to us v) (returned_asks after k to ts w) (going_asks few u k (frame_popped k (depth_of w) ts.thread) leaving) (reach_or_on after to us v) new x r h)

  pub return_breaks : (f : Fault) → PassesAs (left_asks k (frame_popped k (depth_of w) ts.thread) ts.thread.frame w) (left k ts w) us v (Err f)
      → ReachesAs (returned_asks after k to ts w) (returned after k to ts w) us v (Err f)
  return_breaks f leaving = subst (λ m. ReachesAs (returned_asks after k to ts w) m us v (Err f)) (sym returned_then)
      (way_off (λ r. reach_or_on after to r.0 r.1) _ (returned_asks after k to ts w) (leaving_asks k (frame_popped k (depth_of w) ts.thread)) (left k ts w) us us v v f leaving)
