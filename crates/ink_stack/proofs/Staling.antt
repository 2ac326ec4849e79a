-- The function frames that come first, from the frame of a number on.
use Rattle.std.proofs.Common.{◌≡◌, ◌∙◌, ◌≤◌, ◌<◌, ◌+◌, ◌-◌, ℕ, List, [], ◌∷◌, Bool, true, false, ap, arith, if◌then◌else◌, length, nat_eq, refl, sym}
use Rattle.ink_stack.proofs.Common.{nat_tests, RunningView}
use Rattle.ink_model.specs.Flow.Frames.{FrameOf, ThreadOf, frame_numbered, is_function}
use Rattle.ink_model.specs.Flow.Threads.{changed, stale, stale_run, staled}
use Rattle.ink_stack.specs.Cells.{holds_of, with_frame}
use Rattle.ink_frames.specs.Frames.{Room}
use Rattle.ink_stack.proofs.Bases.{stale_kind}
use Rattle.ink_stack.proofs.Framing.{length-changed}
use Rattle.ink_stack.proofs.Numbers.{other_number, same_number}
use Rattle.ink_stack.proofs.Runs.{first_stale, first_stays}

module _ {P : Type 0} (d : ℕ) where
  -- the same of those whose number is not above this one
  abbrev pub stale_from : ℕ → List (FrameOf P) → List (FrameOf P)
  stale_from n [] = []
  stale_from n (f ∷ fs) = if nat_eq n (length fs + 1) then stale_run d (f ∷ fs) else f ∷ stale_from n fs

  pub from_top : (n : ℕ) (fs : List (FrameOf P)) → n ≡ length fs → stale_from n fs ≡ stale_run d fs
  from_top n [] is = refl
  from_top n (f ∷ fs) is =
      let same : n ≡ length fs + 1 = omega (arith, is) in
      rw (same, same_number (length fs + 1)) refl

  pub from_zero : (fs : List (FrameOf P)) → stale_from 0 fs ≡ fs
  from_zero [] = refl
  from_zero (f ∷ fs) = rw (other_number 0 (length fs + 1) (omega arith)) (ap (λ gs. f ∷ gs) (from_zero fs))

  abbrev pub function_at : ℕ → List (FrameOf P) → Bool
  function_at n fs = holds_of (λ f. is_function f.kind) (frame_numbered n fs)

  -- a frame of another kind ends the run
  pub from_stop : (n : ℕ) (fs : List (FrameOf P)) → function_at n fs ≡ false → stale_from n fs ≡ fs
  from_stop n [] other = refl
  from_stop n (f ∷ fs) other = by (nat_eq n (length fs + 1)) refl (λ h. from_stop n fs h)
    where
      by : (b : Bool) → nat_eq n (length fs + 1) ≡ b → (function_at n fs ≡ false → stale_from n fs ≡ fs) → stale_from n (f ∷ fs) ≡ f ∷ fs
      by true is below = rw is (first_stays d f fs (rw is at other))
      by false is below = rw is (ap (λ gs. f ∷ gs) (below (rw is at other)))

  -- one function frame further down
  pub from_step : (n : ℕ) (fs : List (FrameOf P)) → 0 < n → n ≤ length fs → function_at n fs ≡ true → stale_from (n - 1) (changed (stale d) n fs) ≡ stale_from n fs
  from_step n [] above within function = absurd (omega arith)
  from_step n (f ∷ fs) above within function = by (nat_eq n (length fs + 1)) refl (λ w h. from_step n fs above w h)
    where
      by : (b : Bool) → nat_eq n (length fs + 1) ≡ b → (n ≤ length fs → function_at n fs ≡ true → stale_from (n - 1) (changed (stale d) n fs) ≡ stale_from n fs)
          → stale_from (n - 1) (changed (stale d) n (f ∷ fs)) ≡ stale_from n (f ∷ fs)
      by true is below =
          let count : n - 1 ≡ length fs = grind (arith, nat_tests) in
          rw (is, other_number (n - 1) (length fs + 1) (omega arith))
          (ap (λ gs. stale d f ∷ gs) (from_top (n - 1) fs count) ∙ sym (first_stale d f fs (rw is at function)))
      by false is below =
          let few : n ≤ length fs = grind (arith, nat_tests) in
          rw (is, length-changed (stale d) n fs, other_number (n - 1) (length fs + 1) (omega arith))
          (ap (λ gs. f ∷ gs) (below few (rw is at function)))

  -- the frame of a number below the top one
  pub function_below : (f : FrameOf P) (fs : List (FrameOf P)) (n : ℕ) → n ≤ length fs → function_at n (f ∷ fs) ≡ function_at n fs
  function_below f fs n within = rw (other_number n (length fs + 1) (omega arith)) refl

  pub framed_lower : (change : FrameOf P → FrameOf P) (t : ThreadOf P) (n : ℕ) → n ≤ length t.below → with_frame change n t ≡ record t { below = changed change n t.below }
  framed_lower change t n within = rw (other_number n (length t.below + 1) (omega arith)) refl

-- what is stale already stays as it is
module _ {P : Type 0} (d : ℕ) where
  stale_twice : (f : FrameOf P) → stale d (stale d f) ≡ stale d f
  stale_twice f = by (nat_eq f.depth d) refl
    where
      by : (b : Bool) → nat_eq f.depth d ≡ b → stale d (stale d f) ≡ stale d f
      by true is = rw (is, is) refl
      by false is = rw (is, is) refl

  run_twice : (fs : List (FrameOf P)) → stale_run d (stale_run d fs) ≡ stale_run d fs
  run_twice [] = refl
  run_twice (f ∷ fs) = by (is_function f.kind) refl (run_twice fs)
    where
      by : (b : Bool) → is_function f.kind ≡ b → stale_run d (stale_run d fs) ≡ stale_run d fs → stale_run d (stale_run d (f ∷ fs)) ≡ stale_run d (f ∷ fs)
      by true is below =
          ap (stale_run d) (first_stale d f fs is)
          ∙ first_stale d (stale d f) (stale_run d fs) (ap is_function (stale_kind d f) ∙ is)
          ∙ ap (λ g. g ∷ stale_run d (stale_run d fs)) (stale_twice f) ∙ ap (λ gs. stale d f ∷ gs) below ∙ sym (first_stale d f fs is)
      by false is below = ap (stale_run d) (first_stays d f fs is)

  pub staled_twice : (t : ThreadOf P) → staled d (staled d t) ≡ staled d t
  staled_twice t =
      ap (λ f. record t { frame = f; below = stale_run d (stale_run d t.below) }) (stale_twice t.frame)
      ∙ ap (λ fs. record t { frame = stale d t.frame; below = fs }) (run_twice t.below)

-- a thread that runs, by its parts
pub running_is : {P : Type 0} (v : RunningView P) (t : ThreadOf P) (room : Room) → v.thread.frame ≡ t.frame → v.thread.below ≡ t.below → v.thread.previous ≡ t.previous → v.room ≡ room
    → v ≡ record { thread = t; room = room }
running_is v t room frame below previous same =
    ap (λ f. record { thread = record { frame = f; below = v.thread.below; previous = v.thread.previous }; room = v.room }) frame
    ∙ ap (λ fs. record { thread = record { frame = t.frame; below = fs; previous = v.thread.previous }; room = v.room }) below
    ∙ ap (λ p. record { thread = record { frame = t.frame; below = t.below; previous = p }; room = v.room }) previous
    ∙ ap (λ r. record { thread = t; room = r }) same
