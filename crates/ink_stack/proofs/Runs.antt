-- The function frames that come first, seen from the end of a list.
use Rattle.std.proofs.Common.{◌≡◌, ◌∙◌, ℕ, ◌+◌, ◌<◌, List, [], ◌∷◌, ◌++◌, true, false, ap, append_assoc, arith, drop, get_or, if◌then◌else◌, length, refl, reverse, set, sym, take}
use Rattle.std.proofs.lemmas.List.{append-nil, drop-set, drop_all, reverse-append, take-append-drop, take-set, take_all, take_more}
use Rattle.ink_stack.proofs.Common.{FrameOf, is_function, stale, stale_run}

module _ {P : Type 0} (depth : ℕ) where
  -- what is done, before what is left
  abbrev pub run_at : ℕ → List (FrameOf P) → List (FrameOf P)
  run_at n fs = reverse (drop n fs) ++ stale_run depth (reverse (take n fs))

  pub first_stale : (f : FrameOf P) (fs : List (FrameOf P)) → is_function f.kind ≡ true → stale_run depth (f ∷ fs) ≡ stale depth f ∷ stale_run depth fs
  first_stale f fs h = rw h refl

  pub first_stays : (f : FrameOf P) (fs : List (FrameOf P)) → is_function f.kind ≡ false → stale_run depth (f ∷ fs) ≡ f ∷ fs
  first_stays f fs h = rw h refl

  last_first : (fs : List (FrameOf P)) (i : ℕ) (d : FrameOf P) → i < length fs → reverse (take (i + 1) fs) ≡ get_or fs i d ∷ reverse (take i fs)
  last_first fs i d h = ap reverse (take_more fs i d h) ∙ reverse-append (take i fs) (get_or fs i d ∷ [])

  -- one function frame further down
  pub run_step : (fs : List (FrameOf P)) (i n : ℕ) (d g : FrameOf P) → n ≡ i + 1 → i < length fs → is_function (get_or fs i d).kind ≡ true
      → g ≡ stale depth (get_or fs i d) → run_at i (set fs i g) ≡ run_at n fs
  run_step fs i n d g is h function made =
      ap (λ gs. reverse gs ++ stale_run depth (reverse (take i (set fs i g)))) (drop-set fs i g h)
      ∙ ap (λ gs. reverse (g ∷ drop (i + 1) fs) ++ stale_run depth (reverse gs)) (take-set fs i g)
      ∙ ap (λ gs. gs ++ stale_run depth (reverse (take i fs))) (reverse-append (g ∷ []) (drop (i + 1) fs))
      ∙ append_assoc (reverse (drop (i + 1) fs)) (g ∷ []) (stale_run depth (reverse (take i fs)))
      ∙ ap (λ a. reverse (drop (i + 1) fs) ++ a ∷ stale_run depth (reverse (take i fs))) made
      ∙ ap (λ gs. reverse (drop (i + 1) fs) ++ gs) (sym (first_stale (get_or fs i d) (reverse (take i fs)) function))
      ∙ ap (λ gs. reverse (drop (i + 1) fs) ++ stale_run depth gs) (sym (last_first fs i d h))
      ∙ ap (λ m. run_at m fs) (sym is)

  -- a frame of another kind ends the run
  pub run_stop : (fs : List (FrameOf P)) (i n : ℕ) (d : FrameOf P) → n ≡ i + 1 → i < length fs → is_function (get_or fs i d).kind ≡ false
      → reverse fs ≡ run_at n fs
  run_stop fs i n d is h other =
      ap reverse (sym (take-append-drop (i + 1) fs))
      ∙ reverse-append (take (i + 1) fs) (drop (i + 1) fs)
      ∙ ap (λ gs. reverse (drop (i + 1) fs) ++ gs) (last_first fs i d h ∙ sym (first_stays (get_or fs i d) (reverse (take i fs)) other))
      ∙ ap (λ gs. reverse (drop (i + 1) fs) ++ stale_run depth gs) (sym (last_first fs i d h))
      ∙ ap (λ m. run_at m fs) (sym is)

  pub run_end : (fs : List (FrameOf P)) → reverse fs ≡ run_at 0 fs
  run_end fs = sym (append-nil (reverse fs))

  -- all of a list is left to walk over at first
  pub run_start : (fs : List (FrameOf P)) → run_at (length fs) fs ≡ stale_run depth (reverse fs)
  run_start fs =
      ap (λ gs. reverse gs ++ stale_run depth (reverse (take (length fs) fs))) (drop_all (length fs) fs (omega arith))
      ∙ ap (λ gs. stale_run depth (reverse gs)) (take_all (length fs) fs (omega arith))

  pub length-run : (fs : List (FrameOf P)) → length (stale_run depth fs) ≡ length fs
  length-run [] = refl
  length-run (f ∷ fs) = elim (is_function f.kind) as (λ b. length (if b then stale depth f ∷ stale_run depth fs else f ∷ fs) ≡ length (f ∷ fs)) [
    | true ↦ omega (arith, length-run fs)
    | false ↦ refl
  ]
