-- Function frames of which each fresh one was pushed where fewer sections were open.
use Rattle.std.proofs.Common.{◌≡◌, ◌∙◌, ℕ, ◌+◌, ◌≤◌, ◌<◌, List, [], ◌∷◌, ◌++◌, Bool, true, false, Option, Some, None, IfSome, ap, append_assoc, arith, drop, get_or, length, map, nat_eq, refl, reverse, set, subst, sym, take}
use Rattle.ink_stack.proofs.Common.{nat_tests, FrameOf, is_function, unnumbered_frame, stale, stale_run, Covers, IsQuiet}
use Rattle.std.proofs.lemmas.List.{append-nil, drop-set, reverse-append, take-append-drop, take_more}
use Rattle.ink_stack.proofs.Runs.{first_stale, first_stays}

module _ {P : Type 0} where
  -- a frame of another kind comes first
  first_other : (n : ℕ) (f : FrameOf P) (fs : List (FrameOf P)) → is_function f.kind ≡ false → IsQuiet n (f ∷ fs)
  first_other n f fs other = λ function. absurd cc

  -- the same by a number that is not below
  pub quiet_weaker : (m n : ℕ) (fs : List (FrameOf P)) → m ≤ n → IsQuiet m fs → IsQuiet n fs
  quiet_weaker m n [] h quiet = tt
  quiet_weaker m n (f ∷ fs) h quiet = λ function. let q = quiet function in (λ fresh. omega (arith, h, q.0 fresh), quiet_weaker m n fs h q.1)

  stale_same : (d : ℕ) (f : FrameOf P) → (f.fresh ≡ true → f.depth < d) → stale d f ≡ f
  stale_same d f h = by f.fresh (nat_eq f.depth d) refl refl
    where
      by : (fresh here : Bool) → f.fresh ≡ fresh → nat_eq f.depth d ≡ here → stale d f ≡ f
      by fresh false is at = rw at refl
      by false true is at = rw at (ap (λ b. record f { fresh = b }) (sym is))
      by true true is at = let h' = h is in absurd (grind (arith, nat_tests))

  -- a text where so many sections are open leaves them as they are
  pub quiet_run : (d : ℕ) (fs : List (FrameOf P)) → IsQuiet d fs → stale_run d fs ≡ fs
  quiet_run d [] quiet = refl
  quiet_run d (f ∷ fs) quiet = by (is_function f.kind) refl (λ q. quiet_run d fs q)
    where
      by : (b : Bool) → is_function f.kind ≡ b → (IsQuiet d fs → stale_run d fs ≡ fs) → stale_run d (f ∷ fs) ≡ f ∷ fs
      by true is below =
          let q = quiet is in
          first_stale d f fs is ∙ ap (λ g. g ∷ stale_run d fs) (stale_same d f q.0) ∙ ap (λ gs. f ∷ gs) (below q.1)
      by false is below = first_stays d f fs is

  all_unnumbered : (n : ℕ) (fs : List (FrameOf P)) → IsQuiet n fs → IsQuiet n (map unnumbered_frame fs)
  all_unnumbered n [] quiet = tt
  all_unnumbered n (f ∷ fs) quiet = λ function. let q = quiet function in (q.0, all_unnumbered n fs q.1)

  pub quiet_unnumbered : (quiet : Option ℕ) (fs : List (FrameOf P)) → IfSome quiet (λ n. IsQuiet n fs) → IfSome quiet (λ n. IsQuiet n (map unnumbered_frame fs))
  quiet_unnumbered None fs h = tt
  quiet_unnumbered (Some n) fs h = all_unnumbered n fs h

  -- so far as a walk from the end has come
  abbrev pub QuietSoFar : ℕ → List (FrameOf P) → Option ℕ → Type 0
  QuietSoFar i fs quiet = IfSome quiet (λ n. (m : ℕ) (more : List (FrameOf P)) → n ≤ m → IsQuiet m more → IsQuiet m (reverse (drop i fs) ++ more))

  pub quiet_step : (fs : List (FrameOf P)) (i n : ℕ) (g : FrameOf P) (old new : Option ℕ) → n ≡ i + 1 → i < length fs → is_function g.kind ≡ true → Covers old g new
      → QuietSoFar n fs old → QuietSoFar i (set fs i g) new
  quiet_step fs i n g old None is h function covers before = tt
  quiet_step fs i n g None (Some b) is h function covers before = absurd (covers function).1
  quiet_step fs i n g (Some a) (Some b) is h function covers before = λ m more within quiet.
      let c = covers function in
      let whole : reverse (drop i (set fs i g)) ++ more ≡ reverse (drop n fs) ++ g ∷ more =
      ap (λ gs. reverse gs ++ more) (drop-set fs i g h)
      ∙ ap (λ gs. gs ++ more) (reverse-append (g ∷ []) (drop (i + 1) fs))
      ∙ append_assoc (reverse (drop (i + 1) fs)) (g ∷ []) more
      ∙ ap (λ k. reverse (drop k fs) ++ g ∷ more) (sym is) in
      subst (λ gs. IsQuiet m gs) (sym whole)
      (before m (g ∷ more) (omega (arith, c.1, within)) (λ also. (λ fresh. omega (arith, c.0 fresh, within), quiet)))

  pub quiet_stop : (fs : List (FrameOf P)) (i n : ℕ) (d : FrameOf P) (quiet : Option ℕ) → n ≡ i + 1 → i < length fs → is_function (get_or fs i d).kind ≡ false
      → QuietSoFar n fs quiet → IfSome quiet (λ m. IsQuiet m (reverse fs))
  quiet_stop fs i n d None is h other before = tt
  quiet_stop fs i n d (Some m) is h other before =
      let rest : reverse (take n fs) ≡ get_or fs i d ∷ reverse (take i fs) =
      ap (λ k. reverse (take k fs)) is ∙ ap reverse (take_more fs i d h) ∙ reverse-append (take i fs) (get_or fs i d ∷ []) in
      let whole : reverse fs ≡ reverse (drop n fs) ++ get_or fs i d ∷ reverse (take i fs) =
      ap reverse (sym (take-append-drop n fs)) ∙ reverse-append (take n fs) (drop n fs) ∙ ap (λ gs. reverse (drop n fs) ++ gs) rest in
      subst (λ gs. IsQuiet m gs) (sym whole) (before m (get_or fs i d ∷ reverse (take i fs)) (omega arith) (first_other m (get_or fs i d) (reverse (take i fs)) other))

  pub quiet_end : (fs : List (FrameOf P)) (quiet : Option ℕ) → QuietSoFar 0 fs quiet → IfSome quiet (λ m. IsQuiet m (reverse fs))
  quiet_end fs None before = tt
  quiet_end fs (Some m) before = subst (λ gs. IsQuiet m gs) (append-nil (reverse fs)) (before m [] (omega arith) tt)
