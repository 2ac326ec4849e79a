-- Threads of the frames that are given, the bottom one first.
use Rattle.std.proofs.Common.{◌≡◌, ◌≢◌, ◌∙◌, ◌<◌, ◌≤◌, ◌++◌, ◌&&◌, List, [], ◌∷◌, Bool, true, false, Option, None, Some, if◌then◌else◌, ap, arith, length, refl, reverse, subst, sym}
use Rattle.std.proofs.lemmas.Bool.{le-leb, lt-leb}
use Rattle.ink_stack.proofs.Common.{length-append, reverse-append, FrameOf, ThreadOf, MAX_FRAMES, MAX_THREADS}
use Rattle.ink_stack.specs.Saving.{base_first, thread_from, thread_with, threads_from, threads_with}

module _ {P : Type 0} where
  -- ---- a thread

  -- the last frame is on top
  last_first : (fs rest : List (FrameOf P)) (f : FrameOf P) → fs ≡ rest ++ f ∷ [] → reverse fs ≡ f ∷ reverse rest
  last_first fs rest f whole = ap reverse whole ∙ reverse-append rest (f ∷ [])

  pub thread_made : (fs rest below : List (FrameOf P)) (f : FrameOf P) (previous : Option P) → fs ≡ rest ++ f ∷ [] → below ≡ rest
      → Some (record { frame = f; below = reverse below; previous = previous }) ≡ thread_with (reverse fs) previous
  thread_made fs rest below f previous whole same =
      ap (λ gs. Some (record { frame = f; below = reverse gs; previous = previous })) same ∙ ap (λ gs. thread_with gs previous) (sym (last_first fs rest f whole))

  -- where some lie below there is more than one, and they make a thread
  pub thread_asks : (fs rest : List (FrameOf P)) (f : FrameOf P) (previous : Option P) → fs ≡ rest ++ f ∷ [] → rest ≢ [] → (1 < length fs) × (thread_with (reverse fs) previous ≢ None)
  thread_asks fs [] f previous whole some = absurd (some refl)
  thread_asks fs (g ∷ gs) f previous whole some = (
    omega (arith, ap length whole, length-append (g ∷ gs) (f ∷ [])),
    subst (λ hs. thread_with hs previous ≢ None) (sym (last_first fs (g ∷ gs) f whole)) (λ none. absurd (cc)),
  )

  pub thread_given : (fs : List (FrameOf P)) (previous : Option P) → base_first fs ≡ true → length fs ≤ MAX_FRAMES → thread_with (reverse fs) previous ≡ thread_from fs previous
  thread_given fs previous based few = rw (based, le-leb (length fs) MAX_FRAMES few) refl

  pub no_base : (fs : List (FrameOf P)) (previous : Option P) → base_first fs ≡ false → None ≡ thread_from fs previous
  no_base fs previous none = rw none refl

  pub many_frames : (fs : List (FrameOf P)) (previous : Option P) → MAX_FRAMES < length fs → None ≡ thread_from fs previous
  many_frames fs previous many =
      rw (lt-leb (length fs) MAX_FRAMES many)
      (elim (base_first fs) as (λ b. None ≡ (if b && false then thread_with (reverse fs) previous else None)) [ true ↦ refl | false ↦ refl ])

  -- ---- threads

  pub threads_given : (ts : List (ThreadOf P)) → length ts ≤ MAX_THREADS → threads_with (reverse ts) ≡ threads_from ts
  threads_given ts few = rw (le-leb (length ts) MAX_THREADS few) refl

  pub many_threads : (ts : List (ThreadOf P)) → MAX_THREADS < length ts → None ≡ threads_from ts
  many_threads ts many = rw (lt-leb (length ts) MAX_THREADS many) refl
