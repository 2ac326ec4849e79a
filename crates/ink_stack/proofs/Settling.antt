-- Frames of which the lowest do not have the number of their Enter. In a list the bottom one is the first.
use Rattle.std.proofs.Common.{◌≡◌, ◌∙◌, ◌≤◌, ℕ, zero, suc, List, [], ◌∷◌, ◌++◌, Bool, true, false, not, is_some, Option, Some, None, ap, arith, get_or, if◌then◌else◌, length, map, nat_eq, refl, set, sym}
use Rattle.ink_stack.proofs.Common.{FrameOf, unnumbered_frame, stale, Settled}

pub no_number : (o : Option ℕ) (none : Bool) → is_some o ≡ not none → none ≡ true → o ≡ None
no_number None none is h = refl
no_number (Some n) none is h = absurd (let e : true ≡ false = is ∙ ap not h in cc)

module _ {P : Type 0} where
  -- ---- a frame more, and fewer

  pub settled_below : (n : ℕ) (fs gs : List (FrameOf P)) → Settled n fs → Settled n (fs ++ gs)
  settled_below zero fs gs h = tt
  settled_below (suc n) [] gs h = absurd h
  settled_below (suc n) (f ∷ fs) gs h = (h.0, settled_below n fs gs h.1)

  pub settled_next : (f : FrameOf P) (fs : List (FrameOf P)) → f.enter ≡ None → Settled (length fs) fs → Settled (suc (length fs)) (fs ++ f ∷ [])
  settled_next f [] none h = (none, tt)
  settled_next f (g ∷ fs) none h = (h.0, settled_next f fs none h.1)

  pub settled_fewer : (m n : ℕ) (fs gs : List (FrameOf P)) → m ≤ n → m ≤ length fs → Settled n (fs ++ gs) → Settled m fs
  settled_fewer zero n fs gs few inside h = tt
  settled_fewer (suc m) zero fs gs few inside h = absurd (omega arith)
  settled_fewer (suc m) (suc n) [] gs few inside h = absurd (omega arith)
  settled_fewer (suc m) (suc n) (f ∷ fs) gs few inside h = (h.0, settled_fewer m n fs gs (omega arith) (omega arith) h.1)

  -- ---- a frame of the same number in the place of another

  pub settled_set : (n : ℕ) (fs : List (FrameOf P)) (i : ℕ) (d g : FrameOf P) → g.enter ≡ (get_or fs i d).enter → Settled n fs → Settled n (set fs i g)
  settled_set zero fs i d g same h = tt
  settled_set (suc n) [] i d g same h = absurd h
  settled_set (suc n) (f ∷ fs) zero d g same h = (same ∙ h.0, h.1)
  settled_set (suc n) (f ∷ fs) (suc i) d g same h = (h.0, settled_set n fs i d g same h.1)

  -- a text has nothing to do with a frame's number
  pub stale_number : (d : ℕ) (f : FrameOf P) → (stale d f).enter ≡ f.enter
  stale_number d f = elim (nat_eq f.depth d) as (λ b. (if b then record f { fresh = false } else f).enter ≡ f.enter) [
    | true ↦ refl
    | false ↦ refl
  ]

  -- ---- no number any more

  pub settled_all : (fs : List (FrameOf P)) → Settled (length fs) (map unnumbered_frame fs)
  settled_all [] = tt
  settled_all (f ∷ fs) = (refl, settled_all fs)

  -- nothing is to be taken away
  pub settled_same : (n : ℕ) (fs : List (FrameOf P)) → length fs ≤ n → Settled n fs → map unnumbered_frame fs ≡ fs
  settled_same n [] all h = refl
  settled_same zero (f ∷ fs) all h = absurd (omega arith)
  settled_same (suc n) (f ∷ fs) all h =
      ap (λ e. record f { enter = e } ∷ map unnumbered_frame fs) (sym h.0) ∙ ap (λ gs. f ∷ gs) (settled_same n fs (omega arith) h.1)
