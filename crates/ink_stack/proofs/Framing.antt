-- A change of the frame of a number.
use Rattle.std.proofs.Common.{◌≡◌, ◌≢◌, ◌∙◌, ◌<◌, ◌≤◌, ◌+◌, ◌-◌, ℕ, List, [], ◌∷◌, ◌++◌, true, false, Option, ap, arith, drop, get_or, if◌then◌else◌, length, length-set, nat_eq, refl, reverse, set, subst, suc, sym, take}
use Rattle.std.proofs.lemmas.List.{get_or-set_same, length-reverse, set-get_or, set-set}
use Rattle.ink_stack.proofs.Common.{BaseFirst, FrameOf, ThreadOf, FrameKind}
use Rattle.ink_model.specs.Flow.Threads.{changed, frame_count}
use Rattle.ink_stack.specs.Cells.{Within, with_frame}
use Rattle.ink_frames.specs.Frames.{Room, is_bare, with_temps}
use Rattle.ink_stack.proofs.Bases.{base_same}
use Rattle.ink_stack.proofs.Numbers.{changed_is, other_number, same_number, split_at, split_set, unlike}

module _ {P : Type 0} where
  -- ---- frames by their number

  changed_none : (change : FrameOf P → FrameOf P) (n : ℕ) (fs : List (FrameOf P)) → ((k : ℕ) → k < length fs → n ≢ k + 1) → changed change n fs ≡ fs
  changed_none change n [] h = refl
  changed_none change n (f ∷ fs) h =
      rw (unlike n (length fs + 1) (h (length fs) (omega arith))) (ap (λ gs. f ∷ gs) (changed_none change n fs (λ k less. h k (omega arith))))

  pub length-changed : (change : FrameOf P → FrameOf P) (n : ℕ) (fs : List (FrameOf P)) → length (changed change n fs) ≡ length fs
  length-changed change n [] = refl
  length-changed change n (f ∷ fs) = elim (nat_eq n (length fs + 1)) as (λ b. length (if b then change f ∷ fs else f ∷ changed change n fs) ≡ length (f ∷ fs)) [
    | true ↦ refl
    | false ↦ omega (arith, length-changed change n fs)
  ]

  -- ---- in a thread

  pub framed_top : (change : FrameOf P → FrameOf P) (n : ℕ) (t : ThreadOf P) → n ≡ frame_count t → with_frame change n t ≡ record t { frame = change t.frame }
  framed_top change n t is = rw (is, same_number (length t.below + 1)) refl

  -- of the frames that are listed with the nearest last
  pub framed_below : (change : FrameOf P → FrameOf P) (f : FrameOf P) (fs : List (FrameOf P)) (previous : Option P) (n : ℕ) (d g : FrameOf P) → 0 < n → n ≤ length fs
      → g ≡ change (get_or fs (n - 1) d)
      → record { frame = f; below = reverse (set fs (n - 1) g); previous = previous } ≡ with_frame change n (record { frame = f; below = reverse fs; previous = previous })
  framed_below change f fs previous n d g above within is =
      rw (other_number n (length (reverse fs) + 1) (omega (arith, length-reverse fs)))
      (ap (λ gs. record { frame = f; below = gs; previous = previous })
      (ap (λ h. reverse (set fs (n - 1) h)) is ∙ changed_is change fs n d above within))

  -- a frame that is put back
  pub unframed_below : (back : FrameOf P → FrameOf P) (f : FrameOf P) (fs : List (FrameOf P)) (previous : Option P) (n : ℕ) (d g : FrameOf P) → 0 < n → n ≤ length fs
      → back g ≡ get_or fs (n - 1) d
      → with_frame back n (record { frame = f; below = reverse (set fs (n - 1) g); previous = previous }) ≡ record { frame = f; below = reverse fs; previous = previous }
  unframed_below back f fs previous n d g above within is =
      let inside : n - 1 < length fs = omega arith in
      let more : n ≤ length (set fs (n - 1) g) = omega (arith, length-set fs (n - 1) g) in
      sym (framed_below back f (set fs (n - 1) g) previous n g (back g) above more (ap back (sym (get_or-set_same fs (n - 1) g g inside))))
      ∙ ap (λ gs. record { frame = f; below = reverse gs; previous = previous })
      (set-set fs (n - 1) g (back g) ∙ ap (λ h. set fs (n - 1) h) is ∙ set-get_or fs (n - 1) d)

  -- a number that no frame has
  pub framed_none : (change : FrameOf P → FrameOf P) (n : ℕ) (t : ThreadOf P) → ((k : ℕ) → k < frame_count t → n ≢ k + 1) → t ≡ with_frame change n t
  framed_none change n t h =
      rw (unlike n (length t.below + 1) (h (length t.below) (omega arith)))
      (ap (λ fs. record t { below = fs }) (sym (changed_none change n t.below (λ k less. h k (omega arith)))))

  -- ---- the base

  base_around : (k : FrameKind) (above : List (FrameOf P)) (f g : FrameOf P) (below : List (FrameOf P)) → g.kind ≡ f.kind → BaseFirst k (above ++ f ∷ below) → BaseFirst k (above ++ g ∷ below)
  base_around k [] f g below same h = (h.0, base_same f.kind g.kind below same h.1)
  base_around k (a ∷ above) f g below same h = (h.0, base_around a.kind above f g below same h.1)

  -- a frame is of the kind of the one in whose place it stands
  pub base_set : (k : FrameKind) (fs : List (FrameOf P)) (n : ℕ) (d g : FrameOf P) → 0 < n → n ≤ length fs → g.kind ≡ (get_or fs (n - 1) d).kind
      → BaseFirst k (reverse fs) → BaseFirst k (reverse (set fs (n - 1) g))
  base_set k fs n d g above within same h =
      let inside : n - 1 < length fs = omega arith in
      subst (λ gs. BaseFirst k gs) (sym (split_set fs (n - 1) g inside))
      (base_around k (reverse (drop (n - 1 + 1) fs)) (get_or fs (n - 1) d) g (reverse (take (n - 1) fs)) same
      (subst (λ gs. BaseFirst k gs) (split_at fs (n - 1) d inside) h))

  base_changed : (change : FrameOf P → FrameOf P) → ((f : FrameOf P) → (change f).kind ≡ f.kind) → (n : ℕ) (k : FrameKind) (fs : List (FrameOf P))
      → BaseFirst k fs → BaseFirst k (changed change n fs)
  base_changed change same n k [] h = h
  base_changed change same n k (f ∷ fs) h =
      elim (nat_eq n (length fs + 1)) as (λ b. BaseFirst k (if b then change f ∷ fs else f ∷ changed change n fs)) [
        | true ↦ (h.0, base_same f.kind (change f).kind fs (same f) h.1)
        | false ↦ (h.0, base_changed change same n f.kind fs h.1)
      ]

  -- ---- room

  changed_temps : (change : FrameOf P → FrameOf P) → ((f : FrameOf P) → (change f).temps ≡ f.temps) → (n : ℕ) (fs : List (FrameOf P)) → with_temps (changed change n fs) ≡ with_temps fs
  changed_temps change same n [] = refl
  changed_temps change same n (f ∷ fs) =
      elim (nat_eq n (length fs + 1)) as (λ b. with_temps (if b then change f ∷ fs else f ∷ changed change n fs) ≡ with_temps (f ∷ fs)) [
        | true ↦ ap (λ b. if b then with_temps fs else suc (length fs)) (ap (λ rows. is_bare (record f { temps = rows })) (same f))
        | false ↦ ap (λ m. if is_bare f then m else suc (length (changed change n fs))) (changed_temps change same n fs)
            ∙ ap (λ m. if is_bare f then with_temps fs else suc m) (length-changed change n fs)
      ]

  pub within_framed : (change : FrameOf P → FrameOf P) → ((f : FrameOf P) → (change f).kind ≡ f.kind) → ((f : FrameOf P) → (change f).temps ≡ f.temps) → (n : ℕ) (room : Room) (t : ThreadOf P)
      → Within room t → Within room (with_frame change n t)
  within_framed change same rows n room t h =
      elim (nat_eq n (frame_count t)) as (λ b. Within room (if b then record t { frame = change t.frame } else record t { below = changed change n t.below })) [
        | true ↦ record { few = h.few; fit = h.fit; base = base_same t.frame.kind (change t.frame).kind t.below (same t.frame) h.base }
        | false ↦ record {
          few = omega (arith, h.few, length-changed change n t.below);
          fit = record {
            frames = omega (arith, h.fit.frames, length-changed change n t.below);
            temps = omega (arith, h.fit.temps, changed_temps change rows n t.below);
          };
          base = base_changed change same n t.frame.kind t.below h.base;
        }
      ]
