-- Frames by their headers and their temporaries.
use Rattle.std.proofs.Common.{◌≡◌, ◌∙◌, ◌<◌, ◌≤◌, ◌+◌, ◌-◌, ℕ, zero, suc, List, [], ◌∷◌, ◌++◌, ap, arith, get_or, if◌then◌else◌, length, map, refl, reverse, set, subst, sym, replicate, Bool, true, false, nat_lt, Option, Some, None, inl, inr}
use Rattle.std.proofs.lemmas.Bool.{cases_lt}
use Rattle.ink_frames.proofs.Common.{nat_tests, FrameOf, unnumbered_frame, Values, Value, temp_back, temps_back}
use Rattle.std.proofs.lemmas.List.{get_or-set_same, get_or_default, get_or_past, length-append, length-replicate, length-reverse, reverse-append, set-get_or}
use Rattle.ink_frames.specs.Frames.{FitsIn, Room, frame_with, framed, is_bare, unnumbered, with_temps}
use Rattle.ink_frames.specs.declared.frame.Header.{Header}

module _ {P : Type 0} where
  pub framed_length : (hs : List (Header P)) (ts : List Values) → length (framed hs ts) ≡ length hs
  framed_length [] ts = refl
  framed_length (h ∷ hs) [] = omega (arith, framed_length hs [])
  framed_length (h ∷ hs) (t ∷ ts) = omega (arith, framed_length hs ts)

  -- the frame at an index
  pub framed_at : (hs : List (Header P)) (ts : List Values) (i : ℕ) (d : FrameOf P) (e : Header P) → i < length hs → get_or (framed hs ts) i d ≡ frame_with (get_or hs i e) (get_or ts i [])
  framed_at [] ts i d e h = absurd (omega arith)
  framed_at (x ∷ hs) [] zero d e h = refl
  framed_at (x ∷ hs) [] (suc i) d e h = framed_at hs [] i d e (omega arith)
  framed_at (x ∷ hs) (t ∷ ts) zero d e h = refl
  framed_at (x ∷ hs) (t ∷ ts) (suc i) d e h = framed_at hs ts i d e (omega arith)

  -- another header
  pub header_set : (hs : List (Header P)) (ts : List Values) (i : ℕ) (x : Header P) → framed (set hs i x) ts ≡ set (framed hs ts) i (frame_with x (get_or ts i []))
  header_set [] ts i x = refl
  header_set (y ∷ hs) [] zero x = refl
  header_set (y ∷ hs) [] (suc i) x = ap (λ fs. frame_with y [] ∷ fs) (header_set hs [] i x)
  header_set (y ∷ hs) (t ∷ ts) zero x = refl
  header_set (y ∷ hs) (t ∷ ts) (suc i) x = ap (λ fs. frame_with y t ∷ fs) (header_set hs ts i x)

  pub header_changed : (change : FrameOf P → FrameOf P) (hs : List (Header P)) (ts : List Values) (i : ℕ) (x e : Header P) (d : FrameOf P) → i < length hs
      → ((rows : Values) → frame_with x rows ≡ change (frame_with (get_or hs i e) rows)) → framed (set hs i x) ts ≡ set (framed hs ts) i (change (get_or (framed hs ts) i d))
  header_changed change hs ts i x e d h same =
      header_set hs ts i x ∙ ap (λ f. set (framed hs ts) i f) (same (get_or ts i []) ∙ ap change (sym (framed_at hs ts i d e h)))

  -- other temporaries
  pub temps_set : (hs : List (Header P)) (ts : List Values) (i : ℕ) (rows : Values) (d : FrameOf P) → i < length ts → length ts ≤ length hs
      → framed hs (set ts i rows) ≡ set (framed hs ts) i (record (get_or (framed hs ts) i d) { temps = rows })
  temps_set [] ts i rows d h k = absurd (omega arith)
  temps_set (y ∷ hs) [] i rows d h k = absurd (omega arith)
  temps_set (y ∷ hs) (t ∷ ts) zero rows d h k = refl
  temps_set (y ∷ hs) (t ∷ ts) (suc i) rows d h k = ap (λ fs. frame_with y t ∷ fs) (temps_set hs ts i rows d (omega arith) (omega arith))

  -- no temporaries more
  pub temps_filled : (hs : List (Header P)) (ts : List Values) (n : ℕ) → framed hs (ts ++ replicate n []) ≡ framed hs ts
  temps_filled [] ts n = refl
  temps_filled (y ∷ hs) [] zero = refl
  temps_filled (y ∷ hs) [] (suc n) = ap (λ fs. frame_with y [] ∷ fs) (temps_filled hs [] n)
  temps_filled (y ∷ hs) (t ∷ ts) n = ap (λ fs. frame_with y t ∷ fs) (temps_filled hs ts n)

  -- a frame more, with temporaries and without
  pub framed_more : (hs : List (Header P)) (ts : List Values) (x : Header P) (rows : Values) → length ts ≡ length hs → framed (hs ++ x ∷ []) (ts ++ rows ∷ []) ≡ framed hs ts ++ frame_with x rows ∷ []
  framed_more [] [] x rows h = refl
  framed_more [] (t ∷ ts) x rows h = absurd (omega arith)
  framed_more (y ∷ hs) [] x rows h = absurd (omega arith)
  framed_more (y ∷ hs) (t ∷ ts) x rows h = ap (λ fs. frame_with y t ∷ fs) (framed_more hs ts x rows (omega arith))

  pub framed_bare : (hs : List (Header P)) (ts : List Values) (x : Header P) → length ts ≤ length hs → framed (hs ++ x ∷ []) ts ≡ framed hs ts ++ frame_with x [] ∷ []
  framed_bare [] [] x h = refl
  framed_bare [] (t ∷ ts) x h = absurd (omega arith)
  framed_bare (y ∷ hs) [] x h = ap (λ fs. frame_with y [] ∷ fs) (framed_bare hs [] x (omega arith))
  framed_bare (y ∷ hs) (t ∷ ts) x h = ap (λ fs. frame_with y t ∷ fs) (framed_bare hs ts x (omega arith))

pub rows_got : (ts : List Values) (i : ℕ) (rows : Values) → true ≡ nat_lt i (length ts) → rows ≡ get_or ts i rows → get_or ts i [] ≡ rows
rows_got ts i rows h e = get_or_default ts i [] rows (grind (arith, nat_tests, h)) ∙ sym e

pub filled_past : (ts filled : List Values) (i : ℕ) → filled ≡ ts ++ replicate (i + 1 - length ts) [] → i < length filled
filled_past ts filled i is =
    let missing = replicate {A = Values} (i + 1 - length ts) [] in
    omega (arith, ap length is, length-append ts missing, length-replicate {A = Values} (i + 1 - length ts) [])

pub rows_past : (ts : List Values) (i : ℕ) → false ≡ nat_lt i (length ts) → get_or ts i [] ≡ []
rows_past ts i h = get_or_past ts i [] (grind (arith, nat_tests, h))

module _ {P : Type 0} where
  pub temps_at : (hs : List (Header P)) (ts : List Values) (i : ℕ) (d : FrameOf P) → i < length hs → (get_or (framed hs ts) i d).temps ≡ get_or ts i []
  temps_at [] ts i d h = absurd (omega arith)
  temps_at (x ∷ hs) ts i d h = ap (λ f. f.temps) (framed_at (x ∷ hs) ts i d x h)

-- what is put back where nothing is
nothing_back : (i : ℕ) (was : Option Value) → temps_back i was [] ≡ []
nothing_back zero None = refl
nothing_back (suc i) None = refl
nothing_back i (Some v) = refl

if_bare : (b : Bool) (m n k : ℕ) → m ≤ k → n ≤ k → (if b then m else n) ≤ k
if_bare true m n k h e = h
if_bare false m n k h e = e

module _ {P : Type 0} where
  pub bare_back : (fs : List (FrameOf P)) (n i : ℕ) (was : Option Value) (d : FrameOf P) → (get_or fs n d).temps ≡ [] → fs ≡ set fs n (temp_back i was (get_or fs n d))
  bare_back fs n i was d none =
      sym (set-get_or fs n d) ∙ ap (λ rows. set fs n (record (get_or fs n d) { temps = rows })) (none ∙ sym (nothing_back i was) ∙ ap (temps_back i was) (sym none))

  -- ---- room

  beneath : (ys : List (FrameOf P)) (x : FrameOf P) (n : ℕ) → with_temps ys ≤ n → with_temps (ys ++ x ∷ []) ≤ n + 1
  beneath [] x n h = if_bare (is_bare x) 0 1 (n + 1) (omega arith) (omega arith)
  beneath (y ∷ ys) x n h = by (is_bare y) refl (beneath ys x n)
    where
      by : (b : Bool) → is_bare y ≡ b → (with_temps ys ≤ n → with_temps (ys ++ x ∷ []) ≤ n + 1) → with_temps ((y ∷ ys) ++ x ∷ []) ≤ n + 1
      by true is below = rw is (below (rw is at h))
      by false is below = rw is (omega (arith, length-append ys (x ∷ []), (rw is at h)))

  beneath_bare : (ys : List (FrameOf P)) (x : FrameOf P) → is_bare x ≡ true → with_temps ys ≤ 0 → with_temps (ys ++ x ∷ []) ≤ 0
  beneath_bare [] x bare h = rw bare (omega arith)
  beneath_bare (y ∷ ys) x bare h = by (is_bare y) refl (beneath_bare ys x bare)
    where
      by : (b : Bool) → is_bare y ≡ b → (with_temps ys ≤ 0 → with_temps (ys ++ x ∷ []) ≤ 0) → with_temps ((y ∷ ys) ++ x ∷ []) ≤ 0
      by true is below = rw is (below (rw is at h))
      by false is below = absurd (omega (arith, (rw is at h)))

  rev_cons : (x : FrameOf P) (xs : List (FrameOf P)) → reverse xs ++ x ∷ [] ≡ reverse (x ∷ xs)
  rev_cons x xs = sym (reverse-append (x ∷ []) xs)

  pub temps_of : (hs : List (Header P)) (ts : List Values) → with_temps (reverse (framed hs ts)) ≤ length ts
  temps_of [] ts = omega arith
  temps_of (x ∷ hs) [] = subst (λ fs. with_temps fs ≤ 0) (rev_cons (frame_with x []) (framed hs [])) (beneath_bare (reverse (framed hs [])) (frame_with x []) refl (temps_of hs []))
  temps_of (x ∷ hs) (t ∷ ts) =
      let below = beneath (reverse (framed hs ts)) (frame_with x t) (length ts) (temps_of hs ts) in
      let all : with_temps (reverse (frame_with x t ∷ framed hs ts)) ≤ length ts + 1 = subst (λ fs. with_temps fs ≤ length ts + 1) (rev_cons (frame_with x t) (framed hs ts)) below in
      omega (arith, all)

  pub fits : (r : Room) (hs : List (Header P)) (ts : List Values) → length hs ≤ r.frames → length ts ≤ r.temps → FitsIn r (reverse (framed hs ts))
  fits r hs ts h k = record {
    frames = omega (arith, length-reverse (framed hs ts), framed_length hs ts, h);
    temps = omega (arith, temps_of hs ts, k);
  }

  -- with a frame more
  pub fits_bare : (r : Room) (hs : List (Header P)) (ts : List Values) (f : FrameOf P) → is_bare f ≡ true → length hs + 1 ≤ r.frames → length ts ≤ r.temps → FitsIn r (f ∷ reverse (framed hs ts))
  fits_bare r hs ts f bare h k = record {
    frames = omega (arith, length-reverse (framed hs ts), framed_length hs ts, h);
    temps = rw bare (omega (arith, temps_of hs ts, k));
  }

  pub fits_more : (r : Room) (hs : List (Header P)) (ts : List Values) (f : FrameOf P) → is_bare f ≡ false → length hs + 1 ≤ r.frames → length hs + 1 ≤ r.temps → FitsIn r (f ∷ reverse (framed hs ts))
  fits_more r hs ts f some h k = record {
    frames = omega (arith, length-reverse (framed hs ts), framed_length hs ts, h);
    temps = rw some (omega (arith, length-reverse (framed hs ts), framed_length hs ts, k));
  }

  pub unnumbered_all : (hs : List (Header P)) (ts : List Values) → framed (map unnumbered hs) ts ≡ map unnumbered_frame (framed hs ts)
  unnumbered_all [] ts = refl
  unnumbered_all (x ∷ hs) [] = ap (λ fs. unnumbered_frame (frame_with x []) ∷ fs) (unnumbered_all hs [])
  unnumbered_all (x ∷ hs) (t ∷ ts) = ap (λ fs. unnumbered_frame (frame_with x t) ∷ fs) (unnumbered_all hs ts)

  -- the last header goes, with its temporaries
  pub last_taken : (hs : List (Header P)) (x : Header P) (ts rest : List Values) (rows : Values) → length ts ≤ length hs + 1 → (length ts ≡ length hs + 1 → ts ≡ rest ++ rows ∷ [])
      → (length ts ≤ length hs → (rest ≡ ts) × (rows ≡ [])) → framed (hs ++ x ∷ []) ts ≡ framed hs rest ++ frame_with x rows ∷ []
  last_taken hs x ts rest rows most last none =
      elim (cases_lt (length hs) (length ts)) [
        | inl more ↦
            let whole = last (omega arith) in
            ap (λ ys. framed (hs ++ x ∷ []) ys) whole ∙ framed_more hs rest x rows (omega (arith, ap length whole, length-append rest (rows ∷ [])))
        | inr few ↦
            let kept = none (omega arith) in
            framed_bare hs ts x (omega arith) ∙ (λ i. framed hs (sym kept.0 i) ++ frame_with x (sym kept.1 i) ∷ [])
      ]

  -- what room for a frame more is
  pub room_more : (r : Room) (hs : List (Header P)) (ts : List Values) (f : FrameOf P) → FitsIn r (f ∷ reverse (framed hs ts)) → length hs + 1 ≤ r.frames
  room_more r hs ts f h = omega (arith, h.frames, length-reverse (framed hs ts), framed_length hs ts)

  pub room_temps : (r : Room) (fs : List (FrameOf P)) (f : FrameOf P) (n : ℕ) → is_bare f ≡ false → FitsIn r (f ∷ reverse fs) → n ≡ length fs → n < r.temps
  room_temps r fs f n some h is = omega (arith, (rw some at h.temps), length-reverse fs, is)

  -- a frame more, where as many temporaries as are missing are none
  pub framed_filled : (hs : List (Header P)) (ts filled : List Values) (n : ℕ) (x : Header P) (rows : Values) → filled ≡ ts ++ replicate n [] → length filled ≡ length hs
      → framed (hs ++ x ∷ []) (filled ++ rows ∷ []) ≡ framed hs ts ++ frame_with x rows ∷ []
  framed_filled hs ts filled n x rows is many =
      framed_more hs filled x rows many ∙ ap (λ ys. framed hs ys ++ frame_with x rows ∷ []) is ∙ ap (λ fs. fs ++ frame_with x rows ∷ []) (temps_filled hs ts n)

  pub framed_put : (hs : List (Header P)) (ts : List Values) (n : ℕ) (x : Header P) (rows : Values) → n ≡ length hs → length ts ≤ n
      → framed (hs ++ x ∷ []) (ts ++ replicate (n - length ts) [] ++ rows ∷ []) ≡ framed hs ts ++ frame_with x rows ∷ []
  framed_put hs ts n x rows is few =
      let missing = replicate {A = Values} (n - length ts) [] in
      framed_filled hs ts (ts ++ missing) (n - length ts) x rows refl (omega (arith, length-append ts missing, length-replicate {A = Values} (n - length ts) [], few, is))

  -- there are none
  pub bare_none : (f : FrameOf P) → is_bare f ≡ true → f.temps ≡ []
  bare_none f bare = by f.temps bare
    where
      by : (rows : Values) → is_bare (record f { temps = rows }) ≡ true → rows ≡ []
      by [] h = refl
      by (r ∷ rows) h = absurd (cc)

  pub bare_same : (f : FrameOf P) → is_bare f ≡ true → f ≡ record f { temps = [] }
  bare_same f bare = ap (λ rows. record f { temps = rows }) (bare_none f bare)

  pub put_within : (hs more : List (Header P)) (ts new : List Values) (n : ℕ) (x : Header P) (rows : Values) → more ≡ hs ++ x ∷ [] → new ≡ ts ++ replicate (n - length ts) [] ++ rows ∷ []
      → n ≡ length hs → length ts ≤ length hs → length new ≤ length more
  put_within hs more ts new n x rows first second is few =
      let missing = replicate {A = Values} (n - length ts) [] in
      omega (arith, ap length first, length-append hs (x ∷ []), ap length second, length-append (ts ++ missing) (rows ∷ []), length-append ts missing, length-replicate {A = Values} (n - length ts) [], is, few)

  -- other temporaries, where none were put behind the last
  pub temps_put : (hs : List (Header P)) (ts filled : List Values) (n i : ℕ) (rows : Values) (d : FrameOf P) → filled ≡ ts ++ replicate n [] → i < length filled → length filled ≤ length hs
      → framed hs (set filled i rows) ≡ set (framed hs ts) i (record (get_or (framed hs ts) i d) { temps = rows })
  temps_put hs ts filled n i rows d is inside few =
      subst (λ fs. framed hs (set filled i rows) ≡ set fs i (record (get_or fs i d) { temps = rows })) (ap (framed hs) is ∙ temps_filled hs ts n) (temps_set hs filled i rows d inside few)

  pub temps_were : (hs : List (Header P)) (ts filled : List Values) (n i : ℕ) (e : Values) (d : FrameOf P) → filled ≡ ts ++ replicate n [] → i < length filled → length filled ≤ length hs
      → get_or filled i e ≡ (get_or (framed hs ts) i d).temps
  temps_were hs ts filled n i e d is inside few =
      sym (get_or_default filled i [] e inside) ∙ sym (temps_at hs filled i d (omega arith)) ∙ ap (λ fs. (get_or fs i d).temps) (ap (framed hs) is ∙ temps_filled hs ts n)

  pub temps_restored : (hs : List (Header P)) (ts filled : List Values) (n i k : ℕ) (rows : Values) (was : Option Value) (d : FrameOf P) → filled ≡ ts ++ replicate n [] → i < length filled
      → length filled ≤ length hs → temps_back k was rows ≡ (get_or (framed hs ts) i d).temps → temp_back k was (get_or (framed hs (set filled i rows)) i d) ≡ get_or (framed hs ts) i d
  temps_restored hs ts filled n i k rows was d is inside few back =
      let f = get_or (framed hs ts) i d in
      ap (λ fs. temp_back k was (get_or fs i d)) (temps_put hs ts filled n i rows d is inside few)
      ∙ ap (temp_back k was) (get_or-set_same (framed hs ts) i (record f { temps = rows }) d (omega (arith, framed_length hs ts)))
      ∙ ap (λ r. record f { temps = r }) back

  -- where there is no header, there is no frame
  pub none_framed : (hs : List (Header P)) (ts : List Values) (fs : List (FrameOf P)) → framed hs ts ≡ fs → hs ≡ [] → fs ≡ []
  none_framed hs ts fs is none = sym is ∙ ap (λ xs. framed xs ts) none
