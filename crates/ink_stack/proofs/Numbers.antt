-- Frames by their number, over a list whose last item is the top one.
use Rattle.std.proofs.Common.{◌≡◌, ◌≢◌, ◌∙◌, ◌<◌, ◌≤◌, ◌+◌, ◌-◌, ℕ, List, [], ◌∷◌, ◌++◌, true, false, Option, Some, None, option_and_then, Result, Ok, Err, IfSome, OnOk, OnErr, add-one, ap, append_assoc, arith, drop, get_or, length, length-append, nat_eq, refl, reverse, set, subst, sym, take}
use Rattle.ink_stack.proofs.Common.{nat_tests, on_err_weaker, on_ok_weaker, name_order, row, Value, IsQuiet}
use Rattle.std.proofs.lemmas.List.{drop_more, get_or-set_same, length-reverse, length-take-le, reverse-append, set-get_or, set_split, take-append-drop}
use Rattle.ink_model.specs.Flow.Frames.{FrameOf, ThreadOf, frame_numbered, is_function}
use Rattle.ink_model.specs.Flow.Threads.{changed, frame_count, temp_in, with_row_in, with_temp}

pub same_number : (n : ℕ) → nat_eq n n ≡ true
same_number n = grind (arith, nat_tests)

pub other_number : (m n : ℕ) → m < n → nat_eq m n ≡ false
other_number m n h = grind (arith, nat_tests)

pub unlike : (m n : ℕ) → m ≢ n → nat_eq m n ≡ false
unlike m n h = grind (arith, nat_tests)

reverse_around : {X : Type 0} (before after : List X) (x : X) → reverse (before ++ x ∷ after) ≡ reverse after ++ x ∷ reverse before
reverse_around before after x =
    reverse-append before (x ∷ after) ∙ ap (λ r. r ++ reverse before) (reverse-append (x ∷ []) after)
    ∙ append_assoc (reverse after) (x ∷ []) (reverse before)

pub split_at : {X : Type 0} (xs : List X) (i : ℕ) (d : X) → i < length xs → reverse xs ≡ reverse (drop (i + 1) xs) ++ get_or xs i d ∷ reverse (take i xs)
split_at xs i d h =
    ap reverse (sym (take-append-drop i xs) ∙ ap (λ ys. take i xs ++ ys) (drop_more xs i d h))
    ∙ reverse_around (take i xs) (drop (i + 1) xs) (get_or xs i d)

pub split_set : {X : Type 0} (xs : List X) (i : ℕ) (y : X) → i < length xs → reverse (set xs i y) ≡ reverse (drop (i + 1) xs) ++ y ∷ reverse (take i xs)
split_set xs i y h =
    let parts : set xs i y ≡ take i xs ++ y ∷ drop (i + 1) xs = rw add-one (set_split xs i y h) in
    ap reverse parts ∙ reverse_around (take i xs) (drop (i + 1) xs) y

length_below : {X : Type 0} (xs : List X) (i : ℕ) → i < length xs → length (reverse (take i xs)) ≡ i
length_below xs i h = length-reverse (take i xs) ∙ length-take-le i xs (omega arith)

module _ {P : Type 0} where
  numbered_around : (above : List (FrameOf P)) (f : FrameOf P) (below : List (FrameOf P)) (n : ℕ) → n ≡ length below + 1
      → frame_numbered n (above ++ f ∷ below) ≡ Some f
  numbered_around [] f below n is = rw (is, same_number (length below + 1)) refl
  numbered_around (g ∷ gs) f below n is =
      rw (other_number n (length (gs ++ f ∷ below) + 1) (omega (arith, length-append gs (f ∷ below)))) (numbered_around gs f below n is)

  changed_around : (change : FrameOf P → FrameOf P) (above : List (FrameOf P)) (f : FrameOf P) (below : List (FrameOf P)) (n : ℕ) → n ≡ length below + 1
      → changed change n (above ++ f ∷ below) ≡ above ++ change f ∷ below
  changed_around change [] f below n is = rw (is, same_number (length below + 1)) refl
  changed_around change (g ∷ gs) f below n is =
      rw (other_number n (length (gs ++ f ∷ below) + 1) (omega (arith, length-append gs (f ∷ below))))
      (ap (λ fs. g ∷ fs) (changed_around change gs f below n is))

  -- the frame of a number is the one before it in the list
  pub numbered_is : (fs : List (FrameOf P)) (n : ℕ) (d : FrameOf P) → 0 < n → n ≤ length fs → frame_numbered n (reverse fs) ≡ Some (get_or fs (n - 1) d)
  numbered_is fs n d above within =
      let inside : n - 1 < length fs = omega arith in
      let is : n ≡ length (reverse (take (n - 1) fs)) + 1 = omega (arith, length_below fs (n - 1) inside) in
      ap (frame_numbered n) (split_at fs (n - 1) d inside) ∙ numbered_around (reverse (drop (n - 1 + 1) fs)) (get_or fs (n - 1) d) (reverse (take (n - 1) fs)) n is

  pub changed_is : (change : FrameOf P → FrameOf P) (fs : List (FrameOf P)) (n : ℕ) (d : FrameOf P) → 0 < n → n ≤ length fs
      → reverse (set fs (n - 1) (change (get_or fs (n - 1) d))) ≡ changed change n (reverse fs)
  changed_is change fs n d above within =
      let inside : n - 1 < length fs = omega arith in
      let is : n ≡ length (reverse (take (n - 1) fs)) + 1 = omega (arith, length_below fs (n - 1) inside) in
      split_set fs (n - 1) (change (get_or fs (n - 1) d)) inside
      ∙ sym (ap (changed change n) (split_at fs (n - 1) d inside)
      ∙ changed_around change (reverse (drop (n - 1 + 1) fs)) (get_or fs (n - 1) d) (reverse (take (n - 1) fs)) n is)

  -- a number that no frame has
  pub none_numbered : (fs : List (FrameOf P)) (n : ℕ) → ((k : ℕ) → k < length fs → n ≢ k + 1) → frame_numbered n fs ≡ None
  none_numbered [] n h = refl
  none_numbered (f ∷ fs) n h = rw (unlike n (length fs + 1) (h (length fs) (omega arith))) (none_numbered fs n (λ k less. h k (omega arith)))

  -- freshness where a frame of the same kind stands in the place of another
  quiet_around : (n : ℕ) (above : List (FrameOf P)) (f g : FrameOf P) (below : List (FrameOf P)) → g.kind ≡ f.kind → g.fresh ≡ f.fresh → g.depth ≡ f.depth
      → IsQuiet n (above ++ f ∷ below) → IsQuiet n (above ++ g ∷ below)
  quiet_around n [] f g below kind fresh depth quiet = λ function.
      let q = quiet (ap is_function (sym kind) ∙ function) in (λ is. omega (arith, depth, q.0 (sym fresh ∙ is)), q.1)
  quiet_around n (a ∷ above) f g below kind fresh depth quiet = λ function. let q = quiet function in (q.0, quiet_around n above f g below kind fresh depth q.1)

  pub quiet_set : (fs : List (FrameOf P)) (n : ℕ) (d g : FrameOf P) (quiet : Option ℕ) → 0 < n → n ≤ length fs
      → g.kind ≡ (get_or fs (n - 1) d).kind → g.fresh ≡ (get_or fs (n - 1) d).fresh → g.depth ≡ (get_or fs (n - 1) d).depth
      → IfSome quiet (λ m. IsQuiet m (reverse fs)) → IfSome quiet (λ m. IsQuiet m (reverse (set fs (n - 1) g)))
  quiet_set fs n d g None above within kind fresh depth quiet = tt
  quiet_set fs n d g (Some m) above within kind fresh depth quiet =
      let inside : n - 1 < length fs = omega arith in
      subst (λ gs. IsQuiet m gs) (sym (split_set fs (n - 1) g inside))
      (quiet_around m (reverse (drop (n - 1 + 1) fs)) (get_or fs (n - 1) d) g (reverse (take (n - 1) fs)) kind fresh depth
      (subst (λ gs. IsQuiet m gs) (split_at fs (n - 1) d inside) quiet))

  -- a frame of a number, below another one
  pub numbered_below : (f : FrameOf P) (fs : List (FrameOf P)) (n : ℕ) (d : FrameOf P) → 0 < n → n ≤ length fs
      → frame_numbered n (f ∷ reverse fs) ≡ Some (get_or fs (n - 1) d)
  numbered_below f fs n d above within =
      rw (other_number n (length (reverse fs) + 1) (omega (arith, length-reverse fs))) (numbered_is fs n d above within)

  pub temp_below : (t : ThreadOf P) (fs : List (FrameOf P)) (n : ℕ) (d : FrameOf P) (name : List ℕ) → t.below ≡ reverse fs → 0 < n → n ≤ length fs
      → temp_in n name t ≡ row name_order name (get_or fs (n - 1) d).temps
  temp_below t fs n d name is above within =
      ap (λ h. option_and_then (λ g. row name_order name g.temps) h) (ap (λ gs. frame_numbered n (t.frame ∷ gs)) is ∙ numbered_below t.frame fs n d above within)

  module _ {U E : Type 0} (r : Result U E) (f : FrameOf P) (fs : List (FrameOf P)) (previous : Option P) (n : ℕ) (d : FrameOf P) (name : List ℕ)
      (above : 0 < n) (within : n ≤ length fs) where
    -- the thread of these frames
    abbrev thread_of : List (FrameOf P) → ThreadOf P
    thread_of gs = record { frame = f; below = reverse gs; previous = previous }

    pub temp_along : (v : Value) (g : FrameOf P) → OnOk r (g ≡ with_row_in name v (get_or fs (n - 1) d))
        → OnOk r (thread_of (set fs (n - 1) g) ≡ with_temp n name v (thread_of fs))
    temp_along v g ok =
        on_ok_weaker r
        (λ made. rw (other_number n (length (reverse fs) + 1) (omega (arith, length-reverse fs)))
        (ap (λ gs. record { frame = f; below = gs; previous = previous })
        (ap (λ h. reverse (set fs (n - 1) h)) made ∙ changed_is (with_row_in name v) fs n d above within))) ok

    pub memory_along : OnErr r (row name_order name (get_or fs (n - 1) d).temps ≡ None) → OnErr r (temp_in n name (thread_of fs) ≡ None)
    memory_along err = on_err_weaker r (λ absent. ap (λ h. option_and_then (λ g. row name_order name g.temps) h) (numbered_below f fs n d above within) ∙ absent) err

  -- some frame of a list that has one
  pub some_frame : (fs : List (FrameOf P)) → 0 < length fs → FrameOf P
  some_frame [] h = absurd (omega arith)
  some_frame (f ∷ fs) h = f

  -- ---- a list of which one frame has a temporary more, or which is as it was

  module _ {U E : Type 0} (r : Result U E) (was now : List (FrameOf P)) (i : ℕ) (d : FrameOf P) (inside : i < length was) where
    pub set_either : (h : FrameOf P) → OnOk r (now ≡ set was i h) → OnErr r (now ≡ was) → now ≡ set was i (get_or now i d)
    set_either h made kept = by r made kept
      where
        by : (s : Result U E) → OnOk s (now ≡ set was i h) → OnErr s (now ≡ was) → now ≡ set was i (get_or now i d)
        by (Ok u) made kept = made ∙ ap (λ f. set was i f) (sym (ap (λ fs. get_or fs i d) made ∙ get_or-set_same was i h d inside))
        by (Err e) made kept = kept ∙ sym (ap (λ fs. set was i (get_or fs i d)) kept ∙ set-get_or was i d)

    pub row_made : (name : List ℕ) (v : Value) → OnOk r (now ≡ set was i (with_row_in name v (get_or was i d))) → OnOk r (get_or now i d ≡ with_row_in name v (get_or was i d))
    row_made name v ok = on_ok_weaker r (λ made. ap (λ fs. get_or fs i d) made ∙ get_or-set_same was i (with_row_in name v (get_or was i d)) d inside) ok

    pub row_kept : OnErr r (now ≡ was) → OnErr r (get_or now i d ≡ get_or was i d)
    row_kept err = on_err_weaker r (λ kept. ap (λ fs. get_or fs i d) kept) err

module _ {P : Type 0} where
  -- a number that is not the top frame's is one of those below
  pub number_below : (t : ThreadOf P) (fs : List (FrameOf P)) (n : ℕ) → reverse fs ≡ t.below → n ≤ frame_count t → n ≢ frame_count t → n ≢ 0 → n - 1 < length fs
  number_below t fs n is there other some = omega (arith, ap length is, length-reverse fs, there, other, some)

  pub one_there : (t : ThreadOf P) → 1 ≤ frame_count t
  one_there t = omega arith

pub some_number : (n : ℕ) → 0 < n → n ≢ 0
some_number n h is = absurd (omega (arith, h, is))
