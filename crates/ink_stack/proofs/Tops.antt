-- What calls do to the top frame and to the top thread, by the rules.
use Rattle.std.proofs.Common.{◌≡◌, ◌∙◌, ◌<◌, ◌≤◌, ◌+◌, ℕ, List, [], ◌∷◌, ◌++◌, false, true, inl, Option, None, Some, Result, IfOk, OnErr, OnOk, Err, Ok, ap, arith, length, nat_lt, refl, reverse, subst, sym}
use Rattle.ink_stack.proofs.Common.{nat_tests, reverse-append, IfOk-weaker, on_err_weaker, on_ok_weaker, FrameOf, ThreadOf, ThreadsOf, name_order, row, FrameKind, MAX_THREADS, Value, temp_back, with_frame, Changes, Grows}
use Rattle.ink_model.specs.Flow.Threads.{back_to, doubled, dropped, dropped_to, frame_count, frame_popped, same_kind, temp_in, thread_count, with_row_in, with_temp}
use Rattle.ink_model.specs.declared.fault.Fault.TheVariants.{OutOfMemory, TooDeep}
use Rattle.ink_stack.proofs.Framing.{framed_top}
use Rattle.ink_stack.proofs.Numbers.{same_number}

fewer : (m n : ℕ) → m < n → nat_lt m n ≡ true
fewer m n h = grind (arith, nat_tests)

no_fewer : (m n : ℕ) → n ≤ m → nat_lt m n ≡ false
no_fewer m n h = grind (arith, nat_tests)

module _ {P : Type 0} where
  -- ---- a frame fewer

  popped_to : {U : Type 0} (d : ℕ) (t : ThreadOf P) (f g : FrameOf P) (h : U) (fs : List (FrameOf P)) → t.frame.depth ≡ d → g ≡ f → Changes (back_to (f ∷ fs) d t) t (record t { frame = g; below = fs }) (Ok h)
  popped_to d t f g h fs depth top = rw (depth, same_number d) (ap (λ e. record t { frame = e; below = fs }) top)

  pub popped_made : {U : Type 0} (k : FrameKind) (d : ℕ) (t : ThreadOf P) (f g : FrameOf P) (h : U) (fs : List (FrameOf P)) → same_kind t.frame.kind k ≡ true → t.frame.depth ≡ d → t.below ≡ f ∷ fs → g ≡ f
      → Changes (frame_popped k d t) t (record t { frame = g; below = fs }) (Ok h)
  popped_made k d t f g h fs kind depth under top =
      rw kind (subst (λ gs. Changes (back_to gs d t) t (record t { frame = g; below = fs }) (Ok h)) (sym under) (popped_to d t f g h fs depth top))

  -- ---- a thread more

  pub doubled_full : (ts : ThreadsOf P) → MAX_THREADS ≤ thread_count ts → Grows {U = Unit} (doubled ts) ts ts (Err TooDeep)
  doubled_full ts full = rw (no_fewer (thread_count ts) MAX_THREADS full) (inl refl, refl)

  pub doubled_refused : (ts : ThreadsOf P) → thread_count ts < MAX_THREADS → Grows {U = Unit} (doubled ts) ts ts (Err OutOfMemory)
  doubled_refused ts few = rw (fewer (thread_count ts) MAX_THREADS few) ((refl, refl), refl)

  pub doubled_done : (t copy : ThreadOf P) (below new : List (ThreadOf P)) (u : Unit {0}) → thread_count (record { thread = t; below = reverse below }) < MAX_THREADS → new ≡ below ++ copy ∷ [] → copy ≡ t
      → Grows (doubled (record { thread = t; below = reverse below })) (record { thread = t; below = reverse below }) (record { thread = t; below = reverse new }) (Ok u)
  doubled_done t copy below new u few is same =
      rw (fewer (thread_count (record { thread = t; below = reverse below })) MAX_THREADS few)
      (ap (λ ts. record { thread = t; below = ts }) (ap reverse is ∙ reverse-append below (copy ∷ []) ∙ ap (λ x. x ∷ reverse below) same))

  -- ---- a thread fewer

  pub dropped_is : (t next : ThreadOf P) (rest items : List (ThreadOf P)) → items ≡ rest ++ next ∷ []
      → dropped (record { thread = t; below = reverse items }) ≡ Some (record { thread = next; below = reverse rest })
  dropped_is t next rest items is = ap dropped_to (ap reverse is ∙ reverse-append rest (next ∷ []))

  -- ---- a temporary of the top frame

  pub temp_top : {U E : Type 0} (r : Result U E) (t : ThreadOf P) (n : ℕ) (name : List ℕ) (v : Value) (f : FrameOf P) → n ≡ frame_count t → OnOk r (f ≡ with_row_in name v t.frame)
      → OnOk r (record t { frame = f } ≡ with_temp n name v t)
  temp_top r t n name v f is h = on_ok_weaker r (λ made. rw (is, same_number (length t.below + 1)) (ap (λ g. record t { frame = g }) made)) h

  pub memory_top : {U E : Type 0} (r : Result U E) (t : ThreadOf P) (n : ℕ) (name : List ℕ) → n ≡ frame_count t → OnErr r (row name_order name t.frame.temps ≡ None)
      → OnErr r (temp_in n name t ≡ None)
  memory_top r t n name is h = on_err_weaker r (λ absent. rw (is, same_number (length t.below + 1)) absent) h

  pub back_top : {E : Type 0} (r : Result (ℕ × Option Value) E) (t : ThreadOf P) (n : ℕ) (f : FrameOf P) → n ≡ frame_count t → IfOk r (λ was. temp_back was.0 was.1 f ≡ t.frame)
      → IfOk r (λ was. with_frame (temp_back was.0 was.1) n (record t { frame = f }) ≡ t)
  back_top r t n f is h =
      IfOk-weaker r _ _ (λ was back. framed_top (temp_back was.0 was.1) n (record t { frame = f }) is ∙ ap (λ g. record t { frame = g }) back) h
