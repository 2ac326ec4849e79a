-- Operations on threads, variables, choices and counts do the same where places have other names: each commutes with a map of them.
use Rattle.std.proofs.Common.{◌≡◌, ◌∙◌, ℕ, ◌+◌, ℤ, pos, negsuc, zero, suc, List, [], ◌∷◌, ◌++◌, ◌&&◌, ◌||◌, Bool, true, false, Option, Some, None, option_map, option_and_then, Result, Ok, Err, ap, sym, if◌then◌else◌, is_some, length, map, reverse, nat_eq, nat_lt, slice_get, refl, unwrap_or}
use Rattle.std.proofs.lemmas.List.{length-map, map-append}
use Rattle.std.specs.Ordering.{match_ordering}
use Rattle.std.specs.declared.cmp.Ordering.{Ordering}
use Rattle.std.specs.declared.cmp.Ordering.TheVariants.{Less, Equal, Greater}
use Rattle.ink_model.specs.Choices.Making.{Operands, added, choice, choice_asks, choice_of, choice_text, has_any, is_offered, make, none_visible, only_invisible, operands, shown, shown_choice, then_pop, visible}
use Rattle.ink_model.specs.Flow.Frames.{FrameOf, ThreadOf, ThreadsOf, frame_numbered, is_function, map_frame, map_thread, map_threads, on_top, unnumbered_frame, unnumbered_thread, unnumbered_threads}
use Rattle.ink_model.specs.Flow.Threads.{back_to, changed, frame_count, frame_popped, frame_pushed, new_frame, same_kind, stale, stale_run, staled, temp_in, with_row_in, with_temp}
use Rattle.ink_model.specs.Flow.Transfers.{is_last}
use Rattle.ink_model.specs.Memory.Variables.{setting_asks}
use Rattle.ink_model.specs.Run.Configuration.{ChoiceOf, map_choice, unnumbered_choice}
use Rattle.ink_model.specs.Text.Bytes.{fits_text}
use Rattle.ink_model.specs.Variables.Access.{assign, assign_at, chain_end, declare, declared, held, kept, kept_pointer, last_pointer, named, on_pointer, read, stands, value_at, with_held, with_named}
use Rattle.ink_model.specs.Variables.Rows.{map_keys, name_order, row, with_row}
use Rattle.ink_model.specs.Variables.Store.{Values, store, stored}
use Rattle.ink_model.specs.declared.fault.Fault.{Fault}
use Rattle.ink_model.specs.declared.fault.Fault.TheVariants.{BadMode, BadPointer, BadPop, NoTemp, TooDeep}
use Rattle.ink_model.specs.declared.frame.FrameKind.{FrameKind}
use Rattle.ink_model.specs.declared.limits.TheConstants.{MAX_CHOICES, MAX_FRAMES}
use Rattle.ink_model.specs.declared.scope.Scope.{Scope}
use Rattle.ink_model.specs.declared.scope.Scope.TheVariants.{Global, Temporary}
use Rattle.ink_model.specs.declared.value.Value.{Value}
use Rattle.ink_model.specs.declared.value.Value.TheVariants as value

-- ---- maps of what cases come to

abbrev pub mapped : {A B : Type 0} → (A → B) → Result A Fault → Result B Fault
mapped f (Ok a) = Ok (f a)
mapped f (Err g) = Err g

if_map : {A B : Type 0} (f : A → B) (b : Bool) (x y : A) → (if b then f x else f y) ≡ f (if b then x else y)
if_map f true x y = refl
if_map f false x y = refl

order_map : {A B : Type 0} (f : A → B) (o : Ordering) (x y z : A) → match_ordering o (f x) (f y) (f z) ≡ f (match_ordering o x y z)
order_map f Less x y z = refl
order_map f Equal x y z = refl
order_map f Greater x y z = refl

then_map : {A B C : Type 0} (f : B → C) (r : Result A Fault) (so : A → Result B Fault) (also : A → Result C Fault) → ((a : A) → also a ≡ mapped f (so a))
    → then_pop r also ≡ mapped f (then_pop r so)
then_map f (Ok a) so also h = h a
then_map f (Err g) so also h = refl

pointer_map : {A B : Type 0} (f : A → B) (v : Option Value) (so : ℤ → List ℕ → A) (also : ℤ → List ℕ → B) (otherwise : A) → ((i : ℤ) (m : List ℕ) → also i m ≡ f (so i m))
    → on_pointer v also (f otherwise) ≡ f (on_pointer v so otherwise)
pointer_map f (Some (value.Pointer i m)) so also otherwise h = h i m
pointer_map f v so also otherwise h = refl

-- two maps of a list, one after the other, where they come to two others
twice : {A B C D : Type 0} (f : B → D) (g : A → B) (h : C → D) (k : A → C) → ((x : A) → f (g x) ≡ h (k x)) → (xs : List A) → map f (map g xs) ≡ map h (map k xs)
twice f g h k e [] = refl
twice f g h k e (x ∷ xs) = ap (λ y. y ∷ map f (map g xs)) (e x) ∙ ap (λ ys. h (k x) ∷ ys) (twice f g h k e xs)

nth_map : {A B : Type 0} (f : A → B) (xs : List A) (n : ℕ) → slice_get (map f xs) n ≡ option_map f (slice_get xs n)
nth_map f [] n = refl
nth_map f (x ∷ xs) zero = refl
nth_map f (x ∷ xs) (suc n) = nth_map f xs n

any_map : {A B : Type 0} (f : A → B) (xs : List A) → has_any (map f xs) ≡ has_any xs
any_map f [] = refl
any_map f (x ∷ xs) = refl

module _ {P Q : Type 0} (f : P → Q) where
  -- ---- frames and threads

  pub count_map : (t : ThreadOf P) → frame_count (map_thread f t) ≡ frame_count t
  count_map t = ap (λ n. n + 1) (length-map t.below (map_frame f))

  back_map : (fs : List (FrameOf P)) (d : ℕ) (t : ThreadOf P) → back_to (map (map_frame f) fs) d (map_thread f t) ≡ mapped (map_thread f) (back_to fs d t)
  back_map [] d t = refl
  back_map (g ∷ gs) d t = if_map (mapped (map_thread f)) (nat_eq t.frame.depth d) (Ok (record t { frame = g; below = gs })) (Err BadMode)

  pub popped_map : (k : FrameKind) (d : ℕ) (t : ThreadOf P) → frame_popped k d (map_thread f t) ≡ mapped (map_thread f) (frame_popped k d t)
  popped_map k d t =
      ap (λ r. if same_kind t.frame.kind k then r else Err BadPop) (back_map t.below d t)
      ∙ if_map (mapped (map_thread f)) (same_kind t.frame.kind k) (back_to t.below d t) (Err BadPop)

  pub pushed_map : (k : FrameKind) (d : ℕ) (t : ThreadOf P) → frame_pushed k d (map_thread f t) ≡ mapped (map_thread f) (frame_pushed k d t)
  pushed_map k d t =
      let pushed : ThreadOf P = record t { frame = new_frame k t.frame.place d; below = t.frame ∷ t.below } in
      ap (λ n. if nat_lt n MAX_FRAMES then Ok (map_thread f pushed) else Err TooDeep) (count_map t)
      ∙ if_map (mapped (map_thread f)) (nat_lt (frame_count t) MAX_FRAMES) (Ok pushed) (Err TooDeep)

  pub is_last_map : (ts : ThreadsOf P) → is_last (map_threads f ts) ≡ is_last ts
  is_last_map ts = by ts.below
    where
      by : (below : List (ThreadOf P)) → is_last (map_threads f (record ts { below = below })) ≡ is_last (record ts { below = below })
      by [] = refl
      by (t ∷ below) = refl

  -- ---- freshness ends

  stale_map : (d : ℕ) (a : FrameOf P) → stale d (map_frame f a) ≡ map_frame f (stale d a)
  stale_map d a = if_map (map_frame f) (nat_eq a.depth d) (record a { fresh = false }) a

  run_map : (d : ℕ) (fs : List (FrameOf P)) → stale_run d (map (map_frame f) fs) ≡ map (map_frame f) (stale_run d fs)
  run_map d [] = refl
  run_map d (a ∷ fs) =
      ap (λ gs. if is_function a.kind then gs else map_frame f a ∷ map (map_frame f) fs) (ap (λ g. g ∷ stale_run d (map (map_frame f) fs)) (stale_map d a) ∙ ap (λ gs. map_frame f (stale d a) ∷ gs) (run_map d fs))
      ∙ if_map (map (map_frame f)) (is_function a.kind) (stale d a ∷ stale_run d fs) (a ∷ fs)

  pub staled_map : (d : ℕ) (ts : ThreadsOf P) → on_top (staled d) (map_threads f ts) ≡ map_threads f (on_top (staled d) ts)
  staled_map d ts =
      let with_top : FrameOf Q → List (FrameOf Q) → ThreadsOf Q = λ g gs. record (map_threads f ts) { thread = record (map_thread f ts.thread) { frame = g; below = gs } } in
      ap (λ g. with_top g (stale_run d (map (map_frame f) ts.thread.below))) (stale_map d ts.thread.frame) ∙ ap (with_top (map_frame f (stale d ts.thread.frame))) (run_map d ts.thread.below)

  -- ---- numbers of Enters are cleared

  thread_map : (t : ThreadOf P) → unnumbered_thread (map_thread f t) ≡ map_thread f (unnumbered_thread t)
  thread_map t = ap (λ gs. record (unnumbered_thread (map_thread f t)) { below = gs }) (twice unnumbered_frame (map_frame f) (map_frame f) unnumbered_frame (λ a. refl) t.below)

  pub unnumbered_map : (ts : ThreadsOf P) → unnumbered_threads (map_threads f ts) ≡ map_threads f (unnumbered_threads ts)
  unnumbered_map ts =
      ap (λ t. record { thread = t; below = map unnumbered_thread (map (map_thread f) ts.below) }) (thread_map ts.thread)
      ∙ ap (λ us. record { thread = map_thread f (unnumbered_thread ts.thread); below = us }) (twice unnumbered_thread (map_thread f) (map_thread f) unnumbered_thread thread_map ts.below)

  pub choices_unnumbered_map : (cs : List (ChoiceOf P)) → map unnumbered_choice (map (map_choice f) cs) ≡ map (map_choice f) (map unnumbered_choice cs)
  choices_unnumbered_map cs = twice unnumbered_choice (map_choice f) (map_choice f) unnumbered_choice (λ c. ap (λ t. record (map_choice f c) { thread = t }) (thread_map c.thread)) cs

  -- ---- temporaries

  numbered_map : (n : ℕ) (fs : List (FrameOf P)) → frame_numbered n (map (map_frame f) fs) ≡ option_map (map_frame f) (frame_numbered n fs)
  numbered_map n [] = refl
  numbered_map n (g ∷ gs) =
      ap (λ m. if nat_eq n (m + 1) then Some (map_frame f g) else frame_numbered n (map (map_frame f) gs)) (length-map gs (map_frame f))
      ∙ (ap (λ o. if nat_eq n (length gs + 1) then Some (map_frame f g) else o) (numbered_map n gs)
      ∙ if_map (option_map (map_frame f)) (nat_eq n (length gs + 1)) (Some g) (frame_numbered n gs))

  temp_map : (n : ℕ) (name : List ℕ) (t : ThreadOf P) → temp_in n name (map_thread f t) ≡ temp_in n name t
  temp_map n name t = ap (λ o. option_and_then (λ h. row name_order name h.temps) o) (numbered_map n (t.frame ∷ t.below)) ∙ by (frame_numbered n (t.frame ∷ t.below))
    where
      by : (o : Option (FrameOf P)) → option_and_then (λ h. row name_order name h.temps) (option_map (map_frame f) o) ≡ option_and_then (λ h. row name_order name h.temps) o
      by None = refl
      by (Some g) = refl

  module _ (name : List ℕ) (v : Value) where
    changed_map : (n : ℕ) (fs : List (FrameOf P)) → changed (with_row_in name v) n (map (map_frame f) fs) ≡ map (map_frame f) (changed (with_row_in name v) n fs)
    changed_map n [] = refl
    changed_map n (g ∷ gs) =
        ap (λ m. if nat_eq n (m + 1) then with_row_in name v (map_frame f g) ∷ map (map_frame f) gs else map_frame f g ∷ changed (with_row_in name v) n (map (map_frame f) gs)) (length-map gs (map_frame f))
        ∙ (ap (λ hs. if nat_eq n (length gs + 1) then with_row_in name v (map_frame f g) ∷ map (map_frame f) gs else map_frame f g ∷ hs) (changed_map n gs)
        ∙ if_map (map (map_frame f)) (nat_eq n (length gs + 1)) (with_row_in name v g ∷ gs) (g ∷ changed (with_row_in name v) n gs))

    with_temp_map : (n : ℕ) (t : ThreadOf P) → with_temp n name v (map_thread f t) ≡ map_thread f (with_temp n name v t)
    with_temp_map n t =
        let on_top_frame : ThreadOf Q = record (map_thread f t) { frame = with_row_in name v (map_frame f t.frame) } in
        ap (λ m. if nat_eq n m then on_top_frame else record (map_thread f t) { below = changed (with_row_in name v) n (map (map_frame f) t.below) }) (count_map t)
        ∙ (ap (λ gs. if nat_eq n (frame_count t) then on_top_frame else record (map_thread f t) { below = gs }) (changed_map n t.below)
        ∙ if_map (map_thread f) (nat_eq n (frame_count t)) (record t { frame = with_row_in name v t.frame }) (record t { below = changed (with_row_in name v) n t.below }))

    own_map : (t : ThreadOf P) → with_temp (frame_count (map_thread f t)) name v (map_thread f t) ≡ map_thread f (with_temp (frame_count t) name v t)
    own_map t = ap (λ n. with_temp n name v (map_thread f t)) (count_map t) ∙ with_temp_map (frame_count t) t

  -- ---- variables

  module _ (globals : Values) (t : ThreadOf P) where
    held_map : (i : ℤ) (m : List ℕ) → held globals (map_thread f t) i m ≡ held globals t i m
    held_map (pos zero) m = refl
    held_map (pos (suc n)) m = temp_map (suc n) m t
    held_map (negsuc n) m = refl

    stands_map : (i : ℤ) (m : List ℕ) → stands globals (map_thread f t) i m ≡ stands globals t i m
    stands_map (pos zero) m = refl
    stands_map (pos (suc n)) m = ap (nat_lt n) (count_map t)
    stands_map (negsuc n) m = refl

    last_pointer_map : (n : ℕ) (i : ℤ) (m : List ℕ) → last_pointer globals (map_thread f t) n i m ≡ last_pointer globals t n i m
    last_pointer_map zero i m = refl
    last_pointer_map (suc n) i m =
        ap (λ h. on_pointer h (last_pointer globals (map_thread f t) n) (Some (i, m))) (held_map i m)
        ∙ pointer_map (λ o. o) (held globals t i m) (last_pointer globals t n) (last_pointer globals (map_thread f t) n) (Some (i, m)) (last_pointer_map n)

    chain_map : (i : ℤ) (m : List ℕ) → chain_end globals (map_thread f t) i m ≡ chain_end globals t i m
    chain_map i m = ap (λ n. last_pointer globals (map_thread f t) (n + 1) i m) (count_map t) ∙ last_pointer_map (frame_count t + 1) i m

    value_at_map : (o : Option (ℤ × List ℕ)) → value_at globals (map_thread f t) o ≡ value_at globals t o
    value_at_map None = refl
    value_at_map (Some p) =
        ap (λ b. if b then Ok (unwrap_or (held globals (map_thread f t) p.0 p.1) (value.Int (pos 0))) else Err BadPointer) (stands_map p.0 p.1)
        ∙ ap (λ h. if stands globals t p.0 p.1 then Ok (unwrap_or h (value.Int (pos 0))) else Err BadPointer) (held_map p.0 p.1)

    pub read_map : (name : List ℕ) → read globals (map_thread f t) name ≡ read globals t name
    read_map name = pointer_map (λ r. r) (named globals t name) (λ i m. value_at globals t (chain_end globals t i m)) (λ i m. value_at globals (map_thread f t) (chain_end globals (map_thread f t) i m))
        (Ok (unwrap_or (named globals t name) (value.Int (pos 0)))) (λ i m. ap (value_at globals (map_thread f t)) (chain_map i m) ∙ value_at_map (chain_end globals t i m))

    -- the globals, and the thread at other places
    abbrev beside : Values × ThreadOf P → Values × ThreadOf Q
    beside w = (w.0, map_thread f w.1)

    abbrev pub left_as : Result (Values × ThreadOf P) Fault → Result (Values × ThreadOf Q) Fault
    left_as r = mapped beside r

    with_held_map : (i : ℤ) (m : List ℕ) (v : Value) → Ok (with_held globals (map_thread f t) i m v) ≡ left_as (Ok (with_held globals t i m v))
    with_held_map (pos zero) m v = refl
    with_held_map (pos (suc n)) m v = ap (λ u. Ok (globals, u)) (with_temp_map m v (suc n) t)
    with_held_map (negsuc n) m v = refl

    assign_at_map : (v : Value) (o : Option (ℤ × List ℕ)) → assign_at globals (map_thread f t) v o ≡ left_as (assign_at globals t v o)
    assign_at_map v None = refl
    assign_at_map v (Some p) =
        let there = stands globals t p.0 p.1 in
        let has = is_some (held globals t p.0 p.1) in
        let so : Result (Values × ThreadOf P) Fault = Ok (with_held globals t p.0 p.1 v) in
        ap (λ b. if b then (if is_some (held globals (map_thread f t) p.0 p.1) then Ok (with_held globals (map_thread f t) p.0 p.1 v) else Err NoTemp) else Err BadPointer) (stands_map p.0 p.1)
        ∙ (ap (λ h. if there then (if is_some h then Ok (with_held globals (map_thread f t) p.0 p.1 v) else Err NoTemp) else Err BadPointer) (held_map p.0 p.1)
        ∙ (ap (λ r. if there then (if has then r else Err NoTemp) else Err BadPointer) (with_held_map p.0 p.1 v)
        ∙ (ap (λ r. if there then r else Err BadPointer) (if_map left_as has so (Err NoTemp)) ∙ if_map left_as there (if has then so else Err NoTemp) (Err BadPointer))))

    with_named_map : (name : List ℕ) (v : Value) → Ok (with_named globals (map_thread f t) name v) ≡ left_as (Ok (with_named globals t name v))
    with_named_map name v =
        ap (λ u. Ok (if is_some (stored name globals) then (store name v globals, map_thread f t) else (globals, u))) (own_map name v t)
        ∙ ap Ok (if_map beside (is_some (stored name globals)) (store name v globals, t) (globals, with_temp (frame_count t) name v t))

    pub assign_map : (name : List ℕ) (v : Value) → assign globals (map_thread f t) name v ≡ left_as (assign globals t name v)
    assign_map name v =
        let to : Option Value = named globals t name in
        let so : Result (Values × ThreadOf P) Fault = if is_some to then Ok (with_named globals t name v) else Err NoTemp in
        ap (λ r. on_pointer to (λ i m. assign_at globals (map_thread f t) v (chain_end globals (map_thread f t) i m)) (if is_some to then r else Err NoTemp)) (with_named_map name v)
        ∙ (ap (on_pointer to (λ i m. assign_at globals (map_thread f t) v (chain_end globals (map_thread f t) i m))) (if_map left_as (is_some to) (Ok (with_named globals t name v)) (Err NoTemp))
        ∙ pointer_map left_as to (λ i m. assign_at globals t v (chain_end globals t i m)) (λ i m. assign_at globals (map_thread f t) v (chain_end globals (map_thread f t) i m)) so
        (λ i m. ap (assign_at globals (map_thread f t) v) (chain_map i m) ∙ assign_at_map v (chain_end globals t i m)))

    kept_map : (v : Value) → kept globals (map_thread f t) v ≡ kept globals t v
    kept_map v = pointer_map (λ r. r) (Some v) (λ i m. kept_pointer (chain_end globals t i m)) (λ i m. kept_pointer (chain_end globals (map_thread f t) i m)) (Ok v) (λ i m. ap kept_pointer (chain_map i m))

    declared_map : (scope : Scope) (name : List ℕ) (r : Result Value Fault) → declared globals (map_thread f t) scope name r ≡ left_as (declared globals t scope name r)
    declared_map Global name (Ok v) = refl
    declared_map Temporary name (Ok v) = ap (λ u. Ok (globals, u)) (own_map name v t)
    declared_map scope name (Err g) = refl

    pub declare_map : (scope : Scope) (name : List ℕ) (v : Value) → declare globals (map_thread f t) scope name v ≡ left_as (declare globals t scope name v)
    declare_map scope name v = ap (declared globals (map_thread f t) scope name) (kept_map v) ∙ declared_map scope name (kept globals t v)

    pub setting_asks_map : (scope : Scope) (name : List ℕ) → setting_asks globals (map_thread f t) scope name ≡ setting_asks globals t scope name
    setting_asks_map Global name = refl
    setting_asks_map Temporary name = refl

  -- ---- choices

  -- what a choice point makes, at other places
  abbrev pub made_at : Result (Option (ChoiceOf P) × List Value) Fault → Result (Option (ChoiceOf Q) × List Value) Fault
  made_at r = mapped (λ m. (option_map (map_choice f) m.0, m.1)) r

  -- choices at other places, or a fault
  abbrev pub offered_at : Result (List (ChoiceOf P)) Fault → Result (List (ChoiceOf Q)) Fault
  offered_at r = mapped (map (map_choice f)) r

  pub make_map : (flags : ℕ) (target : P) (visited : Bool) (t : ThreadOf P) (vs : List Value) → make flags (f target) visited (map_thread f t) vs ≡ made_at (make flags target visited t vs)
  make_map flags target visited t vs = then_map (λ m. (option_map (map_choice f) m.0, m.1)) (operands flags (reverse vs)) (choice_of flags target visited t) (choice_of flags (f target) visited (map_thread f t)) of
    where
      of : (o : Operands) → choice_of flags (f target) visited (map_thread f t) o ≡ made_at (choice_of flags target visited t o)
      of o =
          let offered = is_offered flags visited o.condition in
          let fits = fits_text (choice_text o) in
          let one : Result (Option (ChoiceOf P) × List Value) Fault = Ok (Some (choice flags target t o), reverse o.left) in
          let none : Result (Option (ChoiceOf P) × List Value) Fault = Ok (None, reverse o.left) in
          ap (λ r. if offered then r else made_at none) (if_map made_at fits one (Err TooDeep)) ∙ if_map made_at offered (if fits then one else Err TooDeep) none

  pub added_map : (c : ChoiceOf P) (cs : List (ChoiceOf P)) → added (map_choice f c) (map (map_choice f) cs) ≡ offered_at (added c cs)
  added_map c cs =
      ap (λ n. if nat_lt n MAX_CHOICES then Ok (map (map_choice f) cs ++ map_choice f c ∷ []) else Err TooDeep) (length-map cs (map_choice f))
      ∙ (ap (λ ds. if nat_lt (length cs) MAX_CHOICES then Ok ds else Err TooDeep) (sym (map-append (map_choice f) cs (c ∷ [])))
      ∙ if_map offered_at (nat_lt (length cs) MAX_CHOICES) (Ok (cs ++ c ∷ [])) (Err TooDeep))

  pub choice_asks_map : (c : ChoiceOf P) → choice_asks (map_choice f c) ≡ choice_asks c
  choice_asks_map c = ap (λ b. has_any c.text || (has_any c.tags || (has_any c.thread.frame.temps || b))) (any_map (map_frame f) c.thread.below)

  visible_map : (cs : List (ChoiceOf P)) → visible (map (map_choice f) cs) ≡ map (map_choice f) (visible cs)
  visible_map [] = refl
  visible_map (c ∷ cs) =
      ap (λ xs. if c.hidden then xs else map_choice f c ∷ xs) (visible_map cs) ∙ if_map (map (map_choice f)) c.hidden (visible cs) (c ∷ visible cs)

  pub nth_visible_map : (cs : List (ChoiceOf P)) (n : ℕ) → slice_get (visible (map (map_choice f) cs)) n ≡ option_map (map_choice f) (slice_get (visible cs) n)
  nth_visible_map cs n = ap (λ xs. slice_get xs n) (visible_map cs) ∙ nth_map (map_choice f) (visible cs) n

  pub shown_map : (cs : List (ChoiceOf P)) → shown (map (map_choice f) cs) ≡ shown cs
  shown_map cs = ap (map shown_choice) (visible_map cs) ∙ same (visible cs)
    where
      same : (cs : List (ChoiceOf P)) → map shown_choice (map (map_choice f) cs) ≡ map shown_choice cs
      same [] = refl
      same (c ∷ cs) = ap (λ xs. shown_choice c ∷ xs) (same cs)

  pub none_visible_map : (cs : List (ChoiceOf P)) → none_visible (map (map_choice f) cs) ≡ none_visible cs
  none_visible_map [] = refl
  none_visible_map (c ∷ cs) = ap (λ b. c.hidden && b) (none_visible_map cs)

  pub only_invisible_map : (cs : List (ChoiceOf P)) → only_invisible (map (map_choice f) cs) ≡ only_invisible cs
  only_invisible_map [] = refl
  only_invisible_map (c ∷ cs) = none_visible_map (c ∷ cs)

  pub first_map : (cs : List (ChoiceOf P)) → slice_get (map (map_choice f) cs) 0 ≡ option_map (map_choice f) (slice_get cs 0)
  first_map cs = nth_map (map_choice f) cs 0

-- ---- rows by place

-- Rows under other keys, which stand in the same order.
module _ {K L : Type 0} (compare : K → K → Ordering) (compare_to : L → L → Ordering) (f : K → L) where
  -- a key stands to those of rows as it does under its other name
  abbrev pub KeepsPlace : {V : Type 0} → K → List (K × V) → Type 0
  KeepsPlace k [] = Unit {0}
  KeepsPlace k (r ∷ rs) = (compare_to (f k) (f r.0) ≡ compare k r.0) × KeepsPlace k rs

  pub row_map : {V : Type 0} (k : K) (rows : List (K × V)) → KeepsPlace k rows → row compare_to (f k) (map_keys f rows) ≡ row compare k rows
  row_map k [] h = refl
  row_map k (r ∷ rs) h =
      ap (λ o. match_ordering o None (Some r.1) (row compare_to (f k) (map_keys f rs))) h.0
      ∙ ap (λ rest. match_ordering (compare k r.0) None (Some r.1) rest) (row_map k rs h.1)

  pub with_row_map : {V : Type 0} (k : K) (v : V) (rows : List (K × V)) → KeepsPlace k rows
      → with_row compare_to (f k) v (map_keys f rows) ≡ map_keys f (with_row compare k v rows)
  with_row_map k v [] h = refl
  with_row_map k v (r ∷ rs) h =
      ap (λ o. match_ordering o ((f k, v) ∷ (f r.0, r.1) ∷ map_keys f rs) ((f k, v) ∷ map_keys f rs) ((f r.0, r.1) ∷ with_row compare_to (f k) v (map_keys f rs))) h.0
      ∙ (ap (λ rest. match_ordering (compare k r.0) ((f k, v) ∷ (f r.0, r.1) ∷ map_keys f rs) ((f k, v) ∷ map_keys f rs) ((f r.0, r.1) ∷ rest)) (with_row_map k v rs h.1)
      ∙ order_map (map_keys f) (compare k r.0) ((k, v) ∷ r ∷ rs) ((k, v) ∷ rs) (r ∷ with_row compare k v rs))
