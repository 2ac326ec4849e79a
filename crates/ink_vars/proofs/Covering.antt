-- Globals that are put back were noted, so that what they were at the moment stays known.
use Rattle.std.proofs.Common.{◌≡◌, ◌≢◌, ◌∙◌, ◌⊎◌, ◌≤◌, ◌<◌, ◌+◌, ◌-◌, ℕ, zero, suc, Bool, true, false, bytes_eq, eqb, if◌then◌else◌, List, [], ◌∷◌, ◌++◌, Option, Some, None, ap, arith, inl, inr, is_some, length, refl, subst, sym}
use Rattle.ink_vars.proofs.Common.{cases_Bool, cases_lt, eq-eqb, eqb-true, option_or, set_value_at, Values, stored, Value, DifferInName, Before}
use Rattle.ink_trail.specs.Undo.{Undo, but_last, trail_of, with_pair}
use Rattle.ink_vars.specs.Changes.{AreNew, NotesFit, as_it_was, as_they_were, noted_at, global_index, with_noted}
use Rattle.ink_vars.specs.Undo.{Covers, NewAt, global_back}
use Rattle.ink_vars.specs.Views.{ChangesView}
use Rattle.ink_vars.specs.declared.undo.GlobalPair.{GlobalPair}
use Rattle.ink_vars.specs.declared.undo.GlobalPair.TheVariants.{Added, Changed}
use Rattle.ink_vars.proofs.Marking.{noted_more}

-- ---- what the globals were at the moment

over : (o : Option (Option Value)) (name : List ℕ) (v w : Value) (rest : Values) → is_some o ≡ true → as_it_was o (name, v) rest ≡ as_it_was o (name, w) rest
over None name v w rest h = absurd (cc)
over (Some None) name v w rest h = refl
over (Some (Some u)) name v w rest h = refl

were_changed : (bs : List Before) (n i : ℕ) (v : Value) (es : Values) → is_some (noted_at (n + i) bs) ≡ true → as_they_were bs n (set_value_at es i v) ≡ as_they_were bs n es
were_changed bs n i v [] h = refl
were_changed bs n zero v (e ∷ es) h = over (noted_at n bs) e.0 v e.1 (as_they_were bs (suc n) es) (ap (λ k. is_some (noted_at k bs)) (omega arith) ∙ h)
were_changed bs n (suc i) v (e ∷ es) h = ap (as_it_was (noted_at n bs) e) (were_changed bs (suc n) i v es (ap (λ k. is_some (noted_at k bs)) (omega arith) ∙ h))

were_added : (bs : List Before) (n : ℕ) (es : Values) → noted_at (n + (length es - 1)) bs ≡ Some None → as_they_were bs n (but_last es) ≡ as_they_were bs n es
were_added bs n [] h = refl
were_added bs n (e ∷ []) h = sym (ap (λ o. as_it_was o e []) (ap (λ k. noted_at k bs) (omega arith) ∙ h))
were_added bs n (e ∷ f ∷ es) h = ap (as_it_was (noted_at n bs) e) (were_added bs (suc n) (f ∷ es) (ap (λ k. noted_at k bs) (omega arith) ∙ h))

-- ---- names that differ

absent_changed : (name : List ℕ) (i : ℕ) (v : Value) (es : Values) → stored name es ≡ None → stored name (set_value_at es i v) ≡ None
absent_changed name i v [] h = refl
absent_changed name zero v (e ∷ es) h = by (bytes_eq name e.0) h
  where
    by : (b : Bool) → (if b then Some e.1 else stored name es) ≡ None → (if b then Some v else stored name es) ≡ None
    by true k = absurd (cc)
    by false k = k
absent_changed name (suc i) v (e ∷ es) h = by (bytes_eq name e.0) h (absent_changed name i v es)
  where
    by : (b : Bool) → (if b then Some e.1 else stored name es) ≡ None → (stored name es ≡ None → stored name (set_value_at es i v) ≡ None)
        → (if b then Some e.1 else stored name (set_value_at es i v)) ≡ None
    by true k on = absurd (cc)
    by false k on = on k

differ_changed : (i : ℕ) (v : Value) (es : Values) → DifferInName es → DifferInName (set_value_at es i v)
differ_changed i v [] h = tt
differ_changed zero v (e ∷ es) h = h
differ_changed (suc i) v (e ∷ es) h = (absent_changed e.0 i v es h.0, differ_changed i v es h.1)

absent_fewer : (name : List ℕ) (es : Values) → stored name es ≡ None → stored name (but_last es) ≡ None
absent_fewer name [] h = refl
absent_fewer name (e ∷ []) h = refl
absent_fewer name (e ∷ f ∷ es) h = by (bytes_eq name e.0) h (absent_fewer name (f ∷ es))
  where
    by : (b : Bool) → (if b then Some e.1 else stored name (f ∷ es)) ≡ None → (stored name (f ∷ es) ≡ None → stored name (but_last (f ∷ es)) ≡ None)
        → (if b then Some e.1 else stored name (but_last (f ∷ es))) ≡ None
    by true k on = absurd (cc)
    by false k on = on k

differ_fewer : (es : Values) → DifferInName es → DifferInName (but_last es)
differ_fewer [] h = tt
differ_fewer (e ∷ []) h = tt
differ_fewer (e ∷ f ∷ es) h = (absent_fewer e.0 (f ∷ es) h.0, differ_fewer (f ∷ es) h.1)

-- ---- what is new

pub new_here : (n : ℕ) (bs : List Before) → AreNew n bs → NewAt n bs
new_here n [] h = tt
new_here n (b ∷ bs) h = (λ is. h.0 (omega (arith, is)), new_here n bs h.1)

new_fewer : (n : ℕ) (bs : List Before) → AreNew n bs → NewAt (n - 1) bs → AreNew (n - 1) bs
new_fewer n [] h k = tt
new_fewer n (b ∷ bs) h k = (λ le. by (cases_lt b.index n) le, new_fewer n bs h.1 k.1)
  where
    by : (b.index < n) ⊎ (n ≤ b.index) → n - 1 ≤ b.index → b.value ≡ None
    by (inl lt) le = k.0 (omega (arith, lt, le))
    by (inr ge) le = h.0 ge

new_noted : (i : ℕ) (bs : List Before) → NewAt i bs → is_some (noted_at i bs) ≡ true → noted_at i bs ≡ Some None
new_noted i [] k h = absurd (cc)
new_noted i (b ∷ bs) k h = by (cases_Bool (eqb i b.index)) (new_noted i bs k.1)
  where
    by : (eqb i b.index ≡ true) ⊎ (eqb i b.index ≡ false) → (is_some (noted_at i bs) ≡ true → noted_at i bs ≡ Some None) → noted_at i (b ∷ bs) ≡ Some None
    by (inl t) on = ap (λ x. if x then Some b.value else noted_at i bs) t ∙ ap Some (k.0 (eqb-true i b.index t))
    by (inr t) on =
        let rest : noted_at i (b ∷ bs) ≡ noted_at i bs = ap (λ x. if x then Some b.value else noted_at i bs) t in
        rest ∙ on (sym (ap is_some rest) ∙ h)

-- ---- one pair is put back

fewer_length : {A : Type 0} → (es : List A) → length (but_last es) ≡ length es - 1
fewer_length [] = refl
fewer_length (e ∷ []) = refl
fewer_length (e ∷ f ∷ es) = omega (arith, fewer_length (f ∷ es))

pub changed_length : (i : ℕ) (v : Value) (es : Values) → length (set_value_at es i v) ≡ length es
changed_length i v [] = refl
changed_length zero v (e ∷ es) = refl
changed_length (suc i) v (e ∷ es) = ap suc (changed_length i v es)

pub fits_back : (c : ChangesView) (e : GlobalPair) (es : List GlobalPair) (now : Values) → NotesFit c now → Covers c.noted (length now) (e ∷ es) → NotesFit c (global_back e now)
fits_back c Added es now fits covers = record {
  differ = differ_fewer now fits.differ;
  new = subst (λ n. AreNew n c.noted) (sym (fewer_length now)) (new_fewer (length now) c.noted fits.new covers.0);
  slots = omega (arith, fits.slots, fewer_length now);
}
fits_back c (Changed i v) es now fits covers = record {
  differ = differ_changed i v now fits.differ;
  new = subst (λ n. AreNew n c.noted) (sym (changed_length i v now)) fits.new;
  slots = omega (arith, fits.slots, changed_length i v now);
}

pub covers_back : (bs : List Before) (e : GlobalPair) (es : List GlobalPair) (now : Values) → Covers bs (length now) (e ∷ es) → Covers bs (length (global_back e now)) es
covers_back bs Added es now covers = subst (λ n. Covers bs n es) (sym (fewer_length now)) covers.2
covers_back bs (Changed i v) es now covers = subst (λ n. Covers bs n es) (sym (changed_length i v now)) covers.1

pub were_back : (bs : List Before) (e : GlobalPair) (es : List GlobalPair) (now : Values) → Covers bs (length now) (e ∷ es) → as_they_were bs 0 (global_back e now) ≡ as_they_were bs 0 now
were_back bs Added es now covers = were_added bs 0 now (ap (λ k. noted_at k bs) (omega arith) ∙ new_noted (length now - 1) bs covers.0 covers.1)
were_back bs (Changed i v) es now covers = were_changed bs 0 i v now (ap (λ k. is_some (noted_at k bs)) (omega arith) ∙ covers.0)

-- ---- more is noted

stays_noted : (i : ℕ) (bs : List Before) (b : Before) → is_some (noted_at i bs) ≡ true → is_some (noted_at i (bs ++ b ∷ [])) ≡ true
stays_noted i bs b h = ap is_some (noted_more i bs b) ∙ either (noted_at i bs) (if eqb i b.index then Some b.value else None) h
  where
    either : (o p : Option (Option Value)) → is_some o ≡ true → is_some (option_or o p) ≡ true
    either None p k = absurd (cc)
    either (Some w) p k = refl

new_appended : (i : ℕ) (bs : List Before) (b : Before) → NewAt i bs → i ≢ b.index → NewAt i (bs ++ b ∷ [])
new_appended i [] b h other = (λ is. absurd (other is), tt)
new_appended i (c ∷ bs) b h other = (h.0, new_appended i bs b h.1 other)

covers_more : (bs : List Before) (b : Before) (n : ℕ) (es : List GlobalPair) → noted_at b.index bs ≡ None → Covers bs n es → Covers (bs ++ b ∷ []) n es
covers_more bs b n [] none h = tt
covers_more bs b n (Added ∷ es) none h =
    (new_appended (n - 1) bs b h.0 other, stays_noted (n - 1) bs b h.1, covers_more bs b (n - 1) es none h.2)
  where
    other : n - 1 ≢ b.index
    other is =
        let some : is_some (noted_at b.index bs) ≡ true = ap (λ k. is_some (noted_at k bs)) (sym is) ∙ h.1 in
        let not : is_some (noted_at b.index bs) ≡ false = ap is_some none in
        absurd (cc)
covers_more bs b n (Changed i v ∷ es) none h = (stays_noted i bs b h.0, covers_more bs b n es none h.1)

pub covers_noted : (name : List ℕ) (now : Values) (bs : List Before) (n : ℕ) (es : List GlobalPair) → Covers bs n es → Covers (with_noted name now bs) n es
covers_noted name now bs n es h = by (noted_at (global_index name now) bs) refl
  where
    by : (o : Option (Option Value)) → noted_at (global_index name now) bs ≡ o
        → Covers (if is_some o then bs else bs ++ record { index = global_index name now; value = stored name now } ∷ []) n es
    by None none = covers_more bs (record { index = global_index name now; value = stored name now }) n es none h
    by (Some w) some = h

-- a name is noted then
pub is_noted : (name : List ℕ) (now : Values) (bs : List Before) → is_some (noted_at (global_index name now) (with_noted name now bs)) ≡ true
is_noted name now bs = by (noted_at (global_index name now) bs) refl
  where
    by : (o : Option (Option Value)) → noted_at (global_index name now) bs ≡ o
        → is_some (noted_at (global_index name now) (if is_some o then bs else bs ++ record { index = global_index name now; value = stored name now } ∷ [])) ≡ true
    by None none =
        ap is_some (noted_more (global_index name now) bs (record { index = global_index name now; value = stored name now })
        ∙ ap (λ o. option_or o (if eqb (global_index name now) (global_index name now) then Some (stored name now) else None)) none
        ∙ ap (λ t. if t then Some (stored name now) else None) (eq-eqb (global_index name now) (global_index name now) refl))
    by (Some w) some = ap is_some some

-- ---- a pair more

pub covers_changed : (bs : List Before) (n i : ℕ) (v : Value) (u : Option (Undo GlobalPair)) → is_some (noted_at i bs) ≡ true → Covers bs n (trail_of u)
    → Covers bs n (trail_of (with_pair (Changed i v) 1 u))
covers_changed bs n i v None some h = tt
covers_changed bs n i v (Some u) some h = (some, h)

pub covers_added : (bs : List Before) (n : ℕ) (u : Option (Undo GlobalPair)) → NewAt n bs → is_some (noted_at n bs) ≡ true → Covers bs n (trail_of u)
    → Covers bs (suc n) (trail_of (with_pair Added 1 u))
covers_added bs n None new some h = tt
covers_added bs n (Some u) new some h =
    let is : suc n - 1 ≡ n = omega arith in
    rw is (new, some, h)

pub covers_unmarked : (bs : List Before) (n : ℕ) (u : Option (Undo GlobalPair)) → is_some u ≡ false → Covers bs n (trail_of u)
covers_unmarked bs n None h = tt
covers_unmarked bs n (Some u) h = absurd (cc)
