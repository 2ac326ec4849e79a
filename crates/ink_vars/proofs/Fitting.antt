-- Notes that fit the globals, also after one is stored.
use Rattle.std.proofs.Common.{◌≡◌, ◌∙◌, ◌+◌, ◌<◌, ◌≤◌, ◌⊎◌, ℕ, suc, Bool, true, false, bytes_eq, if◌then◌else◌, List, [], ◌∷◌, Option, Some, None, Result, Ok, Err, OnErr, OnOk, ap, arith, inl, inr, is_ok, is_some, length, refl, subst, sym}
use Rattle.ink_vars.proofs.Common.{bytes_eq-Decides, Values, stored, store, Value, DifferInName, Before}
use Rattle.ink_vars.specs.Changes.{AreNew, NotesFit, Tracks, as_it_was, as_they_were, noted_at, global_index}
use Rattle.ink_vars.specs.Views.{ChangesView}
use Rattle.ink_vars.proofs.Changing.{absent_then}
use Rattle.ink_vars.proofs.Naming.{other_way}
use Rattle.ink_vars.proofs.Noting.{either_way, none_noted, none_of}
use Rattle.ink_vars.proofs.Numbers.{stored_within, there_within}

-- ---- names that differ

-- another name is as it was
stored_other : (other name : List ℕ) (v : Value) (es : Values) → bytes_eq other name ≡ false → stored other (store name v es) ≡ stored other es
stored_other other name v [] h = ap (λ b. if b then Some v else None) h
stored_other other name v (e ∷ es) h = by (bytes_eq name e.0) refl (stored_other other name v es h)
  where
    by : (b : Bool) → bytes_eq name e.0 ≡ b → stored other (store name v es) ≡ stored other es → stored other (if b then (e.0, v) ∷ es else e ∷ store name v es) ≡ stored other (e ∷ es)
    by true is on =
        let differs : bytes_eq other e.0 ≡ false = ap (bytes_eq other) (sym ((bytes_eq-Decides name e.0).0 is)) ∙ h in
        ap (λ b. if b then Some v else stored other es) differs ∙ sym (ap (λ b. if b then Some e.1 else stored other es) differs)
    by false is on = ap (λ found. if bytes_eq other e.0 then Some e.1 else found) on

pub differ_stored : (name : List ℕ) (v : Value) (es : Values) → DifferInName es → DifferInName (store name v es)
differ_stored name v [] h = (refl, tt)
differ_stored name v (e ∷ es) h = by (bytes_eq name e.0) refl (differ_stored name v es h.1)
  where
    by : (b : Bool) → bytes_eq name e.0 ≡ b → DifferInName (store name v es) → DifferInName (if b then (e.0, v) ∷ es else e ∷ store name v es)
    by true is on = h
    by false is on = (stored_other e.0 name v es (other_way name e.0 is) ∙ h.0, on)

-- ---- nothing was noted

pub fits_none : (changes : ChangesView) (now : Values) → changes.noted ≡ [] → DifferInName now → length now ≤ changes.slots → NotesFit changes now
fits_none changes now none differ slots = record { differ = differ; new = subst (AreNew (length now)) (sym none) tt; slots = slots }

-- nothing more was noted, and there are no fewer slots
pub fits_same : (old new : ChangesView) (now : Values) → new.noted ≡ old.noted → old.slots ≤ new.slots → NotesFit old now → NotesFit new now
fits_same old new now same more fits = record { differ = fits.differ; new = subst (AreNew (length now)) (sym same) fits.new; slots = omega (arith, fits.slots, more) }

pub was_none : (noted : List Before) (now : Values) → noted ≡ [] → as_they_were noted 0 now ≡ now
was_none noted now none = ap (λ bs. as_they_were bs 0 now) none ∙ (none_noted now).were

-- ---- a global was put

pub tracked : (changes : ChangesView) (now : Values) → NotesFit changes now → Tracks (as_they_were changes.noted 0 now) changes.noted now
tracked changes now fits = record { were = refl; new = fits.new }

pub fits_put : {A E : Type 0} (r : Result A E) (name : List ℕ) (v : Value) (old now start : Values) (changes : ChangesView) → DifferInName old → Tracks start changes.noted now
    → OnOk r (now ≡ store name v old) → OnErr r (now ≡ old) → length now ≤ changes.slots → NotesFit changes now
fits_put r name v old now start changes differ tracks ok err slots = record {
  differ = either_way r ok err (λ is. subst DifferInName (sym is) (differ_stored name v old differ)) (λ is. subst DifferInName (sym is) differ);
  new = tracks.new;
  slots = slots;
}

-- a global that is there was put
pub no_longer : {A E : Type 0} (r : Result A E) (name : List ℕ) (v : Value) (old now : Values) (n : ℕ) → is_ok r ≡ is_some (stored name old) → OnOk r (now ≡ store name v old) → OnErr r (now ≡ old)
    → length old ≤ n → length now ≤ n
no_longer (Ok a) name v old now n found ok err h =
    let there : global_index name old < n = omega (arith, h, there_within name old (sym found)) in
    subst (λ es. length es ≤ n) (sym ok) (stored_within name v old n h there)
no_longer (Err e) name v old now n found ok err h = subst (λ es. length es ≤ n) (sym err) h

-- ---- what was not noted is as it was

unnoted_was : (name : List ℕ) (noted : List Before) (n : ℕ) (es : Values) → noted_at (n + global_index name es) noted ≡ None → stored name (as_they_were noted n es) ≡ stored name es
unnoted_was name noted n [] h = refl
unnoted_was name noted n (e ∷ es) h = by (bytes_eq name e.0) refl h (unnoted_was name noted (suc n) es)
  where
    past : (o : Option (Option Value)) (rest : Values) → bytes_eq name e.0 ≡ false → stored name (as_it_was o e rest) ≡ stored name rest
    past None rest is = ap (λ b. if b then Some e.1 else stored name rest) is
    past (Some None) rest is = refl
    past (Some (Some v)) rest is = ap (λ b. if b then Some v else stored name rest) is

    by : (b : Bool) → bytes_eq name e.0 ≡ b → noted_at (n + (if b then 0 else suc (global_index name es))) noted ≡ None
        → (noted_at (suc n + global_index name es) noted ≡ None → stored name (as_they_were noted (suc n) es) ≡ stored name es)
        → stored name (as_they_were noted n (e ∷ es)) ≡ (if b then Some e.1 else stored name es)
    by true is none on =
        let here : noted_at n noted ≡ None = ap (λ k. noted_at k noted) (omega arith) ∙ none in
        ap (λ o. stored name (as_it_was o e (as_they_were noted (suc n) es))) here ∙ ap (λ b. if b then Some e.1 else stored name (as_they_were noted (suc n) es)) is
    by false is none on = past (noted_at n noted) (as_they_were noted (suc n) es) is ∙ on (ap (λ k. noted_at k noted) (omega arith) ∙ none)

pub as_it_stood : (name : List ℕ) (noted : List Before) (now : Values) → (noted_at (global_index name now) noted ≡ None) ⊎ (is_some (stored name now) ≡ false)
    → stored name (as_they_were noted 0 now) ≡ stored name now
as_it_stood name noted now (inl none) = unnoted_was name noted 0 now (ap (λ k. noted_at k noted) (omega arith) ∙ none)
as_it_stood name noted now (inr absent) =
    let none : stored name now ≡ None = none_of (stored name now) absent in
    absent_then name noted 0 now none ∙ sym none
