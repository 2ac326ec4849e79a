-- Lists within their limits, and globals.
use Rattle.std.proofs.Common.{◌≡◌, ◌∙◌, sym, ap, refl, subst, ℕ, ◌+◌, ◌<◌, ◌≤◌, length, List, [], ◌∷◌, ◌++◌, drop, get_or, map, Bool, true, false, not, bytes_eq, nat_le, if◌then◌else◌, Option, Some, None, is_some, option_map}
use Rattle.ink_restore.proofs.Common.{append_assoc, append-nil, drop_all, drop_more, length-map, AllByRecursion, ChoiceOf, map_choice, StoryTree, Part, Value, Builds, place_of, Spot}
use Rattle.std.proofs.lemmas.Slice.Eq.{bytes_eq-Decides}
use Rattle.ink_model.specs.Variables.Store.{Values, store, stored}
use Rattle.ink_model.specs.declared.limits.TheConstants.{MAX_CHOICES, MAX_STACK}
use Rattle.ink_choice.specs.Choices.{ChoicesView}
use Rattle.ink_restore.proofs.Standing.{both, is_within, same_list, within}
use Rattle.ink_model.specs.Save.Sound.{ChoiceFits, ChoicesFit, GlobalsFit, RowFits, StackFits, ValueFits, names_once}
use Rattle.ink_value.specs.Stack.{Stack}
use Rattle.ink_vars.specs.Globals.{DifferInName}

other : true ≡ false → ⊥
other e = cc

-- ---- lists within their limit

module _ {A B V : Type 0} (f : A → B) (fits : B → Type 0) (max : ℕ) (Fit : List B → Type 0) (get : V → List A)
    (to : (xs : List B) → AllByRecursion fits xs → length xs ≤ max → Fit xs) (few : (xs : List B) → Fit xs → length xs ≤ max) where
  limited : (whole : List B) (items : List A) → map f items ≡ whole → AllByRecursion fits whole → (made : Option V) (e : Bool) → nat_le (length items) max ≡ e
      → option_map get made ≡ (if e then Some items else None) → Builds (λ v. map f (get v)) Fit whole made
  limited whole items is each None true e h = absurd cc
  limited whole items is each None false e h = λ k.
      other (sym (is_within (length items) max (subst (λ n. n ≤ max) (ap length (sym is) ∙ length-map items f) (few whole k))) ∙ e)
  limited whole items is each (Some v) true e h =
      let same : get v ≡ items = cc in
      (ap (map f) same ∙ is, to whole each (subst (λ n. n ≤ max) (sym (ap length (sym is) ∙ length-map items f)) (within (length items) max e)))
  limited whole items is each (Some v) false e h = absurd cc

pub stack_built : (s : StoryTree) (values items : List Value) → (map (λ x. x) items ≡ values) × AllByRecursion (ValueFits s) values → (made : Option Stack)
    → option_map (λ v. v.items) made ≡ (if nat_le (length items) MAX_STACK then Some items else None) → Builds (λ (v : Stack). v.items) (StackFits s) values made
stack_built s values items h made is =
    plain made (limited (λ x. x) (ValueFits s) MAX_STACK (StackFits s) (λ (v : Stack). v.items) (λ xs each few. record { each = each; few = few }) (λ xs k. k.few)
    values items h.0 h.1 made (nat_le (length items) MAX_STACK) refl is)
  where
    plain : (o : Option Stack) → Builds (λ (v : Stack). map (λ x. x) v.items) (StackFits s) values o → Builds (λ (v : Stack). v.items) (StackFits s) values o
    plain None k = k
    plain (Some v) k = (sym (same_list v.items) ∙ k.0, k.1)

pub choices_built : (s : StoryTree) (choices : List (ChoiceOf (List Part))) (items : List (ChoiceOf Spot)) → (map (map_choice (place_of s)) items ≡ choices) × AllByRecursion (ChoiceFits s) choices
    → (made : Option (ChoicesView Spot)) → option_map (λ v. v.items) made ≡ (if nat_le (length items) MAX_CHOICES then Some items else None)
    → Builds (λ (v : ChoicesView Spot). map (map_choice (place_of s)) v.items) (ChoicesFit s) choices made
choices_built s choices items h made is =
    limited (map_choice (place_of s)) (ChoiceFits s) MAX_CHOICES (ChoicesFit s) (λ (v : ChoicesView Spot). v.items) (λ xs each few. record { each = each; few = few }) (λ xs k. k.few)
    choices items h.0 h.1 made (nat_le (length items) MAX_CHOICES) refl is

-- ---- globals

-- of rows these were put, and those are left
pub record Collects (s : StoryTree) (whole made rest : Values) : Type 0 where
  pub joined : made ++ rest ≡ whole
  pub each : AllByRecursion (RowFits s) made

put_behind : (made : Values) (e : List ℕ × Value) → is_some (stored e.0 made) ≡ false → store e.0 e.1 made ≡ made ++ e ∷ []
put_behind [] e h = refl
put_behind (m ∷ ms) e h = by (bytes_eq e.0 m.0) h (put_behind ms e)
  where
    by : (b : Bool) → is_some (if b then Some m.1 else stored e.0 ms) ≡ false → (is_some (stored e.0 ms) ≡ false → store e.0 e.1 ms ≡ ms ++ e ∷ [])
        → (if b then (m.0, e.1) ∷ ms else m ∷ store e.0 e.1 ms) ≡ m ∷ (ms ++ e ∷ [])
    by true h so = absurd cc
    by false h so = ap (λ es. m ∷ es) (so h)

each_last : (s : StoryTree) (xs : Values) (e : List ℕ × Value) → AllByRecursion (RowFits s) xs → RowFits s e → AllByRecursion (RowFits s) (xs ++ e ∷ [])
each_last s [] e h k = (k, tt)
each_last s (x ∷ xs) e h k = (h.0, each_last s xs e h.1 k)

each_in : (s : StoryTree) (xs : Values) (e : List ℕ × Value) (ys : Values) → AllByRecursion (RowFits s) (xs ++ e ∷ ys) → RowFits s e
each_in s [] e ys h = h.0
each_in s (x ∷ xs) e ys h = each_in s xs e ys h.1

one_more : (s : StoryTree) (whole made : Values) (e : List ℕ × Value) (rest : Values) → is_some (stored e.0 made) ≡ false → RowFits s e
    → Collects s whole made (e ∷ rest) → Collects s whole (store e.0 e.1 made) rest
one_more s whole made e rest absent fits c = record {
  joined = ap (λ es. es ++ rest) (put_behind made e absent) ∙ append_assoc made (e ∷ []) rest ∙ c.joined;
  each = subst (λ es. AllByRecursion (RowFits s) es) (sym (put_behind made e absent)) (each_last s made e c.each fits);
}

pub collects_more : (s : StoryTree) (whole made : Values) (i : ℕ) (d : List ℕ × Value) → i < length whole → is_some (stored (get_or whole i d).0 made) ≡ false → RowFits s (get_or whole i d)
    → Collects s whole made (drop i whole) → Collects s whole (store (get_or whole i d).0 (get_or whole i d).1 made) (drop (i + 1) whole)
collects_more s whole made i d lt absent fits c = one_more s whole made (get_or whole i d) (drop (i + 1) whole) absent fits (subst (Collects s whole made) (drop_more whole i d lt) c)

pub value_refused : (s : StoryTree) (whole made : Values) (i : ℕ) (d : List ℕ × Value) → i < length whole → (RowFits s (get_or whole i d) → ⊥)
    → Collects s whole made (drop i whole) → GlobalsFit s whole → ⊥
value_refused s whole made i d lt never c h =
    let k = subst (Collects s whole made) (drop_more whole i d lt) c in
    never (each_in s made (get_or whole i d) (drop (i + 1) whole) (subst (λ es. AllByRecursion (RowFits s) es) (sym k.joined) h.each))

same_names : (k l : List ℕ) → bytes_eq k l ≡ true → k ≡ l
same_names k l e = (bytes_eq-Decides k l).0 e

-- a name stands among rows that end with it
stands_behind : (zs : Values) (e : List ℕ × Value) (ys : Values) (name : List ℕ) → name ≡ e.0 → is_some (stored name (zs ++ e ∷ ys)) ≡ true
stands_behind [] e ys name same = let eq : bytes_eq name e.0 ≡ true = (bytes_eq-Decides name e.0).1 same in rw eq refl
stands_behind (z ∷ zs) e ys name same = past (bytes_eq name z.0) (stands_behind zs e ys name same)
  where
    past : (b : Bool) → is_some (stored name (zs ++ e ∷ ys)) ≡ true → is_some (if b then Some z.1 else stored name (zs ++ e ∷ ys)) ≡ true
    past true k = refl
    past false k = k

-- a name among rows before another of its name
found_twice : (xs : Values) (e : List ℕ × Value) (ys : Values) → is_some (stored e.0 xs) ≡ true → names_once (xs ++ e ∷ ys) ≡ true → ⊥
found_twice [] e ys h once = other (sym h)
found_twice (x ∷ xs) e ys h once =
    let parts = both (not (is_some (stored x.0 (xs ++ e ∷ ys)))) (names_once (xs ++ e ∷ ys)) once in
    by (bytes_eq e.0 x.0) refl h parts.0 (λ k. found_twice xs e ys k parts.1)
  where
    by : (b : Bool) → bytes_eq e.0 x.0 ≡ b → is_some (if b then Some x.1 else stored e.0 xs) ≡ true → not (is_some (stored x.0 (xs ++ e ∷ ys))) ≡ true
        → (is_some (stored e.0 xs) ≡ true → ⊥) → ⊥
    by true same h first so = other (sym first ∙ ap not (stands_behind xs e ys x.0 (sym (same_names e.0 x.0 same))))
    by false same h first so = so h

pub name_refused : (s : StoryTree) (whole made : Values) (i : ℕ) (d : List ℕ × Value) → i < length whole → is_some (stored (get_or whole i d).0 made) ≡ true
    → Collects s whole made (drop i whole) → GlobalsFit s whole → ⊥
name_refused s whole made i d lt found c h =
    let k = subst (Collects s whole made) (drop_more whole i d lt) c in
    found_twice made (get_or whole i d) (drop (i + 1) whole) found (ap names_once k.joined ∙ h.once)

once_named : (es : Values) → DifferInName es → names_once es ≡ true
once_named [] h = refl
once_named (e ∷ es) h = rw h.0 (once_named es h.1)

pub collects_all : (s : StoryTree) (whole made : Values) (i : ℕ) → length whole ≤ i → DifferInName made → Collects s whole made (drop i whole)
    → (made ≡ whole) × GlobalsFit s whole
collects_all s whole made i le differ c =
    let k = subst (Collects s whole made) (drop_all i whole le) c in
    let same : made ≡ whole = sym (append-nil made) ∙ k.joined in
    (same, record { once = ap names_once (sym same) ∙ once_named made differ; each = subst (λ es. AllByRecursion (RowFits s) es) same k.each })
