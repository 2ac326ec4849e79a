-- Arrays of what is written, and objects of rows.
use Rattle.std.proofs.Common.{◌≡◌, ◌∙◌, sym, ap, refl, ℕ, Bool, true, false, ◌&&◌, List, [], ◌∷◌, ◌++◌, map, reverse, ◌+◌, slice_get, drop, get_or, length, ◌<◌, take, subst, Option, Some, None, inl, inr, Result, OnOk, ℤ, rules, BTreeMap, Global, String, Ordering, Less, Equal, Greater, is_lt}
use Rattle.std.proofs.lemmas.Cmp.{nat_list_cmp_total}
use Rattle.std.proofs.lemmas.List.{append_assoc, map-append, reverse-append, reverse-reverse}
use Rattle.std.proofs.lemmas.List.{drop_more, take_all, take_more}
use Rattle.std.proofs.lemmas.Option.{get_or_from_slice_get, slice_get_cases, slice_get_within}
use Rattle.std.specs.List.{AllByRecursion}
use Rattle.std.specs.Ordering.{ordering_reverse}
use Rattle.serde_json.specs.Data.{Data, Members, array, boolean, item, member, no_items, no_members, null, number, object, put, unsigned}
use Rattle.serde_json.specs.Find.{of_integer}
use Rattle.serde_json.proofs.Views.{Entry, view-Object}
use Rattle.serde_json.specs.View.{view, items_view, members_view, number_view}
use Rattle.serde_json.specs.View as views
use Rattle.serde_json.specs.declared.number.Number.{Number}
use Rattle.serde_json.specs.declared.value.Value.{Value, the_lemmas}
use Rattle.serde_json.specs.declared.value.Value as json
use Rattle.ink_model.specs.Host.Events as events
use Rattle.ink_model.specs.Variables.Rows.{is_before, name_order, rows_rise}
use Rattle.ink_model.specs.Variables.Store.{Values}
use Rattle.ink_model.specs.Protocol.ValueJson.{value_data}
use Rattle.ink_model.specs.declared.value.Value as model
use Rattle.ink_parts.specs.Written.{put_all}
use Rattle.ink_model.specs.Save.Spelling.{count_data, list_data, temps_members}
use Rattle.ink_stack.proofs.Reversing.{map-reverse}

-- ---- arrays

items_same : (ds : List Data) → views.items_of ds ≡ events.items_of ds
items_same [] = refl
items_same (d ∷ ds) = ap (λ is. item d is) (items_same ds)

module _ {A : Type 0} (f : A → Data) where
  pub listed : (items : List A) (made : List Value) → map view made ≡ map f items → array (items_view made) ≡ list_data f items
  listed items made e = ap array (items_same (map view made) ∙ ap events.items_of e)

  -- one more, which comes last
  pub one_more : (items : List A) (x : A) (made : List Value) (last : Value) → map view made ≡ map f items → view last ≡ f x
      → map view (made ++ last ∷ []) ≡ map f (items ++ x ∷ [])
  one_more items x made last e h =
      map-append view made (last ∷ []) ∙ ap (λ ds. ds ++ view last ∷ []) e ∙ ap (λ d. map f items ++ d ∷ []) h ∙ sym (map-append f items (x ∷ []))

  pub piled : (below : List A) (top : A) (made : List Value) (last : Value) → map view made ≡ map f below → view last ≡ f top
      → array (items_view (made ++ last ∷ [])) ≡ list_data f (reverse (top ∷ reverse below))
  piled below top made last e h =
      listed (below ++ top ∷ []) (made ++ last ∷ []) (one_more below top made last e h)
      ∙ ap (list_data f) (sym (reverse-append (top ∷ []) (reverse below) ∙ ap (λ xs. xs ++ top ∷ []) (reverse-reverse below)))

-- one element more
pub item_more : {A : Type 0} → (f : A → Data) (xs : List A) (i : ℕ) (d : A) (made : List Value) (last : Value) → i < length xs → view last ≡ f (get_or xs i d)
    → map view made ≡ map f (take i xs) → map view (made ++ last ∷ []) ≡ map f (take (i + 1) xs)
item_more f xs i d made last lt is h =
    one_more f (take i xs) (get_or xs i d) made last h is ∙ ap (map f) (sym (take_more xs i d lt))

-- one row more
pub row_more : {A : Type 0} → (f : A → Data) (xs : List A) (i : ℕ) (e : A) (made : List Value) (last : Value) → slice_get xs i ≡ Some e → view last ≡ f e
    → map view made ≡ map f (take i xs) → map view (made ++ last ∷ []) ≡ map f (take (i + 1) xs)
row_more f xs i e made last there is h =
    item_more f xs i e made last (slice_get_within xs i e there) (is ∙ ap f (sym (get_or_from_slice_get xs i e e there))) h

-- an array of two
pub paired : (none one two : List Value) (x y : Value) → none ≡ [] → one ≡ none ++ x ∷ [] → two ≡ one ++ y ∷ [] → array (items_view two) ≡ array (item (view x) (item (view y) no_items))
paired none one two x y h k l = ap (λ vs. array (items_view vs)) (l ∙ ap (λ vs. vs ++ y ∷ []) (k ∙ ap (λ vs. vs ++ x ∷ []) h))

-- plain values
pub view-Bool : (b : Bool) → view (json.Bool b) ≡ boolean b
view-Bool b = search (rules, the_lemmas)

pub view-Null : view json.Null ≡ null
view-Null = search (rules, the_lemmas)

view-Number : (n : Number) → view (json.Number n) ≡ number (number_view n)
view-Number n = search (rules, the_lemmas)

pub view-natural : (n : Number) (i : ℕ) → number_view n ≡ unsigned i → view (json.Number n) ≡ count_data i
view-natural n i h = view-Number n ∙ ap number h

pub view-integer : (n : Number) (z : ℤ) → number_view n ≡ of_integer z → view (json.Number n) ≡ number (of_integer z)
view-integer n z h = view-Number n ∙ ap number h

-- past the last row
pub row_last : {A : Type 0} → (f : A → Data) (xs : List A) (i : ℕ) (made : List Value) → slice_get xs i ≡ None
    → map view made ≡ map f (take i xs) → map view made ≡ map f xs
row_last f xs i made none h = elim (slice_get_cases xs i).1 [
  | inl c ↦ absurd (differ (slice_get xs i) c.0 none c.2)
  | inr c ↦ h ∙ ap (map f) (take_all i xs c.0)
]
  where
    differ : {B : Type 0} (o : Option B) (b : B) → o ≡ None → o ≡ Some b → ⊥
    differ o b e k = cc

maps_join : {A B C : Type 0} → (g : B → C) (f : A → B) (xs : List A) → map (λ x. g (f x)) xs ≡ map g (map f xs)
maps_join g f [] = refl
maps_join g f (x ∷ xs) = ap (λ ys. g (f x) ∷ ys) (maps_join g f xs)

pub list_mapped : {A B : Type 0} → (g : B → Data) (m : A → B) (xs : List A) → list_data (λ x. g (m x)) (reverse xs) ≡ list_data g (reverse (map m xs))
list_mapped g m xs = ap (λ ds. array (events.items_of ds)) (maps_join g m (reverse xs) ∙ ap (map g) (map-reverse m xs))

pub list_over : {A B : Type 0} → (g : B → Data) (m : A → B) (xs : List A) → list_data (λ x. g (m x)) xs ≡ list_data g (map m xs)
list_over g m xs = ap (λ ds. array (events.items_of ds)) (maps_join g m xs)

-- ---- objects

-- a member that was put, by another name of its value
pub put_as : {E : Type 0} (r : Result (Unit {0}) E) (name : List ℕ) (d e : Data) (ms now : Members) → d ≡ e → OnOk r (now ≡ put name d ms) → OnOk r (now ≡ put name e ms)
put_as r name d e ms now same h = subst (λ x. OnOk r (now ≡ put name x ms)) same h

both : (x y : Bool) → (x && y) ≡ true → (x ≡ true) × (y ≡ true)
both true y h = (refl, h)
both false y h = absurd cc

less : (o : Ordering) → is_lt o ≡ true → o ≡ Less
less Less h = refl
less Equal h = absurd cc
less Greater h = absurd cc

-- an object whose members were put one after another, from none on
pub object_made : (f : Members → Members) (m : BTreeMap (String Global) json.Value) (es : List Entry) → es ≡ [] → members_view m.entries ≡ f (members_view es)
    → view (json.Object m) ≡ object (f no_members)
object_made f m es none h = view-Object m ∙ ap object (h ∙ ap (λ rows. f (members_view rows)) none)

abbrev Below : List ℕ → Values → Type 0
Below k rs = AllByRecursion (λ r. is_lt (name_order r.0 k) ≡ true) rs

-- a row behind all others is put last
put_last : (rs : Values) (k : List ℕ) (v : model.Value) → Below k rs → put k (value_data v) (temps_members rs) ≡ temps_members (rs ++ (k, v) ∷ [])
put_last [] k v h = refl
put_last (r ∷ rs) k v h =
    let greater : name_order k r.0 ≡ Greater = nat_list_cmp_total.antisymm k r.0 ∙ ap ordering_reverse (less (name_order r.0 k) h.0) in
    rw greater (ap (λ ms. member r.0 (value_data r.1) ms) (put_last rs k v h.1))

before_it : (l : List ℕ) (xs : Values) (r : List ℕ × model.Value) (ys : Values) → is_before name_order l (xs ++ r ∷ ys) ≡ true → is_lt (name_order l r.0) ≡ true
before_it l [] r ys h = (both (is_lt (name_order l r.0)) (is_before name_order l ys) h).0
before_it l (x ∷ xs) r ys h = before_it l xs r ys (both (is_lt (name_order l x.0)) (is_before name_order l (xs ++ r ∷ ys)) h).1

below_it : (xs : Values) (r : List ℕ × model.Value) (ys : Values) → rows_rise name_order (xs ++ r ∷ ys) ≡ true → Below r.0 xs
below_it [] r ys h = tt
below_it (x ∷ xs) r ys h =
    let p = both (is_before name_order x.0 (xs ++ r ∷ ys)) (rows_rise name_order (xs ++ r ∷ ys)) h in
    (before_it x.0 xs r ys p.0, below_it xs r ys p.1)

put_behind : (xs ys : Values) → rows_rise name_order (xs ++ ys) ≡ true → put_all (temps_members xs) ys ≡ temps_members (xs ++ ys)
put_behind xs [] h = ap temps_members (sym (nothing_more xs))
  where
    nothing_more : (zs : Values) → zs ++ [] ≡ zs
    nothing_more [] = refl
    nothing_more (z ∷ zs) = ap (λ es. z ∷ es) (nothing_more zs)
put_behind xs (r ∷ ys) h =
    let same : (xs ++ r ∷ []) ++ ys ≡ xs ++ r ∷ ys = append_assoc xs (r ∷ []) ys in
    ap (λ ms. put_all ms ys) (put_last xs r.0 r.1 (below_it xs r ys h))
    ∙ put_behind (xs ++ r ∷ []) ys (ap (rows_rise name_order) same ∙ h)
    ∙ ap temps_members same

-- a row more is put
pub put_more : (rs : Values) (i : ℕ) (d : List ℕ × model.Value) (ms now whole : Members) → i < length rs
    → now ≡ put (get_or rs i d).0 (value_data (get_or rs i d).1) ms → put_all ms (drop i rs) ≡ whole → put_all now (drop (i + 1) rs) ≡ whole
put_more rs i d ms now whole lt is h = ap (λ x. put_all x (drop (i + 1) rs)) is ∙ ap (put_all ms) (sym (drop_more rs i d lt)) ∙ h

pub put_in_order : (rs : Values) → rows_rise name_order rs ≡ true → put_all no_members rs ≡ temps_members rs
put_in_order rs h = put_behind [] rs h
