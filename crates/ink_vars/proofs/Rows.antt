-- Names with their values.
use Rattle.std.proofs.Common.{◌≡◌, ◌∙◌, ◌<◌, ℕ, zero, suc, Bool, true, false, bytes_eq, if◌then◌else◌, List, [], ◌∷◌, ◌++◌, Option, None, Some, ap, arith, is_some, length, option_map, refl, set, slice_get, slice_index_or, subst, sym, take, unwrap_or, ◌≤◌, Bor}
use Rattle.std.proofs.lemmas.List.{length-append}
use Rattle.std.proofs.lemmas.Option.{slice_get_past}
use Rattle.std.specs.Slice.{IsItemAt}
use Rattle.ink_vars.proofs.Common.{Values, store, stored, Value, but_last, global_index, DifferInName, rows_of, set_value_at}
use Rattle.ink_names.specs.Names as names
use Rattle.ink_vars.proofs.Noting.{none_of}
use Rattle.ink_vars.proofs.Taking.{written_over}

-- ---- what a slice gives

pub item_at : {X : Type 0} (xs : List X) (i : ℕ) (x d : X) → i < length xs → x ≡ slice_index_or xs i d → slice_get xs i ≡ Some x
item_at [] i x d h is = absurd (omega (arith, h))
item_at (y ∷ xs) zero x d h is = ap Some (sym is)
item_at (y ∷ xs) (suc i) x d h is = item_at xs i x d (omega (arith, h)) is

pub got : {X : Type 0} (xs ys : List X) (i : ℕ) (r : Option (Bor X)) → IsItemAt xs i r → xs ≡ ys → option_map (λ x. x.now) r ≡ slice_get ys i
got xs ys i None facts same = sym (slice_get_past xs i facts.3) ∙ ap (λ items. slice_get items i) same
got xs ys i (Some x) facts same = sym (item_at xs i x.now x.now facts.3.0 facts.1) ∙ ap (λ items. slice_get items i) same

-- ---- by name and number

-- the value of a number, where there is one
abbrev pub at_number : Option ℕ → List Value → Option Value
at_number None vs = None
at_number (Some i) vs = slice_get vs i

further : (o : Option ℕ) (v : Value) (vs : List Value) → at_number (option_map suc o) (v ∷ vs) ≡ at_number o vs
further None v vs = refl
further (Some i) v vs = refl

pub stored_in : (name : List ℕ) (ns : List (List ℕ)) (vs : List Value) → length ns ≡ length vs → at_number (names.number_of ns name) vs ≡ stored name (rows_of ns vs)
stored_in name [] vs h = refl
stored_in name (n ∷ ns) [] h = absurd (cc)
stored_in name (n ∷ ns) (v ∷ vs) h = by (bytes_eq name n) (further (names.number_of ns name) v vs ∙ stored_in name ns vs (cc))
  where
    by : (b : Bool) → at_number (option_map suc (names.number_of ns name)) (v ∷ vs) ≡ stored name (rows_of ns vs)
        → at_number (if b then Some 0 else option_map suc (names.number_of ns name)) (v ∷ vs) ≡ (if b then Some v else stored name (rows_of ns vs))
    by true on = refl
    by false on = on

-- the value at the number of a name, which is the next one where there is no such name
at_next : (o : Option ℕ) (vs : List Value) → slice_get vs (unwrap_or o (length vs)) ≡ at_number o vs
at_next None vs = slice_get_past vs (length vs) (omega arith)
at_next (Some i) vs = refl

next : (o : Option ℕ) (n : ℕ) → unwrap_or (option_map suc o) (suc n) ≡ suc (unwrap_or o n)
next None n = refl
next (Some i) n = refl

pub numbered_in : (name : List ℕ) (ns : List (List ℕ)) (vs : List Value) → length ns ≡ length vs → unwrap_or (names.number_of ns name) (length ns) ≡ global_index name (rows_of ns vs)
numbered_in name [] vs h = refl
numbered_in name (n ∷ ns) [] h = absurd (cc)
numbered_in name (n ∷ ns) (v ∷ vs) h = by (bytes_eq name n) (next (names.number_of ns name) (length ns) ∙ ap suc (numbered_in name ns vs (cc)))
  where
    by : (b : Bool) → unwrap_or (option_map suc (names.number_of ns name)) (suc (length ns)) ≡ suc (global_index name (rows_of ns vs))
        → unwrap_or (if b then Some 0 else option_map suc (names.number_of ns name)) (suc (length ns)) ≡ (if b then 0 else suc (global_index name (rows_of ns vs)))
    by true on = refl
    by false on = on

pub value_in : (name : List ℕ) (ns : List (List ℕ)) (vs : List Value) → length ns ≡ length vs → slice_get vs (global_index name (rows_of ns vs)) ≡ stored name (rows_of ns vs)
value_in name ns vs h =
    ap (slice_get vs) (sym (numbered_in name ns vs h) ∙ ap (unwrap_or (names.number_of ns name)) h) ∙ at_next (names.number_of ns name) vs ∙ stored_in name ns vs h

pub as_many : (ns : List (List ℕ)) (vs : List Value) → length ns ≡ length vs → length ns ≡ length (rows_of ns vs)
as_many [] vs h = refl
as_many (n ∷ ns) [] h = absurd (cc)
as_many (n ∷ ns) (v ∷ vs) h = ap suc (as_many ns vs (cc))

-- ---- no two of one name

absent_in : (name : List ℕ) (ns : List (List ℕ)) (vs : List Value) → names.number_of ns name ≡ None → stored name (rows_of ns vs) ≡ None
absent_in name [] vs h = refl
absent_in name (n ∷ ns) [] h = refl
absent_in name (n ∷ ns) (v ∷ vs) h = by (bytes_eq name n) (names.number_of ns name) h (absent_in name ns vs)
  where
    by : (b : Bool) (o : Option ℕ) → (if b then Some 0 else option_map suc o) ≡ None → (o ≡ None → stored name (rows_of ns vs) ≡ None)
        → (if b then Some v else stored name (rows_of ns vs)) ≡ None
    by true o k on = absurd (cc)
    by false None k on = on refl
    by false (Some i) k on = absurd (cc)

pub differ_in_name : (ns : List (List ℕ)) (vs : List Value) → names.Differ ns → DifferInName (rows_of ns vs)
differ_in_name [] vs differ = tt
differ_in_name (n ∷ ns) [] differ = tt
differ_in_name (n ∷ ns) (v ∷ vs) (here, there) = (absent_in n ns vs here, differ_in_name ns vs there)

-- ---- by name

-- a name's number is that of a row
pub within : (name : List ℕ) (ns : List (List ℕ)) (i : ℕ) → names.number_of ns name ≡ Some i → i < length ns
within name [] i h = absurd (cc)
within name (n ∷ ns) i h = by (bytes_eq name n) (names.number_of ns name) h (within name ns)
  where
    by : (b : Bool) (o : Option ℕ) → (if b then Some 0 else option_map suc o) ≡ Some i → ((k : ℕ) → o ≡ Some k → k < length ns) → i < suc (length ns)
    by true o k on =
        let same : 0 ≡ i = cc in
        rw (← same) (omega arith)
    by false None k on = absurd (cc)
    by false (Some j) k on =
        let same : suc j ≡ i = cc in
        rw (← same) (omega (arith, on j refl))

pub is_in : (name : List ℕ) (ns : List (List ℕ)) (vs : List Value) → length ns ≡ length vs → is_some (names.number_of ns name) ≡ is_some (stored name (rows_of ns vs))
is_in name [] vs h = refl
is_in name (n ∷ ns) [] h = absurd (cc)
is_in name (n ∷ ns) (v ∷ vs) h = by (bytes_eq name n) (names.number_of ns name) (is_in name ns vs (cc))
  where
    by : (b : Bool) (o : Option ℕ) → is_some o ≡ is_some (stored name (rows_of ns vs))
        → is_some (if b then Some 0 else option_map suc o) ≡ is_some (if b then Some v else stored name (rows_of ns vs))
    by true o on = refl
    by false None on = on
    by false (Some i) on = on

-- ---- by index

-- what stands at an index
abbrev pub pair_of : Option (List ℕ) → Option Value → Option (List ℕ × Value)
pair_of (Some n) (Some v) = Some (n, v)
pair_of n v = None

pub pair_at : (ns : List (List ℕ)) (vs : List Value) (i : ℕ) → pair_of (slice_get ns i) (slice_get vs i) ≡ slice_get (rows_of ns vs) i
pair_at [] vs i = refl
pair_at (n ∷ ns) [] i = by (slice_get (n ∷ ns) i)
  where
    by : (o : Option (List ℕ)) → pair_of o None ≡ None
    by None = refl
    by (Some m) = refl
pair_at (n ∷ ns) (v ∷ vs) zero = refl
pair_at (n ∷ ns) (v ∷ vs) (suc i) = pair_at ns vs i

-- another value at an index
pub written : (ns : List (List ℕ)) (vs : List Value) (i : ℕ) (v : Value) → rows_of ns (set vs i v) ≡ set_value_at (rows_of ns vs) i v
written [] vs i v = refl
written (n ∷ ns) [] zero v = refl
written (n ∷ ns) [] (suc i) v = refl
written (n ∷ ns) (w ∷ vs) zero v = refl
written (n ∷ ns) (w ∷ vs) (suc i) v = ap (λ rows. (n, w) ∷ rows) (written ns vs i v)

-- what was there comes back
pub swapped : (ns : List (List ℕ)) (vs : List Value) (i : ℕ) (v w : Value) → slice_get vs i ≡ Some w → set_value_at (set_value_at (rows_of ns vs) i v) i w ≡ rows_of ns vs
swapped [] vs i v w h = refl
swapped (n ∷ ns) [] i v w h = absurd (cc)
swapped (n ∷ ns) (x ∷ vs) zero v w h =
    let same : x ≡ w = cc in
    ap (λ y. (n, y) ∷ rows_of ns vs) (sym same)
swapped (n ∷ ns) (x ∷ vs) (suc i) v w h = ap (λ rows. (n, x) ∷ rows) (swapped ns vs i v w h)

pub not_written : (rows : Values) (i : ℕ) (v : Value) → length rows ≤ i → set_value_at rows i v ≡ rows
not_written [] i v h = refl
not_written (e ∷ rows) zero v h = absurd (omega (arith, h))
not_written (e ∷ rows) (suc i) v h = ap (λ rest. e ∷ rest) (not_written rows i v (omega (arith, h)))

-- ---- the last one

pub pushed : (ns : List (List ℕ)) (vs : List Value) (n : List ℕ) (v : Value) → length ns ≡ length vs → rows_of (ns ++ n ∷ []) (vs ++ v ∷ []) ≡ rows_of ns vs ++ (n, v) ∷ []
pushed [] [] n v h = refl
pushed [] (w ∷ vs) n v h = absurd (cc)
pushed (m ∷ ns) [] n v h = absurd (cc)
pushed (m ∷ ns) (w ∷ vs) n v h = ap (λ rows. (m, w) ∷ rows) (pushed ns vs n v (cc))

pub popped : (ns : List (List ℕ)) (vs : List Value) → length ns ≡ length vs → rows_of (names.without_last ns) (take (length (names.without_last ns)) vs) ≡ but_last (rows_of ns vs)
popped [] vs h = refl
popped (n ∷ ns) [] h = absurd (cc)
popped (n ∷ []) (v ∷ []) h = refl
popped (n ∷ []) (v ∷ w ∷ vs) h = absurd (cc)
popped (n ∷ m ∷ ns) (v ∷ []) h = absurd (cc)
popped (n ∷ m ∷ ns) (v ∷ w ∷ vs) h = ap (λ rows. (n, v) ∷ rows) (popped (m ∷ ns) (w ∷ vs) (cc))

pub shortened : (ns : List (List ℕ)) (vs : List Value) → length ns ≡ length vs → length (names.without_last ns) ≡ length (take (length (names.without_last ns)) vs)
shortened [] vs h = refl
shortened (n ∷ []) vs h = refl
shortened (n ∷ m ∷ ns) [] h = absurd (cc)
shortened (n ∷ m ∷ ns) (v ∷ vs) h = ap suc (shortened (m ∷ ns) vs (cc))

-- ---- a value by name

pub stored_over : (name : List ℕ) (ns : List (List ℕ)) (vs : List Value) (i : ℕ) (v : Value) → length ns ≡ length vs → i ≡ global_index name (rows_of ns vs) → i < length vs
    → rows_of ns (set vs i v) ≡ store name v (rows_of ns vs)
stored_over name ns vs i v h is within =
    let many : length vs ≡ length (rows_of ns vs) = sym h ∙ as_many ns vs h in
    written ns vs i v ∙ ap (λ k. set_value_at (rows_of ns vs) k v) is
    ∙ written_over name v (rows_of ns vs) (subst (λ k. k < length (rows_of ns vs)) is (subst (λ k. i < k) many within))

-- the number of a name that is there is its index
pub index_of : (name : List ℕ) (ns : List (List ℕ)) (vs : List Value) (i : ℕ) → length ns ≡ length vs → names.number_of ns name ≡ Some i → i ≡ global_index name (rows_of ns vs)
index_of name ns vs i h at = sym (ap (λ o. unwrap_or o (length ns)) at) ∙ numbered_in name ns vs h

pub not_in : (name : List ℕ) (ns : List (List ℕ)) (vs : List Value) → length ns ≡ length vs → is_some (stored name (rows_of ns vs)) ≡ false → names.number_of ns name ≡ None
not_in name ns vs h absent = none_of (names.number_of ns name) (is_in name ns vs h ∙ absent)

-- both lists have one more
pub both_longer : {A B : Type 0} (xs zs : List A) (ys bs : List B) (x : A) (y : B) → zs ≡ xs ++ x ∷ [] → bs ≡ ys ++ y ∷ [] → length xs ≡ length ys → length zs ≡ length bs
both_longer xs zs ys bs x y first second same = omega (arith, ap length first, length-append xs (x ∷ []), ap length second, length-append ys (y ∷ []), same)
