-- The numbers of names, where one is added.
use Rattle.std.proofs.Common.{◌≡◌, ◌∙◌, ◌<◌, ◌≤◌, ◌-◌, ℕ, zero, suc, Bool, true, false, bytes_eq, get_or, if◌then◌else◌, List, [], ◌∷◌, ◌++◌, Option, None, Some, String, Global, ap, arith, inl, inr, is_some, length, option_map, refl, slice_get, slice_index_or, string_bytes, sym}
use Rattle.std.proofs.Math.Dec.{ltb}
use Rattle.std.proofs.lemmas.Bool.{cases_Bool, true≢false}
use Rattle.std.proofs.lemmas.Bool.Decides.{Decides-ltb}
use Rattle.std.proofs.lemmas.Slice.Eq.{bytes_eq-Decides}
use Rattle.ink_names.specs.Hints.{hash, mixed}
use Rattle.ink_names.specs.Names.{Differ, names_of, number_of, without_last}

-- the number of a name behind others, where it is not among them
abbrev pub last : Bool → ℕ → Option ℕ → Option ℕ
last is n o = if is_some o then o else if is then Some n else None

later : (is : Bool) (n : ℕ) (o : Option ℕ) → option_map suc (last is n o) ≡ last is (suc n) (option_map suc o)
later true n None = refl
later false n None = refl
later is n (Some i) = refl

pub number_pushed : (names : List (List ℕ)) (name q : List ℕ) → number_of (names ++ name ∷ []) q ≡ last (bytes_eq q name) (length names) (number_of names q)
number_pushed [] name q = refl
number_pushed (n ∷ ns) name q = by (bytes_eq q n) (number_pushed ns name q)
  where
    by : (b : Bool) → number_of (ns ++ name ∷ []) q ≡ last (bytes_eq q name) (length ns) (number_of ns q)
        → (if b then Some 0 else option_map suc (number_of (ns ++ name ∷ []) q)) ≡ last (bytes_eq q name) (suc (length ns)) (if b then Some 0 else option_map suc (number_of ns q))
    by true h = refl
    by false h = ap (option_map suc) h ∙ later (bytes_eq q name) (length ns) (number_of ns q)

-- a name keeps its number where one comes behind, and the one behind has the last
pub still : (names : List (List ℕ)) (name q : List ℕ) (i : ℕ) → number_of names q ≡ Some i → number_of (names ++ name ∷ []) q ≡ Some i
still names name q i its = number_pushed names name q ∙ ap (last (bytes_eq q name) (length names)) its

pub number_behind : (names : List (List ℕ)) (name : List ℕ) → number_of names name ≡ None → number_of (names ++ name ∷ []) name ≡ Some (length names)
number_behind names name absent = number_pushed names name name ∙ ap (last (bytes_eq name name) (length names)) absent ∙ ap (λ b. last b (length names) None) ((bytes_eq-Decides name name).1 refl)

pub other : (a b : List ℕ) → bytes_eq a b ≡ false → bytes_eq b a ≡ false
other a b h = by (bytes_eq b a) refl
  where
    by : (t : Bool) → bytes_eq b a ≡ t → t ≡ false
    by false e = refl
    by true e = sym ((bytes_eq-Decides a b).1 (sym ((bytes_eq-Decides b a).0 e))) ∙ h

absent_head : (n : List ℕ) (ns : List (List ℕ)) (name : List ℕ) → number_of (n ∷ ns) name ≡ None → bytes_eq name n ≡ false
absent_head n ns name = by (bytes_eq name n)
  where
    by : (b : Bool) → (if b then Some 0 else option_map suc (number_of ns name)) ≡ None → b ≡ false
    by false h = refl
    by true h = absurd (cc)

absent_tail : (n : List ℕ) (ns : List (List ℕ)) (name : List ℕ) → number_of (n ∷ ns) name ≡ None → number_of ns name ≡ None
absent_tail n ns name = by (bytes_eq name n) (number_of ns name)
  where
    by : (b : Bool) (o : Option ℕ) → (if b then Some 0 else option_map suc o) ≡ None → o ≡ None
    by b None h = refl
    by true (Some i) h = absurd (cc)
    by false (Some i) h = absurd (cc)

pub differ_pushed : (names : List (List ℕ)) (name : List ℕ) → number_of names name ≡ None → Differ names → Differ (names ++ name ∷ [])
differ_pushed [] name absent differ = (refl, tt)
differ_pushed (n ∷ ns) name absent (here, there) = (
  number_pushed ns name n ∙ ap (last (bytes_eq n name) (length ns)) here
      ∙ ap (λ b. if b then Some (length ns) else None) (other name n (absent_head n ns name absent)),
  differ_pushed ns name (absent_tail n ns name absent) there,
)

-- ---- the last one

pub last_away : (names : List (List ℕ)) (name : List ℕ) → without_last (names ++ name ∷ []) ≡ names
last_away [] name = refl
last_away (n ∷ []) name = refl
last_away (n ∷ m ∷ ns) name = ap (λ rest. n ∷ rest) (last_away (m ∷ ns) name)

present : (b : Bool) (n : ℕ) (o : Option ℕ) → last b n o ≡ None → o ≡ None
present b n None h = refl
present b n (Some i) h = absurd (cc)

-- what differs without the last, and where the last is not among the others
pub differ_popped : (names : List (List ℕ)) (name : List ℕ) → Differ (names ++ name ∷ []) → Differ names × (number_of names name ≡ None)
differ_popped [] name differ = (tt, refl)
differ_popped (n ∷ ns) name (here, there) =
    let on = differ_popped ns name there in
    let unlike : bytes_eq n name ≡ false = apart (bytes_eq n name) (length ns) (number_of ns n) (sym (number_pushed ns name n) ∙ here) in (
      (present (bytes_eq n name) (length ns) (number_of ns n) (sym (number_pushed ns name n) ∙ here), on.0),
      ap (λ b. if b then Some 0 else option_map suc (number_of ns name)) (other n name unlike) ∙ ap (option_map suc) on.1,
    )
  where
    apart : (b : Bool) (n : ℕ) (o : Option ℕ) → last b n o ≡ None → b ≡ false
    apart false n o h = refl
    apart true n None h = absurd (cc)
    apart true n (Some i) h = absurd (cc)

-- ---- by number

-- a name that stands at a number has that number
pub number_at : (name : List ℕ) (ns : List (List ℕ)) (i : ℕ) → Differ ns → slice_get ns i ≡ Some name → number_of ns name ≡ Some i
number_at name [] i differ at = absurd (cc)
number_at name (n ∷ ns) zero differ at =
    let same : n ≡ name = cc in
    ap (λ b. if b then Some 0 else option_map suc (number_of ns name)) ((bytes_eq-Decides name n).1 (sym same))
number_at name (n ∷ ns) (suc i) differ at =
    let there : number_of ns name ≡ Some i = number_at name ns i differ.1 at in
    elim (cases_Bool (bytes_eq name n)) [
      | inl same ↦ let wrong : None ≡ Some i = sym differ.0 ∙ sym (ap (number_of ns) ((bytes_eq-Decides name n).0 same)) ∙ there in absurd (cc)
      | inr apart ↦ ap (λ b. if b then Some 0 else option_map suc (number_of ns name)) apart ∙ ap (option_map suc) there
    ]

pub listed_at : (list : List (String Global)) (i : ℕ) (name : String Global) → i < length list → name ≡ slice_index_or list i name → slice_get (names_of list) i ≡ Some (string_bytes name)
listed_at [] i name within is = absurd (omega (arith, within))
listed_at (s ∷ list) zero name within is = ap (λ n. Some (string_bytes n)) (sym is)
listed_at (s ∷ list) (suc i) name within is = listed_at list i name (omega (arith, within)) is

-- what stands at a place of a list of names has that number
pub nth_number : (items list : List (String Global)) (i : ℕ) (s : String Global) (name : List ℕ) → list ≡ items → i < length list → s ≡ slice_index_or list i s → name ≡ string_bytes s
    → Differ (names_of items) → number_of (names_of items) name ≡ Some i
nth_number items list i s name same within is text differ =
    number_at name (names_of items) i differ (ap (λ xs. slice_get (names_of xs) i) (sym same) ∙ listed_at list i s within is ∙ ap (λ n. Some n) (sym text))

-- a name that has a number stands there
pub stands : (names : List (List ℕ)) (q : List ℕ) (i : ℕ) → number_of names q ≡ Some i → slice_get names i ≡ Some q
stands [] q i its = absurd (cc)
stands (n ∷ ns) q i its = by (bytes_eq q n) (number_of ns q) i refl (stands ns q) its
  where
    by : (b : Bool) (o : Option ℕ) (i : ℕ) → bytes_eq q n ≡ b → ((j : ℕ) → o ≡ Some j → slice_get ns j ≡ Some q) → (if b then Some 0 else option_map suc o) ≡ Some i → slice_get (n ∷ ns) i ≡ Some q
    by true o zero e on h = ap (λ m. Some m) (sym ((bytes_eq-Decides q n).0 e))
    by true o (suc i) e on h = absurd (cc)
    by false None i e on h = absurd (cc)
    by false (Some j) zero e on h = absurd (cc)
    by false (Some j) (suc i) e on h = on i (cc)

pub same_name : (items list : List (String Global)) (i : ℕ) (s : String Global) (name : List ℕ) → list ≡ items → i < length list → s ≡ slice_index_or list i s
    → number_of (names_of items) name ≡ Some i → string_bytes s ≡ name
same_name items list i s name same within is its =
    let one : slice_get (names_of items) i ≡ Some (string_bytes s) = ap (λ xs. slice_get (names_of xs) i) (sym same) ∙ listed_at list i s within is in
    let two : slice_get (names_of items) i ≡ Some name = stands (names_of items) name i its in
    cc

-- a place that a list has is not past its end
pub past_end : (at n : ℕ) → at < n → false ≡ ltb at n → ⊥
past_end at n within past = true≢false (sym ((Decides-ltb at n).1 within) ∙ sym past)

-- the hash of a name of n bytes
pub hash_of : (name : List ℕ) (n : ℕ) → length name ≡ n
    → mixed n (get_or name 0 0) (get_or name (n - 6) 0) (get_or name (n - 5) 0) (get_or name (n - 4) 0) (get_or name (n - 3) 0) (get_or name (n - 2) 0) (get_or name (n - 1) 0) ≡ hash name
hash_of name n long = rw (← long) refl

-- a place near the end of a long name
pub near_end : (n k : ℕ) → 7 ≤ n → n - suc k < n
near_end n k long = omega arith
