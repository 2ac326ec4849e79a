-- Where a name stands among rows that rise, by a search that halves them.
use Rattle.std.proofs.Common.{◌≡◌, ◌∙◌, ◌<◌, ◌≤◌, ◌++◌, ℕ, zero, suc, add-one, List, [], ◌∷◌, true, false, bytes_eq, None, Some, Result, Ok, Err, Ordering, Less, Equal, Greater, is_lt, length, get_or, take, true≢false, ap, arith, inl, inr, refl, subst, sym}
use Rattle.std.proofs.lemmas.Bool.{cases_lt}
use Rattle.std.proofs.lemmas.Cmp.{nat_list_cmp_total}
use Rattle.std.proofs.lemmas.List.{drop_all, drop_more}
use Rattle.ink_frames.proofs.Common.{exact_bytes, is_before, name_order, row, rows_rise, with_row, Values, Value, FindsName}
use Rattle.std.proofs.lemmas.Map.Text.{is_eq-slice_cmp}
use Rattle.std.proofs.lemmas.Slice.Eq.{bytes_eq-Decides}
use Rattle.std.specs.Cmp.{Equal-is}
use Rattle.std.specs.List.Sorted.{IsBinarySearchResult, IsNonDecreasingBy, IsSearchInRange}
use Rattle.std.specs.Ordering.{match_ordering, ordering_index, ordering_reverse}
use Rattle.ink_model.specs.declared.value.Value.TheVariants.{Void}
use Rattle.ink_frames.proofs.Rises.{both, is_less}
use Rattle.ink_frames.proofs.Rows.{Passed, found_here, passed_none, passed_one}

turned : (k l : List ℕ) (o : Ordering) → name_order k l ≡ o → name_order l k ≡ ordering_reverse o
turned k l o e = nat_list_cmp_total.antisymm l k ∙ ap ordering_reverse e

same_bytes : (a b : List ℕ) → a ≡ b → bytes_eq a b ≡ true
same_bytes a b e = (bytes_eq-Decides a b).1 e

same_names : (a b : List ℕ) → bytes_eq a b ≡ true → name_order a b ≡ Equal
same_names a b e = (Equal-is (name_order a b)).0 (is_eq-slice_cmp a b ∙ e)

-- a name comes before each of the rows that it comes before
before_at : (k : List ℕ) (rs : Values) (i : ℕ) (d : List ℕ × Value) → i < length rs → is_before name_order k rs ≡ true → name_order k (get_or rs i d).0 ≡ Less
before_at k [] i d inside h = absurd (omega arith)
before_at k (r ∷ rs) zero d inside h = is_less _ (both (is_lt (name_order k r.0)) (is_before name_order k rs) h).0
before_at k (r ∷ rs) (suc i) d inside h = before_at k rs i d (omega arith) (both (is_lt (name_order k r.0)) (is_before name_order k rs) h).1

-- the names of rows that rise do so by their indexes
rises_at : (rs : Values) (j i : ℕ) (d : List ℕ × Value) → j < i → i < length rs → rows_rise name_order rs ≡ true → name_order (get_or rs j d).0 (get_or rs i d).0 ≡ Less
rises_at [] j i d less inside h = absurd (omega arith)
rises_at (r ∷ rs) j zero d less inside h = absurd (omega arith)
rises_at (r ∷ rs) zero (suc i) d less inside h = before_at r.0 rs i d (omega arith) (both (is_before name_order r.0 rs) (rows_rise name_order rs) h).0
rises_at (r ∷ rs) (suc j) (suc i) d less inside h = rises_at rs j i d (omega arith) (omega arith) (both (is_before name_order r.0 rs) (rows_rise name_order rs) h).1

module _ (name : List ℕ) (rows : Values) where
  -- all rows up to an index are passed
  passed_to : (i : ℕ) (d : List ℕ × Value) → i ≤ length rows → ((j : ℕ) → j < i → name_order name (get_or rows j d).0 ≡ Greater) → Passed name i rows
  passed_to zero d within all = passed_none name rows
  passed_to (suc i) d within all =
      subst (λ n. Passed name n rows) (add-one i) (passed_one name i rows d (omega arith) (passed_to i d (omega arith) (λ j less. all j (omega arith))) (all i (omega arith)))

  -- ---- found

  found_at : (i : ℕ) (d : List ℕ × Value) → rows_rise name_order rows ≡ true → i < length rows → name_order (get_or rows i d).0 name ≡ Equal → FindsName name rows (Ok i)
  found_at i d rises inside same =
      let key : (get_or rows i d).0 ≡ name = exact_bytes (get_or rows i d).0 name same in
      found_here name i rows d inside
      (passed_to i d (omega arith) (λ j less. turned (get_or rows j d).0 name Less (ap (name_order (get_or rows j d).0) (sym key) ∙ rises_at rows j i d less inside rises)))
      (turned (get_or rows i d).0 name Equal same)

  -- ---- not found

  missing_at : (i : ℕ) (d : List ℕ × Value) → i ≤ length rows → ((j : ℕ) → j < i → name_order (get_or rows j d).0 name ≡ Less)
      → ((j : ℕ) → i ≤ j → j < length rows → name_order (get_or rows j d).0 name ≡ Greater) → FindsName name rows (Err i)
  missing_at i d within before behind =
      let p = passed_to i d within (λ j less. turned (get_or rows j d).0 name Less (before j less)) in
      elim (cases_lt i (length rows)) [
        | inl inside ↦
            let first = turned (get_or rows i d).0 name Greater (behind i (omega arith) inside) in
            let rest = drop_more rows i d inside in (
              within,
              p.reads ∙ ap (row name_order name) rest ∙ rw first refl,
              λ v. p.writes v ∙ ap (λ rs. take i rows ++ with_row name_order name v rs) rest ∙ rw (first, ← rest) refl,
            )
        | inr over ↦
            let none = drop_all i rows over in (
              within,
              p.reads ∙ ap (row name_order name) none,
              λ v. p.writes v ∙ ap (λ rs. take i rows ++ with_row name_order name v rs) none ∙ rw none refl,
            )
      ]

-- ---- by a search that halves

-- how a row stands to a name rises with the rows
rank_by : (k l name : List ℕ) (o : Ordering) → name_order k name ≡ o → name_order k l ≡ Less → ordering_index (name_order k name) ≤ ordering_index (name_order l name)
rank_by k l name Less e h = rw e (omega arith)
rank_by k l name Equal e h =
    let greater = turned name l Less (ap (λ x. name_order x l) (sym (exact_bytes k name e)) ∙ h) in
    rw (e, greater) (omega arith)
rank_by k l name Greater e h =
    let greater = turned name l Less (nat_list_cmp_total.trans name k l (turned k name Greater e) h) in
    rw (e, greater) (omega arith)

ranks : (name : List ℕ) (rows : Values) → rows_rise name_order rows ≡ true → IsNonDecreasingBy (λ r. ordering_index (name_order r.0 name)) rows
ranks name rows rises i j d within inside = elim (cases_lt i j) [
  | inl less ↦ rank_by (get_or rows i d).0 (get_or rows j d).0 name (name_order (get_or rows i d).0 name) refl (rises_at rows i j d less inside rises)
  | inr over ↦
      let same : i ≡ j = omega (arith, within, over) in
      subst (λ n. ordering_index (name_order (get_or rows i d).0 name) ≤ ordering_index (name_order (get_or rows n d).0 name)) same (omega arith)
]

pub found : (name : List ℕ) (rows : Values) (r : Result ℕ ℕ) → rows_rise name_order rows ≡ true → IsSearchInRange r (length rows)
    → IsBinarySearchResult (λ row. name_order row.0 name) rows r → FindsName name rows r
found name rows (Ok i) rises inside holds = found_at name rows i ([], Void) rises inside (holds ([], Void))
found name rows (Err i) rises within parted =
    let p = parted (ranks name rows rises) in
    missing_at name rows i ([], Void) within (λ j less. p.0 j ([], Void) (omega arith) less) (λ j over inside. p.1 j ([], Void) over inside)

-- ---- by a look at each row

-- the first rows have other names
abbrev pub Lacks : List ℕ → ℕ → Values → Type 0
Lacks name i rows = (j : ℕ) (d : List ℕ × Value) → j < i → bytes_eq (get_or rows j d).0 name ≡ false

pub no_row : (name : List ℕ) (rows : Values) → Lacks name (length rows) rows → row name_order name rows ≡ None
no_row name [] h = refl
no_row name (r ∷ rs) h = by (name_order name r.0) refl (no_row name rs (λ j d below. h (suc j) d (omega arith)))
  where
    by : (o : Ordering) → name_order name r.0 ≡ o → row name_order name rs ≡ None → match_ordering o None (Some r.1) (row name_order name rs) ≡ None
    by Less e none = refl
    by Equal e none = absurd (true≢false (sym (same_bytes r.0 name (sym (exact_bytes name r.0 e))) ∙ h zero r (omega arith)))
    by Greater e none = none

pub row_here : (name : List ℕ) (rows : Values) (i : ℕ) (d : List ℕ × Value) → rows_rise name_order rows ≡ true → i < length rows → bytes_eq (get_or rows i d).0 name ≡ true
    → row name_order name rows ≡ Some (get_or rows i d).1
row_here name rows i d rises inside same = (found_at name rows i d rises inside (same_names (get_or rows i d).0 name same)).1 d

pub finds_here : (name : List ℕ) (rows : Values) (i : ℕ) (d : List ℕ × Value) → rows_rise name_order rows ≡ true → i < length rows → bytes_eq (get_or rows i d).0 name ≡ true → FindsName name rows (Ok i)
finds_here name rows i d rises inside same = found_at name rows i d rises inside (same_names (get_or rows i d).0 name same)
