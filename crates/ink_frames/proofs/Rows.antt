-- Rows from the first one that does not come before a name.
use Rattle.std.proofs.Common.{◌≡◌, ◌∙◌, ◌<◌, ◌+◌, add-one, ℕ, List, ◌++◌, Some, Ok, ap, append_assoc, drop, get_or, length, refl, set, take}
use Rattle.std.proofs.lemmas.List.{drop_more, get_or_default, set_split, take_more}
use Rattle.ink_frames.proofs.Common.{exact_bytes, name_order, row, with_row, Values, Value, FindsName}
use Rattle.std.specs.declared.cmp.Ordering.TheVariants.{Equal, Greater}

module _ (name : List ℕ) where
  -- a name that comes after the rows so far is read and written in the rest
  pub record Passed (i : ℕ) (rows : Values) : Type 0 where
    pub reads : row name_order name rows ≡ row name_order name (drop i rows)
    pub writes : (v : Value) → with_row name_order name v rows ≡ take i rows ++ with_row name_order name v (drop i rows)

  pub passed_none : (rows : Values) → Passed 0 rows
  passed_none rows = record { reads = refl; writes = λ v. refl }

  module _ (i : ℕ) (rows : Values) (d : List ℕ × Value) (inside : i < length rows) (p : Passed i rows) where
    pub passed_one : name_order name (get_or rows i d).0 ≡ Greater → Passed (i + 1) rows
    passed_one after = record {
      reads = p.reads ∙ ap (row name_order name) (drop_more rows i d inside) ∙ rw after refl;
      writes = λ v.
          p.writes v ∙ ap (λ rs. take i rows ++ with_row name_order name v rs) (drop_more rows i d inside)
          ∙ rw (after, take_more rows i d inside, append_assoc) refl;
    }

    pub found_here : name_order name (get_or rows i d).0 ≡ Equal → FindsName name rows (Ok i)
    found_here same =
        let key : name ≡ (get_or rows i d).0 = exact_bytes name (get_or rows i d).0 same in
        let reads : row name_order name rows ≡ Some (get_or rows i d).1 = p.reads ∙ ap (row name_order name) (drop_more rows i d inside) ∙ rw same refl in
        let writes : (v : Value) → with_row name_order name v rows ≡ set rows i ((get_or rows i d).0, v) = λ v.
        p.writes v ∙ ap (λ rs. take i rows ++ with_row name_order name v rs) (drop_more rows i d inside)
        ∙ rw (same, set_split rows i ((get_or rows i d).0, v) inside, ← key, add-one) refl in (
          inside,
          λ e. reads ∙ ap (λ r. Some r.1) (get_or_default rows i d e inside),
          λ e v. writes v ∙ ap (λ r. set rows i (r.0, v)) (get_or_default rows i d e inside),
        )
