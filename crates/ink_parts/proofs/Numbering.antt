-- The rows of slots, one by one.
use Rattle.std.proofs.Common.{◌≡◌, ◌∙◌, sym, ap, refl, subst, ℕ, suc, ◌+◌, ◌<◌, length, List, [], ◌∷◌, ◌++◌, get_or, map, take, Option, Some, None, arith}
use Rattle.std.proofs.lemmas.List.{append-nil, length-take-le, map-append, take_more}
use Rattle.ink_parts.proofs.Common.{view, row_data, Added, data_tokens, rows_from}
use Rattle.serde_json.specs.declared.value.Value.{Value}
use Rattle.ink_model.specs.Story.Tree.{StoryTree}
use Rattle.json.specs.Written.{Written}
use Rattle.ink_tokens.proofs.Adding.{after, more_items}
use Rattle.ink_parts.proofs.Texts.{all_tokens}
use Rattle.ink_parts.specs.Counted.{place_at, row_at, rows_at, slot_row}

rows_last : (k : ℕ) (xs : List (Option ℕ)) (o : Option ℕ) → rows_from k (xs ++ o ∷ []) ≡ rows_from k xs ++ slot_row (k + length xs) o
rows_last k [] None = refl
rows_last k [] (Some v) = let same : k ≡ k + 0 = omega arith in ap (λ n. (n, v) ∷ []) same
rows_last k (None ∷ xs) o =
    let same : k + 1 + length xs ≡ k + suc (length xs) = omega arith in
    rows_last (k + 1) xs o ∙ ap (λ n. rows_from (k + 1) xs ++ slot_row n o) same
rows_last k (Some v ∷ xs) o =
    let same : k + 1 + length xs ≡ k + suc (length xs) = omega arith in
    ap (λ rs. (k, v) ∷ rs) (rows_last (k + 1) xs o ∙ ap (λ n. rows_from (k + 1) xs ++ slot_row n o) same)

-- the rows of one slot more
slots_more : (slots : List (Option ℕ)) (i : ℕ) → i < length slots
    → rows_from 0 (take (i + 1) slots) ≡ rows_from 0 (take i slots) ++ slot_row i (get_or slots i None)
slots_more slots i lt =
    let many : 0 + length (take i slots) ≡ i = omega (arith, length-take-le i slots (omega (arith, lt))) in
    ap (rows_from 0) (take_more slots i None lt) ∙ rows_last 0 (take i slots) (get_or slots i None)
    ∙ ap (λ n. rows_from 0 (take i slots) ++ slot_row n (get_or slots i None)) many

module _ (s : StoryTree) (slots : List (Option ℕ)) (i : ℕ) (lt : i < length slots) (made : List Value) where
  -- the rows of the first slots are written
  abbrev pub Wrote : List Value → ℕ → Type 0
  Wrote vs n = map view vs ≡ map row_data (rows_at s (rows_from 0 (take n slots)))

  wrote_so : (row : List (ℕ × ℕ)) → slot_row i (get_or slots i None) ≡ row → Wrote made i
      → map row_data (rows_at s (rows_from 0 (take (i + 1) slots))) ≡ map view made ++ map row_data (rows_at s row)
  wrote_so row is h =
      ap (λ rs. map row_data (rows_at s rs)) (slots_more slots i lt ∙ ap (λ r. rows_from 0 (take i slots) ++ r) is)
      ∙ ap (map row_data) (map-append (row_at s) (rows_from 0 (take i slots)) row)
      ∙ map-append row_data (rows_at s (rows_from 0 (take i slots))) (rows_at s row)
      ∙ ap (λ ds. ds ++ map row_data (rows_at s row)) (sym h)

  pub wrote_row : (v : ℕ) (json : Value) → get_or slots i None ≡ Some v → view json ≡ row_data (place_at s i, v) → Wrote made i → Wrote (made ++ json ∷ []) (i + 1)
  wrote_row v json is row h =
      map-append view made (json ∷ []) ∙ ap (λ d. map view made ++ d ∷ []) row ∙ sym (wrote_so ((i, v) ∷ []) (ap (slot_row i) is) h)

  pub wrote_none : ((v : ℕ) → get_or slots i None ≡ Some v → ⊥) → Wrote made i → Wrote made (i + 1)
  wrote_none never h = sym (append-nil (map view made)) ∙ sym (wrote_so [] (empty (get_or slots i None) refl) h)
    where
      empty : (o : Option ℕ) → get_or slots i None ≡ o → slot_row i o ≡ []
      empty None e = refl
      empty (Some v) e = absurd (never v e)

module _ (s : StoryTree) (slots : List (Option ℕ)) (i : ℕ) (lt : i < length slots) (a b : Written) (before : Added a b (all_tokens row_data (rows_at s (rows_from 0 (take i slots))))) where
  rows_with : (row : List (ℕ × ℕ)) → slot_row i (get_or slots i None) ≡ row
      → rows_at s (rows_from 0 (take (i + 1) slots)) ≡ rows_at s (rows_from 0 (take i slots)) ++ rows_at s row
  rows_with row is =
      ap (rows_at s) (slots_more slots i lt ∙ ap (λ r. rows_from 0 (take i slots) ++ r) is) ∙ map-append (row_at s) (rows_from 0 (take i slots)) row

  -- the tokens of a row more are written
  pub put_row_more : (v : ℕ) (c : Written) → get_or slots i None ≡ Some v → Added b c (data_tokens (row_data (place_at s i, v)))
      → Added a c (all_tokens row_data (rows_at s (rows_from 0 (take (i + 1) slots))))
  put_row_more v c is row =
      subst (λ rs. Added a c (all_tokens row_data rs)) (sym (rows_with ((i, v) ∷ []) (ap (slot_row i) is)))
      (subst (Added a c) (sym (more_items row_data (rows_at s (rows_from 0 (take i slots))) (place_at s i, v))) (after before row))

  pub put_no_row : ((v : ℕ) → get_or slots i None ≡ Some v → ⊥) → Added a b (all_tokens row_data (rows_at s (rows_from 0 (take (i + 1) slots))))
  put_no_row never =
      subst (λ rs. Added a b (all_tokens row_data rs)) (sym (rows_with [] (empty (get_or slots i None) refl) ∙ append-nil (rows_at s (rows_from 0 (take i slots))))) before
    where
      empty : (o : Option ℕ) → get_or slots i None ≡ o → slot_row i o ≡ []
      empty None e = refl
      empty (Some v) e = absurd (never v e)
