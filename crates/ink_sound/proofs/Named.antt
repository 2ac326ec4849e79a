-- Rows by name, changed.
use Rattle.std.proofs.Common.{◌≡◌, ◌∙◌, ap, sym, refl, ℕ, suc, ◌≤◌, List, [], ◌∷◌, length, true, false, true≢false, cond, bytes_eq, Some, None, is_none, is_some, inl, inr, arith}
use Rattle.ink_sound.proofs.Common.{and_from, and_parts, cases_Bool, cond_both, bytes_eq-Decides, Each}
use Rattle.ink_model.specs.Variables.Named.{Rows, at, each, once, put, without}
use Rattle.ink_sound.proofs.Rows.{turned}

-- ---- names

pub same_name : (m n : List ℕ) → bytes_eq m n ≡ true → m ≡ n
same_name m n h = (bytes_eq-Decides m n).0 h

pub its_name : (n : List ℕ) → bytes_eq n n ≡ true
its_name n = (bytes_eq-Decides n n).1 refl

module _ {X : Type 0} where
  -- ---- a row that is put

  at_put : (name n : List ℕ) (x : X) (rows : Rows X) → bytes_eq name n ≡ false → at n (put name x rows) ≡ at n rows
  at_put name n x [] h = ap (λ b. cond b (Some x) None) (turned name n h)
  at_put name n x (r ∷ rows) h = cond_both (bytes_eq name r.0) _ _ (λ l. at n l ≡ at n (r ∷ rows))
      (λ e. rw (ap (bytes_eq n) (sym (same_name name r.0 e)) ∙ turned name n h) refl) (λ _. ap (λ o. cond (bytes_eq n r.0) (Some r.1) o) (at_put name n x rows h))

  pub once_put : (name : List ℕ) (x : X) (rows : Rows X) → once rows ≡ true → once (put name x rows) ≡ true
  once_put name x [] h = refl
  once_put name x (r ∷ rows) h =
      let parts = and_parts (is_none (at r.0 rows)) (once rows) h in
      cond_both (bytes_eq name r.0) _ _ (λ l. once l ≡ true) (λ _. h)
      (λ e. and_from (is_none (at r.0 (put name x rows))) (once (put name x rows)) (ap is_none (at_put name r.0 x rows e) ∙ parts.0) (once_put name x rows parts.1))

  pub length_put : (name : List ℕ) (x : X) (rows : Rows X) → is_some (at name rows) ≡ true → length (put name x rows) ≡ length rows
  length_put name x [] h = absurd (true≢false (sym h))
  length_put name x (r ∷ rows) h = elim (cases_Bool (bytes_eq name r.0)) [ inl e ↦ rw e refl | inr e ↦ rw e (ap suc (length_put name x rows (rw e at h))) ]

  pub length_put_most : (name : List ℕ) (x : X) (rows : Rows X) → length (put name x rows) ≤ suc (length rows)
  length_put_most name x [] = omega arith
  length_put_most name x (r ∷ rows) =
      cond_both (bytes_eq name r.0) ((r.0, x) ∷ rows) (r ∷ put name x rows) (λ l. length l ≤ suc (suc (length rows))) (λ _. omega arith) (λ _. omega (arith, length_put_most name x rows))

  -- a row that is put fits, where each fits that has a name which one of them has
  pub each_put : (P : List ℕ × X → Type 0) (name : List ℕ) (x : X) (rows : Rows X) → ((n : List ℕ) (y : X) → P (n, y) → P (n, x)) → P (name, x) → Each P rows → Each P (put name x rows)
  each_put P name x [] again new h = (new, tt)
  each_put P name x (r ∷ rows) again new h =
      cond_both (bytes_eq name r.0) ((r.0, x) ∷ rows) (r ∷ put name x rows) (Each P) (λ _. (again r.0 r.1 h.0, h.1)) (λ _. (h.0, each_put P name x rows again new h.1))

  -- ---- a row that is taken away

  none_without : (name n : List ℕ) (rows : Rows X) → is_none (at n rows) ≡ true → is_none (at n (without name rows)) ≡ true
  none_without name n [] h = refl
  none_without name n (r ∷ rows) h = elim (cases_Bool (bytes_eq n r.0)) [
    | inl e ↦ absurd (true≢false (sym (rw e at h)))
    | inr e ↦ cond_both (bytes_eq name r.0) _ _ (λ l. is_none (at n l) ≡ true) (λ _. rw e at h) (λ _. rw e (none_without name n rows (rw e at h)))
  ]

  pub once_without : (name : List ℕ) (rows : Rows X) → once rows ≡ true → once (without name rows) ≡ true
  once_without name [] h = refl
  once_without name (r ∷ rows) h =
      let parts = and_parts (is_none (at r.0 rows)) (once rows) h in
      cond_both (bytes_eq name r.0) _ _ (λ l. once l ≡ true) (λ _. parts.1)
      (λ _. and_from (is_none (at r.0 (without name rows))) (once (without name rows)) (none_without name r.0 rows parts.0) (once_without name rows parts.1))

  pub length_without : (name : List ℕ) (rows : Rows X) → length (without name rows) ≤ length rows
  length_without name [] = omega arith
  length_without name (r ∷ rows) =
      cond_both (bytes_eq name r.0) rows (r ∷ without name rows) (λ l. length l ≤ suc (length rows)) (λ _. omega arith) (λ _. omega (arith, length_without name rows))

  pub each_without : (P : List ℕ × X → Type 0) (name : List ℕ) (rows : Rows X) → Each P rows → Each P (without name rows)
  each_without P name [] h = tt
  each_without P name (r ∷ rows) h = cond_both (bytes_eq name r.0) rows (r ∷ without name rows) (Each P) (λ _. h.1) (λ _. (h.0, each_without P name rows h.1))

-- what is made of each of the others
pub each_of_others : {X Y : Type 0} (change : X → Y) (name : List ℕ) (rows : Rows X) → each change (without name rows) ≡ without name (each change rows)
each_of_others change name [] = refl
each_of_others change name (r ∷ rows) = elim (cases_Bool (bytes_eq name r.0)) [ inl e ↦ rw e refl | inr e ↦ rw e (ap (λ l. (r.0, change r.1) ∷ l) (each_of_others change name rows)) ]
