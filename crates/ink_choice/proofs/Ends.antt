-- The ends of two texts that are joined.
use Rattle.std.proofs.Common.{◌≡◌, ℕ, Bool, true, false, ◌==◌, List, [], ◌∷◌, ◌++◌, reverse, length, refl, sym, ap, ◌∙◌, inl, inr}
use Rattle.std.proofs.lemmas.Bool.{eqb-true, cases_Bool}
use Rattle.std.proofs.lemmas.List.{append-nil, length-reverse, reverse-append, reverse-reverse}
use Rattle.ink_model.specs.Text.Bytes.{trimmed, without}

-- ---- two texts

pub without_all : (test : ℕ → Bool) (cs ds : List ℕ) → without test cs ≡ [] → without test (cs ++ ds) ≡ without test ds
without_all test [] ds h = refl
without_all test (c ∷ cs) ds h = elim (cases_Bool (test c)) [
  | inl e ↦ rw e (without_all test cs ds (rw e at h))
  | inr e ↦ absurd (let is : c ∷ cs ≡ [] = rw e at h in cc)
]

pub without_some : (test : ℕ → Bool) (cs ds : List ℕ) (x : ℕ) (xs : List ℕ) → without test cs ≡ x ∷ xs → without test (cs ++ ds) ≡ x ∷ xs ++ ds
without_some test [] ds x xs h = absurd (cc)
without_some test (c ∷ cs) ds x xs h = elim (cases_Bool (test c)) [
  | inl e ↦ rw e (without_some test cs ds x xs (rw e at h))
  | inr e ↦ rw e (ap (λ ys. ys ++ ds) (let is : c ∷ cs ≡ x ∷ xs = rw e at h in is))
]

-- ---- the ends of two texts

-- The start of both: where the first one goes, that of the second too.
pub start_first : (test : ℕ → Bool) (s o r p : List ℕ) → r ≡ without test s → (length r == 0) ≡ true → p ≡ without test o → r ++ p ≡ without test (s ++ o)
start_first test s o [] p h e k = k ∙ sym (without_all test s o (sym h))
start_first test s o (x ∷ xs) p h e k = absurd (let no : length (x ∷ xs) ≡ 0 = eqb-true (length (x ∷ xs)) 0 e in cc)

pub start_second : (test : ℕ → Bool) (s o r : List ℕ) → r ≡ without test s → (length r == 0) ≡ false → r ++ o ≡ without test (s ++ o)
start_second test s o [] h e = absurd (cc)
start_second test s o (x ∷ xs) h e = sym (without_some test s o x xs (sym h))

turned_none : (cs : List ℕ) → reverse cs ≡ [] → cs ≡ []
turned_none cs h = sym (reverse-reverse cs) ∙ ap reverse h

-- The end of both: where the second one goes, that of the first too.
pub end_first : (test : ℕ → Bool) (a b p r : List ℕ) → p ≡ trimmed test b → (length p == 0) ≡ true → r ≡ trimmed test a → r ++ p ≡ trimmed test (a ++ b)
end_first test a b (x ∷ xs) r h e k = absurd (let no : length (x ∷ xs) ≡ 0 = eqb-true (length (x ∷ xs)) 0 e in cc)
end_first test a b [] r h e k =
    append-nil r ∙ k
    ∙ ap reverse (sym (ap (without test) (reverse-append a b) ∙ without_all test (reverse b) (reverse a) (turned_none (without test (reverse b)) (sym h))))

end_kept : (test : ℕ → Bool) (a b ys : List ℕ) → without test (reverse b) ≡ ys → (length ys == 0) ≡ false → a ++ reverse ys ≡ trimmed test (a ++ b)
end_kept test a b [] h e = absurd (cc)
end_kept test a b (y ∷ ys) h e =
    sym (ap reverse (ap (without test) (reverse-append a b) ∙ without_some test (reverse b) (reverse a) y ys h)
    ∙ reverse-append (y ∷ ys) (reverse a) ∙ ap (λ xs. xs ++ reverse (y ∷ ys)) (reverse-reverse a))

pub end_second : (test : ℕ → Bool) (a b p : List ℕ) → p ≡ trimmed test b → (length p == 0) ≡ false → a ++ p ≡ trimmed test (a ++ b)
end_second test a b p h e =
    ap (λ xs. a ++ xs) h
    ∙ end_kept test a b (without test (reverse b)) refl (ap (λ n. n == 0) (sym (length-reverse (without test (reverse b))) ∙ ap length (sym h)) ∙ e)
