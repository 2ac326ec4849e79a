-- The n-th visible choice, looked at and taken.
use Rattle.std.proofs.Common.{◌≡◌, ◌∙◌, ap, sym, refl, ℕ, zero, suc, Bool, true, false, not, ◌||◌, ◌&&◌, if◌then◌else◌, List, [], ◌∷◌, get_or, slice_get, Option, Some, None, option_map}
use Rattle.ink_choice.specs.Outcomes.{FindsIndex}
use Rattle.ink_model.specs.Choices.Making.{behind, none_visible, choice_gone, taken_of, visible}
use Rattle.ink_model.specs.Run.Configuration.{ChoiceOf}

module _ {P : Type 0} where
  behind_first : (c : ChoiceOf P) (r : Option (ChoiceOf P × List (ChoiceOf P))) → option_map (λ x. x.0) (option_map (behind c) r) ≡ option_map (λ x. x.0) r
  behind_first c None = refl
  behind_first c (Some r) = refl

  first_by : (c : ChoiceOf P) (cs : List (ChoiceOf P)) (b : Bool) → option_map (λ x. x.0) (taken_of (λ c. not c.hidden) zero cs) ≡ slice_get (visible cs) zero
      → option_map (λ x. x.0) (if not b then Some (c, cs) else option_map (behind c) (taken_of (λ c. not c.hidden) zero cs)) ≡ slice_get (if b then visible cs else c ∷ visible cs) zero
  first_by c cs true on = behind_first c (taken_of (λ c. not c.hidden) zero cs) ∙ on
  first_by c cs false on = refl

  next_by : (n : ℕ) (c : ChoiceOf P) (cs : List (ChoiceOf P)) (b : Bool) → ((m : ℕ) → option_map (λ x. x.0) (taken_of (λ c. not c.hidden) m cs) ≡ slice_get (visible cs) m)
      → option_map (λ x. x.0) (option_map (behind c) (taken_of (λ c. not c.hidden) (if not b then n else suc n) cs)) ≡ slice_get (if b then visible cs else c ∷ visible cs) (suc n)
  next_by n c cs true on = behind_first c (taken_of (λ c. not c.hidden) (suc n) cs) ∙ on (suc n)
  next_by n c cs false on = behind_first c (taken_of (λ c. not c.hidden) n cs) ∙ on n

  -- the n-th of those that are not hidden is the n-th visible one
  nth : (cs : List (ChoiceOf P)) (n : ℕ) → option_map (λ x. x.0) (taken_of (λ c. not c.hidden) n cs) ≡ slice_get (visible cs) n
  nth [] n = refl
  nth (c ∷ cs) zero = first_by c cs c.hidden (nth cs zero)
  nth (c ∷ cs) (suc n) = next_by n c cs c.hidden (nth cs)

  pub seen_at : (n i : ℕ) (cs : List (ChoiceOf P)) (x : ChoiceOf P) → FindsIndex (λ c. false || not c.hidden) n cs (Some i) → x ≡ get_or cs i x → Some x ≡ slice_get (visible cs) n
  seen_at n i cs x found is = ap Some is ∙ sym (ap (option_map (λ r. r.0)) (found.1 x)) ∙ nth cs n

  pub none_at : (n : ℕ) (cs : List (ChoiceOf P)) → FindsIndex (λ c. false || not c.hidden) n cs None → None ≡ slice_get (visible cs) n
  none_at n cs found = sym (ap (option_map (λ r. r.0)) found) ∙ nth cs n

  -- ---- where there is one, it is taken

  some_by : (n : ℕ) (c x : ChoiceOf P) (cs : List (ChoiceOf P)) (b : Bool) → ((m : ℕ) → slice_get (visible cs) m ≡ Some x → none_visible cs ≡ false)
      → slice_get (if b then visible cs else c ∷ visible cs) n ≡ Some x → (b && none_visible cs) ≡ false
  some_by n c x cs true on h = on n h
  some_by n c x cs false on h = refl

  some_visible : (cs : List (ChoiceOf P)) (x : ChoiceOf P) (n : ℕ) → slice_get (visible cs) n ≡ Some x → none_visible cs ≡ false
  some_visible [] x n h = absurd (cc)
  some_visible (c ∷ cs) x n h = some_by n c x cs c.hidden (some_visible cs x) h

  pub taken_visible : (n : ℕ) (cs : List (ChoiceOf P)) (x : ChoiceOf P) → slice_get (visible cs) n ≡ Some x → option_map (λ r. r.0) (choice_gone n cs) ≡ Some x
  taken_visible n cs x h = ap (λ b. option_map (λ r. r.0) (taken_of (λ c. b || not c.hidden) n cs)) (some_visible cs x n h) ∙ nth cs n ∙ h
