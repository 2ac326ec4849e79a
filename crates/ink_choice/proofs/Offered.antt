-- What a choice point makes.
use Rattle.std.proofs.Common.{◌≡◌, ◌≢◌, ◌∙◌, ◌≤◌, ◌++◌, ◌<◌, ℕ, List, [], ◌∷◌, Bool, true, Err, Ok, Some, ap, append_assoc, arith, inl, inr, length, nat_lt, refl, reverse, sym}
use Rattle.std.proofs.lemmas.Bool.{cases_Bool, lt-ltb}
use Rattle.std.proofs.lemmas.List.{length-append, reverse-reverse}
use Rattle.ink_choice.specs.Outcomes.{Makes, MakesWith}
use Rattle.ink_model.specs.Text.Bytes.{fits_text}
use Rattle.ink_model.specs.Choices.Making.{Operands, choice, choice_text, is_offered, make, operands, tags_first}
use Rattle.ink_model.specs.Run.Configuration.{ChoiceOf}
use Rattle.ink_model.specs.Flow.Frames.{ThreadOf}
use Rattle.ink_model.specs.declared.fault.Fault.TheVariants.{OutOfMemory}
use Rattle.ink_model.specs.declared.value.Value.{Value}
use Rattle.ink_model.specs.declared.value.Value.TheVariants.{Tag}

-- a choice is made of what was found
module _ {P : Type 0} (flags : ℕ) (target : P) (visited : Bool) (thread : ThreadOf P) (stack new : List Value) (o : Operands) (asks : Bool) (made : ChoiceOf P)
    (found : operands flags (reverse stack) ≡ Ok o) (offered : is_offered flags visited o.condition ≡ true) (makes : MakesWith (choice_text o) asks (choice flags target thread o) (Ok made)) where
  -- what was made is that choice, and its text is within the limit
  within : (made ≡ choice flags target thread o) × (fits_text (choice_text o) ≡ true)
  within = elim (cases_Bool (fits_text (choice_text o))) [
    | inl fits ↦ (rw fits at makes, fits)
    | inr long ↦ absurd (rw long at makes)
  ]

  -- and all of that is popped
  pub makes_one : (short : Bool) → reverse new ≡ o.left → Makes short (make flags target visited thread stack) stack new (Ok (Some made))
  makes_one short left = rw (found, offered, within.1) (ap Some within.0, sym (reverse-reverse new) ∙ ap reverse left)

  -- or there is no room for that
  pub makes_none : (n m : ℕ) → n < m → new ≡ stack → Makes (nat_lt n m) (make flags target visited thread stack) stack new (Err OutOfMemory)
  makes_none n m few same = rw (found, offered, within.1, lt-ltb n m few) ((refl, refl), same)

-- ---- tags one after another

-- a tag that comes next is one of all
pub some_tag : (vs all : List Value) (v : Value) (tag : List ℕ) (rest : List Value) (first tags : List (List ℕ)) → vs ≡ v ∷ rest → v ≡ Tag tag → length first ≤ length tags
    → tags ++ tags_first vs ≡ first ++ tags_first all → tags_first all ≢ []
some_tag vs all v tag rest first tags is tagged more same = λ none.
    absurd (omega (arith, more, ap length same, length-append tags (tags_first vs), length-append first (tags_first all), ap length none, ap (λ ws. length (tags_first ws)) (is ∙ ap (λ w. w ∷ rest) tagged)))

pub next_tag : (vs : List Value) (v : Value) (tag added : List ℕ) (rest : List Value) (all tags new : List (List ℕ)) → vs ≡ v ∷ rest → v ≡ Tag tag → added ≡ tag → new ≡ tags ++ added ∷ []
    → tags ++ tags_first vs ≡ all → new ++ tags_first rest ≡ all
next_tag vs v tag added rest all tags new is tagged same more h =
    ap (λ ts. ts ++ tags_first rest) (more ∙ ap (λ t. tags ++ t ∷ []) same) ∙ append_assoc tags (tag ∷ []) (tags_first rest)
    ∙ ap (λ ws. tags ++ tags_first ws) (sym (is ∙ ap (λ w. w ∷ rest) tagged)) ∙ h
