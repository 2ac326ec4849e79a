-- What is said, and that it asks for memory.
use Rattle.std.proofs.Common.{◌≡◌, ◌≢◌, ◌∙◌, ap, sym, refl, subst, ℕ, List, [], ◌∷◌, Bool, true, false, ◌||◌, Result, Ok, Err, OnErr}
use Rattle.ink_look.proofs.Common.{said, said_asks, Said, Configuration}
use Rattle.ink_model.specs.Choices.Making.{has_any}
use Rattle.ink_model.specs.Text.Clean.{clean}
use Rattle.ink_model.specs.Text.Mark.{tags}
use Rattle.ink_model.specs.Text.Shown.{shown_text, shows_more}

abbrev pub saying : List ℕ → List (List ℕ) → Said
saying text told = record { text = text; tags = told }

or_first : (a b : Bool) → a ≡ true → a || b ≡ true
or_first a b h = subst (λ x. x || b ≡ true) (sym h) refl

or_more : (a b : Bool) → b ≡ true → a || b ≡ true
or_more true b h = refl
or_more false b h = h

any_of : {A : Type 0} (xs : List A) → xs ≢ [] → has_any xs ≡ true
any_of [] h = absurd (h refl)
any_of (x ∷ xs) h = refl

pub on_error : {A E P : Type 0} (r : Result A E) → P → OnErr r P
on_error (Ok a) p = tt
on_error (Err e) p = p

module _ (c : Configuration) where
  pub said_is : (text : List ℕ) (told : List (List ℕ)) → text ≡ clean (shown_text c.page.line) → told ≡ tags c.page.line → saying text told ≡ said c
  unfolding said
  said_is text told e f = ap (λ t. saying t told) e ∙ ap (saying (clean (shown_text c.page.line))) f

  pub asks_text : shows_more c.page.line ≡ true → said_asks c ≡ true
  asks_text h = or_first _ _ h

  pub asks_tags : tags c.page.line ≢ [] → said_asks c ≡ true
  asks_tags h = or_more (shows_more c.page.line) _ (any_of _ h)
