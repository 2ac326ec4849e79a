-- Choices, as contracts see them.
use Rattle.std.specs.Prelude.{◌≡◌, ℕ, zero, suc, List, [], ◌∷◌}
use Rattle.ink_model.specs.Run.Configuration.{ChoiceOf, unnumbered_choice}
use Rattle.ink_trail.specs.Undo.{TrailView}
use Rattle.ink_choice.specs.declared.undo.ChoicePair.{ChoicePair}

-- the choices in the order in which they were made, and the trail of what they were
pub record ChoicesView (P : Type 0) : Type 0 where
  pub items : List (ChoiceOf P)
  pub trail : TrailView (ChoicePair P)

-- of so many of the first choices no frame has the number of its Enter
abbrev pub Settled : {P : Type 0} → ℕ → List (ChoiceOf P) → Type 0
Settled zero cs = Unit {0}
Settled (suc n) [] = ⊥
Settled (suc n) (c ∷ cs) = (unnumbered_choice c ≡ c) × Settled n cs
