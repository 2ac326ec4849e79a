-- Copies of values, one after another.
use Rattle.std.proofs.Common.{◌≡◌, ◌∙◌, ℕ, ◌+◌, ◌<◌, List, [], ◌∷◌, ◌++◌, ap₂, get_or, length, sym, take}
use Rattle.std.proofs.lemmas.List.{take_more}
use Rattle.ink_model.specs.declared.value.Value.{Value}

pub copied_more : (vs done more : List Value) (v copy : Value) (i : ℕ) → done ≡ take i vs → copy ≡ v → v ≡ get_or vs i v → i < length vs → more ≡ done ++ copy ∷ [] → more ≡ take (i + 1) vs
copied_more vs done more v copy i so_far same is there next =
    next ∙ ap₂ (λ xs x. xs ++ x ∷ []) so_far (same ∙ is) ∙ sym (take_more vs i v there)
