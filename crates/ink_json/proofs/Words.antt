-- Strings that are leaves.
use Rattle.std.proofs.Common.{◌≡◌, ℕ, List, [], ◌∷◌, Bool, true, false, eqb, cond, Option, None, Some, IfSome, unwrap_or, ok_or, Result, Ok, refl, sym, ap, ◌∙◌}
use Rattle.ink_json.proofs.Common.{Data, string}
use Rattle.std.proofs.lemmas.Bool.{eqb-true}
use Rattle.ink_model.specs.Story.Word.{word}
use Rattle.ink_model.specs.Story.Leaves.{written_leaf, string_leaf}
use Rattle.ink_model.specs.declared.content.Leaf.{Leaf}
use Rattle.ink_model.specs.declared.fault.Cause.{Cause}
use Rattle.ink_model.specs.declared.fault.Cause.TheVariants.{Unsupported}

other : (c : ℕ) (cs : List ℕ) (b : Bool) (r : Option (Result Leaf Cause)) → eqb c 94 ≡ b → ((rest : List ℕ) → c ∷ cs ≡ 94 ∷ rest → ⊥) → cond b r None ≡ None
other c cs true r e h = absurd (h cs (ap (λ x. x ∷ cs) (eqb-true c 94 e)))
other c cs false r e h = refl

unwritten : (s : List ℕ) → ((rest : List ℕ) → s ≡ 94 ∷ rest → ⊥) → written_leaf s ≡ None
unwritten [] h = refl
unwritten (c ∷ cs) h = other c cs (eqb c 94) _ refl h

-- a string that does not begin with `^` is a word
pub string_leaf_word : (s : List ℕ) → ((rest : List ℕ) → s ≡ 94 ∷ rest → ⊥) → string_leaf s ≡ ok_or (word s) Unsupported
unfolding string_leaf
string_leaf_word s h = ap (λ o. unwrap_or o (ok_or (word s) Unsupported)) (unwritten s h)

-- what such a string is found to be
pub word_known : (d : Data) (s : List ℕ) (found : Option Leaf) → d ≡ string s → string_leaf s ≡ ok_or (word s) Unsupported → found ≡ word s
    → IfSome found (λ l. (text : List ℕ) × (d ≡ string text) × (string_leaf text ≡ Ok l))
word_known d s None is read found = tt
word_known d s (Some l) is read found = (s, is, read ∙ ap (λ w. ok_or w Unsupported) (sym found))
