-- Rows, where there is one at least.
use Rattle.std.proofs.Common.{◌≡◌, ap, refl, ℕ, List, [], ◌∷◌, ◌++◌, length, map, Bool, false, IsTrue, Option, String, Global, string_bytes}
use Rattle.ink_model.specs.Run.Flows.{AsideOf}
use Rattle.ink_model.specs.Variables.Named.{names}
use Rattle.ink_flows.specs.Standing.{listed, rows_of}
use Rattle.ink_flows.specs.declared.flow.Flow.{Flow}

pub listed_more : (es : List (String Global × Option Flow)) (b : Bool) → b ≡ false → (length es ≡ 0 → IsTrue b) → listed (rows_of es) ≡ rows_of es
listed_more [] b e h = let never = h refl in absurd (cc)
listed_more (x ∷ es) b e h = refl

pub names_keys : (es : List (String Global × Option Flow)) → map string_bytes (map (λ e. e.0) es) ≡ names (rows_of es)
names_keys [] = refl
names_keys (e ∷ es) = ap (λ ns. string_bytes e.0 ∷ ns) (names_keys es)

pub listed_behind : (rows : AsideOf Flow) (r : List ℕ × Option Flow) → listed (rows ++ r ∷ []) ≡ rows ++ r ∷ []
listed_behind [] r = refl
listed_behind (x ∷ rows) r = refl
