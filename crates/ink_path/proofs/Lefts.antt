-- What is left of a path's components.
use Rattle.std.proofs.Common.{◌≡◌, ◌≢◌, ◌∙◌, List, ℕ, [], ◌∷◌, Bool, true, false, not, is_some, Option, Some, None, Bor, sym}
use Rattle.std.specs.Bool.{OnFalse}
use Rattle.ink_model.specs.Text.Bytes.{pieces, is_dot}
use Rattle.ink_path.specs.Components.{texts_of}
use Rattle.ink_path.proofs.Back.{some_piece}

-- there is a text before the first dot
not_none : (cs : List ℕ) → pieces is_dot cs ≢ []
not_none cs e = let (p, ps, some) = some_piece cs in absurd (gone (sym some ∙ e))
  where
    gone : {p : List ℕ} {ps : List (List ℕ)} → p ∷ ps ≡ [] → ⊥
    gone e = absurd cc

pub some_left : (o : Option (Bor (List ℕ))) (b : Bool) → is_some o ≡ not b → OnFalse b (texts_of o ≢ [])
some_left o true e = tt
some_left None false e = absurd cc
some_left (Some text) false e = not_none text.now
