-- What stands one index further than content, and the way down to the first content.
use Rattle.std.proofs.Common.{◌≡◌, List, [], ◌∷◌, ◌++◌, Option, Some, None, option_and_then, refl, sym, ◌∙◌, ap}
use Rattle.ink_tree.proofs.Common.{append-nil, first_content_at, content_place, StoryTree, at, down, Part}
use Rattle.ink_tree.proofs.Standing.{at_append}

pub found_there : (d : Option StoryTree) → option_and_then (λ u. at u []) d ≡ d
found_there None = refl
found_there (Some t) = refl

one_down : (q : Part) (o : Option StoryTree) → option_and_then (λ t. at t (q ∷ [])) o ≡ option_and_then (down q) o
one_down q None = refl
one_down q (Some t) = found_there (down q t)

-- by what was found at the content's own place
pub below : (s : StoryTree) (p : List Part) (q : Part) (o : Option StoryTree) → o ≡ at s p → option_and_then (down q) o ≡ at s (p ++ q ∷ [])
below s p q o is = ap (option_and_then (down q)) is ∙ (sym (one_down q (at s p)) ∙ sym (at_append p (q ∷ []) s))

-- ---- down to the first content

-- where a step performs, where nothing stands
module _ (s : StoryTree) (p : List Part) where
  pub enters_nothing : at s p ≡ None → p ≡ content_place s p
  unfolding content_place
  enters_nothing none = sym (append-nil p) ∙ ap (λ o. p ++ first_content_at o) (sym none)
