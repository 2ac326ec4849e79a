-- What is shown is shown one after another.
use Rattle.std.proofs.Common.{◌≡◌, ℕ, List, [], ◌∷◌, ◌++◌, refl}
use Rattle.ink_page.specs.Page.{tag_laid, tags_laid}
use Rattle.ink_page.specs.Sheet.{SheetView, laid, with_character}

pub laid-push : (xs : List ℕ) (c : ℕ) (s : SheetView) → laid (xs ++ c ∷ []) s ≡ with_character c (laid xs s)
laid-push [] c s = refl
laid-push (x ∷ xs) c s = laid-push xs c (with_character x s)

pub tags_laid-push : (ts : List (List ℕ)) (t : List ℕ) (s : SheetView) → tags_laid (ts ++ t ∷ []) s ≡ tag_laid t (tags_laid ts s)
tags_laid-push [] t s = refl
tags_laid-push (u ∷ ts) t s = tags_laid-push ts t (tag_laid u s)
