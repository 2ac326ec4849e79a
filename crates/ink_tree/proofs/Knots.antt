-- Knots by name: by key, or else in the root's list.
use Rattle.std.proofs.Common.{◌≡◌, ◌∙◌, ap, sym, refl, ℕ, List, [], ◌∷◌, true, false, true≢false, Option, Some, None, is_some, option_map}
use Rattle.ink_tree.proofs.Common.{listed_index, knot, StoryTree, leaf, container, by_key, at, Index, Name}
use Rattle.ink_tree.proofs.Further.{found_there}
use Rattle.ink_model.proofs.Listed.{listed_within}
use Rattle.ink_tree.proofs.Standing.{index_stands}

-- what stands at a name is a knot, by key
pub knot_by_key : (name : List ℕ) (s : StoryTree) → is_some (at s (Name name ∷ [])) ≡ true → Some (Name name ∷ []) ≡ knot name s
unfolding knot
knot_by_key name (leaf l) h = absurd (true≢false (sym h))
knot_by_key name (container own flags content named) h = rw (sym (ap is_some (found_there (by_key name named))) ∙ h) refl

-- otherwise a knot stands in the list
knot_listed : (name : List ℕ) (s : StoryTree) → is_some (at s (Name name ∷ [])) ≡ false → option_map (λ i. Index i ∷ []) (listed_index name (Some s)) ≡ knot name s
unfolding knot
knot_listed name (leaf l) h = refl
knot_listed name (container own flags content named) h = rw (sym (ap is_some (found_there (by_key name named))) ∙ h) refl

pub knot_from_list : (name : List ℕ) (s : StoryTree) (found : Option ℕ) → at s (Name name ∷ []) ≡ None → found ≡ listed_index name (Some s) → option_map (λ i. Index i ∷ []) found ≡ knot name s
knot_from_list name s found none is = ap (option_map (λ i. Index i ∷ [])) is ∙ knot_listed name s (ap is_some none)

pub listed_there : (name : List ℕ) (s : StoryTree) (i : ℕ) → Some i ≡ listed_index name (Some s) → is_some (at s (Index i ∷ [])) ≡ true
listed_there name s i is = index_stands s [] i (listed_within name (Some s) i (sym is))
