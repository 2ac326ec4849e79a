-- Where content stands, and the nodes that are found there.
use Rattle.std.proofs.Common.{◌≡◌, ◌∙◌, ap, sym, refl, ℕ, zero, suc, ◌+◌, ◌<◌, List, [], ◌∷◌, ◌++◌, Bool, true, false, true≢false, Option, Some, None, is_some, option_map, option_and_then, arith, nat_lt}
use Rattle.ink_tree.proofs.Common.{nat_tests, StoryTree, leaf, container, Trees, no_trees, tree, nth, down, at, width, count, Part, Index, node_place, Finds, NodeId}

onward : (p q : List Part) → ((u : StoryTree) → at u (p ++ q) ≡ option_and_then (λ t. at t q) (at u p))
    → (o : Option StoryTree) → option_and_then (λ u. at u (p ++ q)) o ≡ option_and_then (λ t. at t q) (option_and_then (λ u. at u p) o)
onward p q h None = refl
onward p q h (Some u) = h u

-- a way on from a place
pub at_append : (p q : List Part) (s : StoryTree) → at s (p ++ q) ≡ option_and_then (λ t. at t q) (at s p)
at_append [] q s = refl
at_append (x ∷ p) q s = onward p q (at_append p q) (down x s)

-- ---- by index

suc_lt : (i n : ℕ) (b : Bool) → nat_lt i n ≡ b → nat_lt (suc i) (suc n) ≡ b
suc_lt i n true h = grind (arith, nat_tests, h)
suc_lt i n false h = grind (arith, nat_tests, h)

nth_stands : (i : ℕ) (ts : Trees) → is_some (option_and_then (λ u. Some u) (nth i ts)) ≡ nat_lt i (count ts)
nth_stands i no_trees = grind (arith, nat_tests)
nth_stands zero (tree t ts) = grind (arith, nat_tests)
nth_stands (suc i) (tree t ts) = sym (suc_lt i (count ts) _ (sym (nth_stands i ts)))

-- content stands at an index below the width
pub in_stands : (i : ℕ) (o : Option StoryTree) → is_some (option_and_then (λ t. at t (Index i ∷ [])) o) ≡ nat_lt i (width o)
in_stands i None = grind (arith, nat_tests)
in_stands i (Some (leaf l)) = grind (arith, nat_tests)
in_stands i (Some (container name flags content named)) = nth_stands i content

module _ (s : StoryTree) (p : List Part) (i : ℕ) where
  pub index_there : is_some (at s (p ++ Index i ∷ [])) ≡ nat_lt i (width (at s p))
  index_there = ap is_some (at_append p (Index i ∷ []) s) ∙ in_stands i (at s p)

  pub index_stands : i < width (at s p) → is_some (at s (p ++ Index i ∷ [])) ≡ true
  index_stands h = let below : nat_lt i (width (at s p)) ≡ true = grind (arith, nat_tests) in index_there ∙ below

-- ---- by name

-- ---- nodes

-- the node of content that stands somewhere
pub there : (s : StoryTree) (p : List Part) (r : Option NodeId) → Finds s p r → is_some (at s p) ≡ true → option_map (node_place s) r ≡ Some p
there s p None h e = absurd (true≢false (sym e ∙ ap is_some h))
there s p (Some n) h e = ap Some h.1

pub root_place : (s : StoryTree) → node_place s (record { number = 0 }) ≡ []
root_place (leaf l) = refl
root_place (container name flags content named) = refl
