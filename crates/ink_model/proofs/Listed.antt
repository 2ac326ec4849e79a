-- A name leads to an element that is listed.
use Rattle.std.proofs.Common.{◌≡◌, ℕ, suc, ◌+◌, ◌<◌, List, Bool, true, false, cond, Option, Some, None, arith}
use Rattle.ink_model.specs.Run.Place.{is_named, named_index}
use Rattle.ink_model.specs.Story.Path.{listed_index}
use Rattle.ink_model.specs.Story.Tree.{StoryTree, leaf, container, Trees, no_trees, tree, count, width}

first_or : (b : Bool) (i n k : ℕ) (rest : Option ℕ) → (rest ≡ Some k → k < suc i + n) → cond b (Some i) rest ≡ Some k → k < i + suc n
first_or true i n k rest h e = let same : i ≡ k = cc in omega arith
first_or false i n k rest h e = let below = h e in omega arith

pub named_within : (name : List ℕ) (i : ℕ) (ts : Trees) (k : ℕ) → named_index name i ts ≡ Some k → k < i + count ts
named_within name i no_trees k e = absurd cc
named_within name i (tree (leaf l) ts) k e = omega (arith, named_within name (i + 1) ts k e)
named_within name i (tree (container own flags content named) ts) k e =
    first_or (is_named name own) i (count ts) k (named_index name (i + 1) ts) (λ f. omega (arith, named_within name (i + 1) ts k f)) e

pub listed_within : (name : List ℕ) (o : Option StoryTree) (k : ℕ) → listed_index name o ≡ Some k → k < width o
listed_within name None k e = absurd cc
listed_within name (Some (leaf l)) k e = absurd cc
listed_within name (Some (container own flags content named)) k e = omega (arith, named_within name 0 content k e)
