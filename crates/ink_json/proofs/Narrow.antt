-- In a tree whose containers are narrow each container that a way leads to is narrow.
use Rattle.std.proofs.Common.{◌≡◌, ℕ, zero, suc, ◌<◌, ◌^◌, List, [], ◌∷◌, Option, Some, None, option_and_then, Ordering, Less, Equal, Greater, nat_cmp, nat_lt, true, arith}
use Rattle.ink_json.proofs.Common.{nat_tests, slice_cmp, match_ordering, Part, Index, Name}
use Rattle.json_tape.proofs.Conditions.{both}
use Rattle.ink_model.specs.Story.Tree.{StoryTree, leaf, container, Trees, no_trees, tree, Keyed, no_keys, key, nth, by_key, down, at, width, count}
use Rattle.ink_model.specs.Story.Narrow.{is_narrow, are_narrow, are_keyed_narrow}

abbrev IsNarrow : Option StoryTree → Type 0
IsNarrow None = Unit {0}
IsNarrow (Some t) = is_narrow t ≡ true

nth_narrow : (n : ℕ) (ts : Trees) → are_narrow ts ≡ true → IsNarrow (nth n ts)
nth_narrow n no_trees h = tt
nth_narrow zero (tree t ts) h = (both (is_narrow t) (are_narrow ts) h).0
nth_narrow (suc n) (tree t ts) h = nth_narrow n ts (both (is_narrow t) (are_narrow ts) h).1

chosen : (o : Ordering) (found : StoryTree) (rest : Option StoryTree) → is_narrow found ≡ true → IsNarrow rest → IsNarrow (match_ordering o rest (Some found) rest)
chosen Less found rest h k = k
chosen Equal found rest h k = h
chosen Greater found rest h k = k

by_key_narrow : (k : List ℕ) (ks : Keyed) → are_keyed_narrow ks ≡ true → IsNarrow (by_key k ks)
by_key_narrow k no_keys h = tt
by_key_narrow k (key l t ks) h = let two = both (is_narrow t) (are_keyed_narrow ks) h in
    chosen (slice_cmp nat_cmp k l) t (by_key k ks) two.0 (by_key_narrow k ks two.1)

down_narrow : (p : Part) (t : StoryTree) → is_narrow t ≡ true → IsNarrow (down p t)
down_narrow p (leaf l) h = tt
down_narrow (Index i) (container name flags content named) h =
    let inside = both _ _ (both (nat_lt (count content) (2 ^ 32)) _ h).1 in nth_narrow i content inside.0
down_narrow (Name k) (container name flags content named) h =
    let inside = both _ _ (both (nat_lt (count content) (2 ^ 32)) _ h).1 in by_key_narrow k named inside.1

onward : (k : StoryTree → Option StoryTree) → ((t : StoryTree) → is_narrow t ≡ true → IsNarrow (k t)) → (o : Option StoryTree) → IsNarrow o → IsNarrow (option_and_then k o)
onward k h None n = tt
onward k h (Some t) n = h t n

at_narrow : (ps : List Part) (t : StoryTree) → is_narrow t ≡ true → IsNarrow (at t ps)
at_narrow [] t h = h
at_narrow (p ∷ ps) t h = onward (λ u. at u ps) (at_narrow ps) (down p t) (down_narrow p t h)

width_narrow : (o : Option StoryTree) → IsNarrow o → width o < 2 ^ 32
width_narrow None h = omega arith
width_narrow (Some (leaf l)) h = omega arith
width_narrow (Some (container name flags content named)) h =
    let within = (both (nat_lt (count content) (2 ^ 32)) _ h).0 in grind (arith, nat_tests)

pub width_at : (t : StoryTree) (ps : List Part) → is_narrow t ≡ true → width (at t ps) < 2 ^ 32
width_at t ps h = width_narrow (at t ps) (at_narrow ps t h)
