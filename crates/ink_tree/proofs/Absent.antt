-- What a search over a story's places finds, and that nothing stands where it finds nothing.
use Rattle.std.proofs.Common.{◌≡◌, true, is_some, ◌≢◌, ℕ, zero, suc, ◌+◌, ◌<◌, List, [], ◌∷◌, ◌++◌, map, length, slice_get, Option, Some, None, option_and_then, Ordering, Less, Equal, Greater, nat_cmp, refl, ap, subst, ◌∙◌, arith, unwrap_or}
use Rattle.std.specs.List.{AllByRecursion}
use Rattle.ink_tree.proofs.Common.{slice_get_within, slice_cmp, match_ordering, keys_rise, places, places_from, places_by_key, StoryTree, leaf, container, Trees, no_trees, tree, Keyed, no_keys, key, nth, by_key, down, at, Part, Index, Name, Finds, IsNode, node_place, NodeId}
use Rattle.ink_tree.proofs.Nodes.{node_stands}
use Rattle.ink_tree.proofs.Rising.{name_same, one_number, stands_at}

-- ---- a place that is not listed

abbrev pub Lacks : List Part → List (List Part) → Type 0
Lacks p = AllByRecursion (λ q. q ≢ p)

abbrev MayLack : List Part → Option StoryTree → Type 0
MayLack ps None = Unit {0}
MayLack ps (Some t) = Lacks ps (places t)

front : (p : List Part) (xs ys : List (List Part)) → Lacks p (xs ++ ys) → Lacks p xs
front p [] ys h = tt
front p (x ∷ xs) ys h = (h.0, front p xs ys h.1)

back : (p : List Part) (xs ys : List (List Part)) → Lacks p (xs ++ ys) → Lacks p ys
back p [] ys h = h
back p (x ∷ xs) ys h = back p xs ys h.1

inside : (p : Part) (ps : List Part) (xs : List (List Part)) → Lacks (p ∷ ps) (map (λ x. p ∷ x) xs) → Lacks ps xs
inside p ps [] h = tt
inside p ps (x ∷ xs) h = ((λ e. h.0 (ap (λ q. p ∷ q) e)), inside p ps xs h.1)

nth_lacks : (ts : Trees) (i n m : ℕ) (ps : List Part) → m ≡ i + n → Lacks (Index m ∷ ps) (places_from i ts) → MayLack ps (nth n ts)
nth_lacks no_trees i n m ps e h = tt
nth_lacks (tree t ts) i zero m ps e h =
    let same : m ≡ i = omega arith in
    inside (Index i) ps (places t) (subst (λ k. Lacks (Index k ∷ ps) (map (λ p. Index i ∷ p) (places t))) same (front (Index m ∷ ps) _ (places_from (i + 1) ts) h))
nth_lacks (tree t ts) i (suc n) m ps e h = nth_lacks ts (i + 1) n m ps (omega arith) (back (Index m ∷ ps) (map (λ p. Index i ∷ p) (places t)) (places_from (i + 1) ts) h)

chosen : (ps : List Part) (o : Ordering) (t : StoryTree) (rest : Option StoryTree) → (o ≡ Equal → Lacks ps (places t)) → MayLack ps rest → MayLack ps (match_ordering o rest (Some t) rest)
chosen ps Less t rest h k = k
chosen ps Equal t rest h k = h refl
chosen ps Greater t rest h k = k

by_key_lacks : (ks : Keyed) (k : List ℕ) (ps : List Part) → Lacks (Name k ∷ ps) (places_by_key ks) → MayLack ps (by_key k ks)
by_key_lacks no_keys k ps h = tt
by_key_lacks (key l t ks) k ps h =
    chosen ps (slice_cmp nat_cmp k l) t (by_key k ks)
    (λ e. inside (Name l) ps (places t) (subst (λ n. Lacks (Name n ∷ ps) (map (λ p. Name l ∷ p) (places t))) (name_same k l e) (front (Name k ∷ ps) _ (places_by_key ks) h)))
    (by_key_lacks ks k ps (back (Name k ∷ ps) (map (λ p. Name l ∷ p) (places t)) (places_by_key ks) h))

down_lacks : (p : Part) (ps : List Part) (s : StoryTree) → Lacks (p ∷ ps) (places s) → MayLack ps (down p s)
down_lacks p ps (leaf l) h = tt
down_lacks (Index i) ps (container name flags content named) h = nth_lacks content 0 i i ps (omega arith) (front (Index i ∷ ps) (places_from 0 content) (places_by_key named) h.1)
down_lacks (Name k) ps (container name flags content named) h = by_key_lacks named k ps (back (Name k ∷ ps) (places_from 0 content) (places_by_key named) h.1)

onward : (ps : List Part) → ((t : StoryTree) → Lacks ps (places t) → at t ps ≡ None) → (o : Option StoryTree) → MayLack ps o → option_and_then (λ t. at t ps) o ≡ None
onward ps f None h = refl
onward ps f (Some t) h = f t h

-- nothing stands at a place that is not listed
pub absent : (p : List Part) (s : StoryTree) → Lacks p (places s) → at s p ≡ None
absent [] (leaf l) h = absurd (h.0 refl)
absent [] (container name flags content named) h = absurd (h.0 refl)
absent (p ∷ ps) s h = onward ps (absent ps) (down p s) (down_lacks p ps s h)

-- nothing stands at a place that no number has
pub lacks : (p : List Part) (ps : List (List Part)) → ((i : ℕ) (q : List Part) → slice_get ps i ≡ Some q → q ≡ p → ⊥) → Lacks p ps
lacks p [] h = tt
lacks p (q ∷ ps) h = (h 0 q refl, lacks p ps (λ i r e. h (suc i) r e))

pub nowhere : (s : StoryTree) (p : List Part) → ((i : ℕ) → i < length (places s) → node_place s (record { number = i }) ≡ p → ⊥) → Finds s p None
nowhere s p h = absent p s (lacks p (places s) (λ i q e is. h i (slice_get_within (places s) i q e) (ap (λ o. unwrap_or o []) e ∙ is)))

-- something stands at the place of a node
pub stands : (s : StoryTree) (p : List Part) (n : NodeId) → keys_rise s ≡ true → Finds s p (Some n) → is_some (at s p) ≡ true
stands s p n rising h = subst (λ q. is_some (at s q) ≡ true) h.1 (node_stands s n rising)

-- nodes of one place have one number
pub one_node : (s : StoryTree) (m n : NodeId) → keys_rise s ≡ true → IsNode s m → IsNode s n → node_place s m ≡ node_place s n → m.number ≡ n.number
one_node s m n rising a b same = one_number s m.number n.number (node_place s n) rising (stands_at (places s) m.number a ∙ ap Some same) (stands_at (places s) n.number b)
