-- The places of a story rise in reading order.
use Rattle.std.proofs.Common.{◌≡◌, ◌∙◌, ℕ, zero, suc, ◌+◌, ◌<◌, List, [], ◌∷◌, ◌++◌, map, Some, slice_get, true, ◌&&◌, Ordering, Less, Equal, Greater, nat_cmp, refl, sym, ap, subst, append_assoc, arith, length, unwrap_or}
use Rattle.std.specs.Cmp.{nat_cmp_is, ranked}
use Rattle.std.specs.FinMap.{nat_cmp-IsAntisymmetric, slice_cmp-IsAntisymmetric}
use Rattle.std.specs.List.{AllByRecursion}
use Rattle.ink_model.proofs.Orders.{part_total, place_total}
use Rattle.ink_tree.proofs.Common.{tied_itself, none-some, same_Some, slice_get-get_or, unwrap_or-slice_get, slice_cmp, MatchOrdering, is_lt, ordering_reverse, and_parts, part_order, place_order, keys_rise, keys_rise_in, keys_rise_by_key, is_below, places, places_from, places_by_key, StoryTree, leaf, container, Trees, no_trees, tree, Keyed, no_keys, key, Part, Index, Name, NumbersInOrder, node_place}

-- ---- the order of parts and of places

pub name_same : (m n : List ℕ) → slice_cmp nat_cmp m n ≡ Equal → m ≡ n
name_same = slice_cmp-IsAntisymmetric nat_cmp-IsAntisymmetric

pub place_tied : (p : List Part) → place_order p p ≡ Equal
place_tied p = tied_itself place_total p

-- ---- lists that rise

abbrev All' : (List Part → Type 0) → List (List Part) → Type 0
All' P xs = AllByRecursion P xs

all_append : (P : List Part → Type 0) (xs ys : List (List Part)) → All' P xs → All' P ys → All' P (xs ++ ys)
all_append P [] ys h g = g
all_append P (x ∷ xs) ys h g = (h.0, all_append P xs ys h.1 g)

all_under : (P : List Part → Type 0) (p : Part) (xs : List (List Part)) → ((x : List Part) → P (p ∷ x)) → All' P (map (λ x. p ∷ x) xs)
all_under P p [] h = tt
all_under P p (x ∷ xs) h = (h x, all_under P p xs h)

all_seen : (P Q : List Part → Type 0) (xs : List (List Part)) → ((x : List Part) → P x → Q x) → All' P xs → All' Q xs
all_seen P Q [] f h = tt
all_seen P Q (x ∷ xs) f h = (f x h.0, all_seen P Q xs f h.1)

abbrev Below : List Part → List (List Part) → Type 0
Below x = All' (λ y. place_order x y ≡ Less)

abbrev Rises : List (List Part) → Type 0
Rises [] = Unit {0}
Rises (x ∷ xs) = Below x xs × Rises xs

-- a place that begins with such a part
abbrev Begins : (Part → Type 0) → List Part → Type 0
Begins R [] = ⊥
Begins R (p ∷ ps) = R p

abbrev After : Part → List (List Part) → Type 0
After p = All' (Begins (λ q. part_order p q ≡ Less))

begins_below : (p : Part) (x y : List Part) → Begins (λ q. part_order p q ≡ Less) y → place_order (p ∷ x) y ≡ Less
begins_below p x [] h = absurd h
begins_below p x (q ∷ y) h = rw h refl

below_under : (p : Part) (x : List Part) (xs : List (List Part)) → Below x xs → Below (p ∷ x) (map (λ y. p ∷ y) xs)
below_under p x [] h = tt
below_under p x (y ∷ xs) h = (rw (tied_itself part_total p) h.0, below_under p x xs h.1)

-- what stands under a part, and after it what begins with later parts
under_then : (p : Part) (xs ys : List (List Part)) → Rises xs → Rises ys → After p ys → Rises (map (λ x. p ∷ x) xs ++ ys)
under_then p [] ys h g after = g
under_then p (x ∷ xs) ys h g after =
    (all_append _ (map (λ y. p ∷ y) xs) ys (below_under p x xs h.0) (all_seen _ _ ys (begins_below p x) after), under_then p xs ys h.1 g after)

-- ---- the places of a story

abbrev IsName : Part → Type 0
IsName (Index i) = ⊥
IsName (Name n) = Unit {0}

name_after : (i : ℕ) (p : List Part) → Begins IsName p → Begins (λ q. part_order (Index i) q ≡ Less) p
name_after i [] h = h
name_after i (Index j ∷ p) h = absurd h
name_after i (Name n ∷ p) h = refl

named : (ks : Keyed) → All' (Begins IsName) (places_by_key ks)
named no_keys = tt
named (key k t ks) = all_append _ (map (λ p. Name k ∷ p) (places t)) (places_by_key ks) (all_under _ (Name k) (places t) (λ x. tt)) (named ks)

later : (i j : ℕ) (ts : Trees) → i < j → After (Index i) (places_from j ts)
later i j no_trees h = tt
later i j (tree t ts) h = all_append _ (map (λ p. Index j ∷ p) (places t)) (places_from (j + 1) ts) (all_under _ (Index j) (places t) (λ x. sym (nat_cmp_is i j Less h))) (later i (j + 1) ts (omega arith))

pub less : (o : Ordering) → is_lt o ≡ true → o ≡ Less
less Less h = refl
less Equal h = absurd cc
less Greater h = absurd cc

above : (k : List ℕ) (ks : Keyed) → is_below k ks ≡ true → After (Name k) (places_by_key ks)
above k no_keys h = tt
above k (key l t ks) h =
    let two = and_parts (is_lt (slice_cmp nat_cmp k l)) (is_below k ks) h in
    all_append _ (map (λ p. Name l ∷ p) (places t)) (places_by_key ks) (all_under _ (Name l) (places t) (λ x. less (slice_cmp nat_cmp k l) two.0)) (above k ks two.1)

all_any : (R : Part → Type 0) (xs : List (List Part)) → All' (Begins R) xs → Below [] xs
all_any R xs = all_seen _ _ xs (begun R) where
  begun : (S : Part → Type 0) (x : List Part) → Begins S x → place_order [] x ≡ Less
  begun S [] h = absurd h
  begun S (p ∷ x) h = refl

mutual
  rises : (s : StoryTree) → keys_rise s ≡ true → Rises (places s)
  rises (leaf l) h = (tt, tt)
  rises (container name flags content named') h =
      let two = and_parts (keys_rise_in content) (keys_rise_by_key named') h in (
        all_append _ (places_from 0 content) (places_by_key named') (from_root 0 content) (all_any IsName (places_by_key named') (named named')),
        rises_from 0 content (places_by_key named') two.0 (named named') (rises_by_key named' two.1),
      )

  rises_from : (i : ℕ) (ts : Trees) (rest : List (List Part)) → keys_rise_in ts ≡ true → All' (Begins IsName) rest → Rises rest → Rises (places_from i ts ++ rest)
  rises_from i no_trees rest h names up = up
  rises_from i (tree t ts) rest h names up =
      let two = and_parts (keys_rise t) (keys_rise_in ts) h in
      subst Rises (sym (append_assoc (map (λ p. Index i ∷ p) (places t)) (places_from (i + 1) ts) rest))
      (under_then (Index i) (places t) (places_from (i + 1) ts ++ rest) (rises t two.0) (rises_from (i + 1) ts rest two.1 names up)
      (all_append _ (places_from (i + 1) ts) rest (later i (i + 1) ts (omega arith)) (all_seen _ _ rest (name_after i) names)))

  rises_by_key : (ks : Keyed) → keys_rise_by_key ks ≡ true → Rises (places_by_key ks)
  rises_by_key no_keys h = tt
  rises_by_key (key k t ks) h =
      let first = and_parts (is_below k ks) (keys_rise t && keys_rise_by_key ks) h in
      let two = and_parts (keys_rise t) (keys_rise_by_key ks) first.1 in
      under_then (Name k) (places t) (places_by_key ks) (rises t two.0) (rises_by_key ks two.1) (above k ks first.0)

  from_root : (i : ℕ) (ts : Trees) → Below [] (places_from i ts)
  from_root i no_trees = tt
  from_root i (tree t ts) = all_append _ (map (λ p. Index i ∷ p) (places t)) (places_from (i + 1) ts) (all_under _ (Index i) (places t) (λ x. refl)) (from_root (i + 1) ts)

-- ---- numbers in the order of places

at_one : (P : List Part → Type 0) (xs : List (List Part)) (i : ℕ) (x : List Part) → All' P xs → slice_get xs i ≡ Some x → P x
at_one P [] i x h e = absurd (none-some x e)
at_one P (y ∷ ys) zero x h e = subst P (same_Some y x e) h.0
at_one P (y ∷ ys) (suc i) x h e = at_one P ys i x h.1 e

one_on : (i j : ℕ) (o : Ordering) → MatchOrdering o (i < j) (i ≡ j) (j < i) → o ≡ nat_cmp (suc i) (suc j)
one_on i j Less h = nat_cmp_is (suc i) (suc j) Less (omega (arith, h))
one_on i j Equal h = nat_cmp_is (suc i) (suc j) Equal (ap suc h)
one_on i j Greater h = nat_cmp_is (suc i) (suc j) Greater (omega (arith, h))

in_order : (xs : List (List Part)) (i j : ℕ) (x y : List Part) → Rises xs → slice_get xs i ≡ Some x → slice_get xs j ≡ Some y → place_order x y ≡ nat_cmp i j
in_order [] i j x y up a b = absurd (none-some x a)
in_order (z ∷ zs) zero zero x y up a b = ap (place_order x) (sym (same_Some z y b) ∙ same_Some z x a) ∙ place_tied x
in_order (z ∷ zs) zero (suc j) x y up a b =
    ap (λ w. place_order w y) (sym (same_Some z x a)) ∙ at_one (λ w. place_order z w ≡ Less) zs j y up.0 b ∙ nat_cmp_is zero (suc j) Less (omega arith)
in_order (z ∷ zs) (suc i) zero x y up a b =
    place_total.antisymm x y ∙ ap (λ w. ordering_reverse (place_order w x)) (sym (same_Some z y b))
    ∙ ap ordering_reverse (at_one (λ w. place_order z w ≡ Less) zs i x up.0 a) ∙ nat_cmp_is (suc i) zero Greater (omega arith)
in_order (z ∷ zs) (suc i) (suc j) x y up a b = in_order zs i j x y up.1 a b ∙ one_on i j (nat_cmp i j) (ranked i j (nat_cmp i j) refl)

-- two numbers at one place of a story are one
pub one_number : (s : StoryTree) (i j : ℕ) (x : List Part) → keys_rise s ≡ true → slice_get (places s) i ≡ Some x → slice_get (places s) j ≡ Some x → i ≡ j
one_number s i j x h a b = nat_cmp-IsAntisymmetric i j (sym (in_order (places s) i j x x (rises s h) a b) ∙ place_tied x)

pub stands_at : (xs : List (List Part)) (i : ℕ) → i < length xs → slice_get xs i ≡ Some (unwrap_or (slice_get xs i) [])
stands_at xs i below = slice_get-get_or xs i [] below ∙ ap Some (sym (unwrap_or-slice_get xs i []))

-- the numbers of a story's contents are in the order of their places
pub numbered_in_order : (s : StoryTree) → keys_rise s ≡ true → NumbersInOrder s
numbered_in_order s h = λ m n is_m is_n.
    in_order (places s) m.number n.number (node_place s m) (node_place s n) (rises s h)
    (stands_at (places s) m.number is_m) (stands_at (places s) n.number is_n)
