-- Where keys rise, every node of a story is content that stands at its place.
use Rattle.std.proofs.Common.{◌≡◌, ◌∙◌, ap, sym, refl, ℕ, zero, suc, ◌+◌, List, [], ◌∷◌, ◌++◌, map, true, true≢false, ◌&&◌, Option, Some, None, is_some, option_and_then, unwrap_or, slice_get, Ordering, Less, Equal, Greater, nat_cmp, arith}
use Rattle.std.specs.FinMap.{nat_cmp-IsAntisymmetric, slice_cmp-IsAntisymmetric}
use Rattle.ink_tree.proofs.Common.{nat_list_cmp_total, tied_itself, slice_cmp, is_lt, match_ordering, and_parts, keys_rise, keys_rise_in, keys_rise_by_key, is_below, places, places_from, places_by_key, StoryTree, leaf, container, Trees, no_trees, tree, Keyed, no_keys, key, nth, by_key, down, at, Part, Index, Name, node_place, NodeId}

-- ---- keys that rise are apart

less : (o : Ordering) (a : Option StoryTree) (t : StoryTree) → is_lt o ≡ true → match_ordering o a (Some t) a ≡ a
less Less a t h = refl
less Equal a t h = absurd cc
less Greater a t h = absurd cc

other : (o : Ordering) (a : Option StoryTree) (t : StoryTree) → (o ≡ Equal → ⊥) → match_ordering o a (Some t) a ≡ a
other Less a t h = refl
other Equal a t h = absurd (h refl)
other Greater a t h = refl

absent : (k : List ℕ) (ks : Keyed) → is_below k ks ≡ true → by_key k ks ≡ None
absent k no_keys h = refl
absent k (key l t ks) h =
    let two = and_parts (is_lt (slice_cmp nat_cmp k l)) (is_below k ks) h in
    less (slice_cmp nat_cmp k l) (by_key k ks) t two.0 ∙ absent k ks two.1

pub at_its_key : (k : List ℕ) (t : StoryTree) (ks : Keyed) → by_key k (key k t ks) ≡ Some t
at_its_key k t ks = rw (tied_itself nat_list_cmp_total k) refl

pub further : (m k : List ℕ) (t : StoryTree) (ks : Keyed) → is_below k ks ≡ true → is_some (by_key m ks) ≡ true → by_key m (key k t ks) ≡ by_key m ks
further m k t ks below some =
    other (slice_cmp nat_cmp m k) (by_key m ks) t
    (λ same. let is = slice_cmp-IsAntisymmetric nat_cmp-IsAntisymmetric m k same in
    true≢false (sym some ∙ ap (λ n. is_some (by_key n ks)) is ∙ ap is_some (absent k ks below)))

-- ---- what stands at each place of a list

abbrev Stand : StoryTree → List (List Part) → Type 0
Stand t [] = Unit {0}
Stand t (p ∷ ps) = (is_some (at t p) ≡ true) × Stand t ps

stand_append : (t : StoryTree) (ps qs : List (List Part)) → Stand t ps → Stand t qs → Stand t (ps ++ qs)
stand_append t [] qs h g = g
stand_append t (p ∷ ps) qs h g = (h.0, stand_append t ps qs h.1 g)

stand_under : (t u : StoryTree) (x : Part) → down x t ≡ Some u → (ps : List (List Part)) → Stand u ps → Stand t (map (λ p. x ∷ p) ps)
stand_under t u x e [] h = tt
stand_under t u x e (p ∷ ps) h = (ap (λ o. is_some (option_and_then (λ v. at v p) o)) e ∙ h.0, stand_under t u x e ps h.1)

mutual
  places_stand : (t : StoryTree) → keys_rise t ≡ true → Stand t (places t)
  places_stand (leaf l) h = (refl, tt)
  places_stand (container name flags content named) h =
      let two = and_parts (keys_rise_in content) (keys_rise_by_key named) h in
      let t = container name flags content named in (
        refl,
        stand_append t (places_from 0 content) (places_by_key named) (elements_stand t 0 content (λ k j e. ap (λ n. nth n content) (omega (arith, e))) two.0)
            (keyed_stand t named (λ m some. refl) two.1),
      )

  elements_stand : (t : StoryTree) (i : ℕ) (ts : Trees) → ((k j : ℕ) → k ≡ i + j → down (Index k) t ≡ nth j ts) → keys_rise_in ts ≡ true → Stand t (places_from i ts)
  elements_stand t i no_trees each h = tt
  elements_stand t i (tree u us) each h =
      let two = and_parts (keys_rise u) (keys_rise_in us) h in
      stand_append t (map (λ p. Index i ∷ p) (places u)) (places_from (i + 1) us)
      (stand_under t u (Index i) (each i 0 (omega arith)) (places u) (places_stand u two.0))
      (elements_stand t (i + 1) us (λ k j e. each k (suc j) (omega (arith, e))) two.1)

  keyed_stand : (t : StoryTree) (ks : Keyed) → ((m : List ℕ) → is_some (by_key m ks) ≡ true → down (Name m) t ≡ by_key m ks) → keys_rise_by_key ks ≡ true → Stand t (places_by_key ks)
  keyed_stand t no_keys each h = tt
  keyed_stand t (key k u us) each h =
      let two = and_parts (is_below k us) (keys_rise u && keys_rise_by_key us) h in
      let rest = and_parts (keys_rise u) (keys_rise_by_key us) two.1 in
      stand_append t (map (λ p. Name k ∷ p) (places u)) (places_by_key us)
      (stand_under t u (Name k) (each k (ap is_some (at_its_key k u us)) ∙ at_its_key k u us) (places u) (places_stand u rest.0))
      (keyed_stand t us (λ m some. let on = further m k u us two.0 some in each m (ap is_some on ∙ some) ∙ on) rest.1)

-- ---- nodes

stand_at : (t : StoryTree) (ps : List (List Part)) (i : ℕ) → Stand t ps → is_some (at t (unwrap_or (slice_get ps i) [])) ≡ true
stand_at t [] i h = refl
stand_at t (p ∷ ps) zero h = h.0
stand_at t (p ∷ ps) (suc i) h = stand_at t ps i h.1

pub node_stands : (s : StoryTree) (n : NodeId) → keys_rise s ≡ true → is_some (at s (node_place s n)) ≡ true
node_stands s n h = stand_at s (places s) n.number (places_stand s h)
