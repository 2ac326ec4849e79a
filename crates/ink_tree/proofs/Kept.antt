-- What is kept of contents, and what is read of it.
use Rattle.std.proofs.Common.{◌≡◌, ◌∙◌, ap, sym, refl, subst, ℕ, zero, suc, ◌+◌, ◌<◌, ◌≤◌, List, [], ◌∷◌, ◌++◌, length, reverse, Bool, true, false, cond, Option, Some, None, option_map, option_and_then, nat_le, nat_lt, ◌&&◌, slice_get, get_or, append_assoc, arith, inl, inr, unwrap_or}
use Rattle.ink_tree.proofs.Common.{nat_tests, append-nil, length-append, length-reverse, cases_lt, cond_some, none-some, same_Some, slice_get_past, slice_get_read, Node, is_around, listed_if, passed_at, passed_places, is_container, content_place, first_content_at, landed, next_place, next_upwards, places, StoryTree, leaf, container, no_trees, tree, at, down, width, Part, Index, Name, AreLinked, KeepsContent, KeepsAll, KeepsAt, Spans, first_inside, way_to, Finds, IsNode, MayBeNode, index_part, node_place, place_of, GoesIn, NodeId}
use Rattle.std.specs.Borrow.{Bor}
use Rattle.ink_tree.specs.Kept.{MayBeLinked}
use Rattle.ink_tree.specs.declared.link.Link.{Link}
use Rattle.ink_tree.specs.declared.spot.Spot.{Spot}
use Rattle.ink_tree.proofs.Further.{below}
use Rattle.ink_tree.proofs.Next.{landed_in, landed_on, next_inside, next_outside}
use Rattle.ink_tree.proofs.Standing.{index_stands, root_place, there}

-- ---- nodes by number

pub some_place : (s : StoryTree) → 0 < length (places s)
some_place (leaf l) = omega arith
some_place (container name flags content named) = omega arith

nowhere : (s : StoryTree) (n : NodeId) → length (places s) ≤ n.number → node_place s n ≡ []
nowhere s n past = ap (λ o. unwrap_or o []) (slice_get_past (places s) n.number past)

-- a number beyond the story's content stands for the root
pub root_for : (s : StoryTree) (n : NodeId) → length (places s) ≤ n.number → Finds s (node_place s n) (Some (record { number = 0 }))
root_for s n past = (some_place s, root_place s ∙ sym (nowhere s n past))

-- ---- the first content by index

module _ (s : StoryTree) (p : List Part) where
  first_at : (q : List Part) → Some q ≡ first_inside s p → (0 < width (at s p)) × (p ++ Index 0 ∷ [] ≡ q)
  first_at q e =
      let (any, same) = cond_some (nat_lt 0 (width (at s p))) (p ++ Index 0 ∷ []) q (sym e) in
      (grind (arith, nat_tests, any), same)

-- what stands one part down from a place has a number of its own
under_is_node : (s : StoryTree) (n : NodeId) (p : List Part) (x : Part) → p ++ x ∷ [] ≡ node_place s n → IsNode s n
under_is_node s n p x e =
    elim (cases_lt n.number (length (places s))) [
      | inl below ↦ below
      | inr past ↦ absurd (omega (arith, sym (length-append p (x ∷ [])), ap length e, ap length (nowhere s n past)))
    ]

pub first_is_node : (s : StoryTree) (p : List Part) (r : Option NodeId) → option_map (node_place s) r ≡ first_inside s p → MayBeNode s r
first_is_node s p None e = tt
first_is_node s p (Some n) e = under_is_node s n p (Index 0) (first_at s p (node_place s n) e).1

no_first : (b : Bool) (n : ℕ) (p : List Part) → nat_lt 0 n ≡ b → None ≡ cond b (Some p) None → n ≤ 0
no_first true n p is e = absurd (none-some p e)
no_first false n p is e = grind (arith, nat_tests, is)

none_first : (s : StoryTree) (p : List Part) → None ≡ first_inside s p → width (at s p) ≤ 0
none_first s p e = no_first (nat_lt 0 (width (at s p))) (width (at s p)) (p ++ Index 0 ∷ []) refl e

-- into a container with content by index the way goes on at the first, and nowhere else
inward : (p : List Part) (o : Option StoryTree) → 0 < width o → (first_content_at o ≡ Index 0 ∷ first_content_at (option_and_then (down (Index 0)) o))
    × (passed_at p o ≡ p ∷ passed_at (p ++ Index 0 ∷ []) (option_and_then (down (Index 0)) o))
inward p None h = absurd (omega arith)
inward p (Some (leaf l)) h = absurd (omega arith)
inward p (Some (container name flags no_trees named)) h = absurd (omega arith)
inward p (Some (container name flags (tree t ts) named)) h = (refl, refl)

no_way_in : (p : List Part) (o : Option StoryTree) → width o ≤ 0 → (first_content_at o ≡ []) × (passed_at p o ≡ listed_if (is_container o) p [])
no_way_in p None h = (refl, refl)
no_way_in p (Some (leaf l)) h = (refl, refl)
no_way_in p (Some (container name flags no_trees named)) h = (refl, refl)
no_way_in p (Some (container name flags (tree t ts) named)) h = absurd (omega arith)

module _ (s : StoryTree) (p q : List Part) (is : Some q ≡ first_inside s p) where
  -- the way on is one part shorter
  pub shorter : first_content_at (at s p) ≡ Index 0 ∷ first_content_at (at s q)
  shorter =
      let (some, same) = first_at s p q is in
      (inward p (at s p) some).0 ∙ ap (λ o. Index 0 ∷ first_content_at o) (below s p (Index 0) (at s p) refl ∙ ap (at s) same)

  pub same_way : content_place s q ≡ content_place s p
  unfolding content_place
  same_way =
      let (some, same) = first_at s p q is in
      ap (λ r. r ++ first_content_at (at s q)) (sym same) ∙ append_assoc p (Index 0 ∷ []) (first_content_at (at s q)) ∙ ap (λ w. p ++ w) (sym shorter)

  pub lands_first : q ≡ landed s p
  lands_first = let (some, same) = first_at s p q is in sym same ∙ landed_in s p some

module _ (s : StoryTree) (p : List Part) (none : None ≡ first_inside s p) where
  pub is_there : p ≡ content_place s p
  unfolding content_place
  is_there = sym (append-nil p) ∙ ap (λ w. p ++ w) (sym (no_way_in p (at s p) (none_first s p none)).0)

  pub lands_there : p ≡ landed s p
  lands_there = landed_on s p (none_first s p none)

-- ---- containers on the way

pub goes_in : (s : StoryTree) (p : List Part) (r : Option NodeId) → option_map (node_place s) r ≡ first_inside s p → GoesIn s p r
unfolding passed_places
goes_in s p None e = (sym (is_there s p e), (no_way_in p (at s p) (none_first s p e)).1)
goes_in s p (Some n) e =
    let (some, same) = first_at s p (node_place s n) e in (
      sym (same_way s p (node_place s n) e),
      (inward p (at s p) some).1 ∙ ap (λ o. p ∷ passed_at (p ++ Index 0 ∷ []) o) (below s p (Index 0) (at s p) refl)
          ∙ ap (λ q. p ∷ passed_at q (at s q)) same,
    )

-- ---- spots

-- the place of a spot that is a node
pub on_node : (s : StoryTree) (x : Spot) (n : NodeId) → x.holder ≡ n → x.index ≡ None → place_of s x ≡ node_place s n
on_node s x n same none = (λ i. node_place s (same i) ++ index_part (none i)) ∙ append-nil (node_place s n)

-- ---- the content after

pub next_found : (s : StoryTree) (up q : List Part) (i : ℕ) (r : Option NodeId) → q ≡ up → i + 1 < width (at s up) → Finds s (q ++ Index (i + 1) ∷ []) r
    → option_map (node_place s) r ≡ next_place s (up ++ Index i ∷ [])
next_found s up q i r same below f =
    there s (up ++ Index (i + 1) ∷ []) r (subst (λ o. Finds s (o ++ Index (i + 1) ∷ []) r) same f) (index_stands s up (i + 1) below) ∙ next_inside s up i below

-- ---- one more

-- what is so of all in a list, and of one more at its end
pub all_more : {A : Type 0} (xs : List A) (x : A) (P : ℕ → A → Type 0) → ((i : ℕ) (y : A) → slice_get xs i ≡ Some y → P i y) → P (length xs) x
    → (i : ℕ) (y : A) → slice_get (xs ++ x ∷ []) i ≡ Some y → P i y
all_more [] x P all here zero y e = subst (P 0) (same_Some x y e) here
all_more [] x P all here (suc i) y e = absurd (none-some y e)
all_more (k ∷ xs) x P all here zero y e = all 0 y e
all_more (k ∷ xs) x P all here (suc i) y e = all_more xs x (λ j. P (suc j)) (λ j. all (suc j)) here i y e

pub may_be_linked : (s : StoryTree) (ls : List Link) (n : ℕ) (o : Option (Bor Link)) → AreLinked s ls → option_map (λ l. l.now) o ≡ slice_get ls n → MayBeLinked s (node_place s (record { number = n })) o
may_be_linked s ls n None linked is = tt
may_be_linked s ls n (Some l) linked is = linked n l.now (sym is)

pub none_linked : (s : StoryTree) → AreLinked s []
none_linked s = λ i l e. absurd (none-some l e)

-- no content comes before the root
module _ (s : StoryTree) where
  comes_later : (b : Bool) (q : List Part) (o : Option (List Part)) → 0 < length q → (o ≡ Some [] → ⊥) → cond b (Some q) o ≡ Some [] → ⊥
  comes_later true q o some rest e = omega (arith, some, ap length (same_Some q [] e))
  comes_later false q o some rest e = rest e

  never_back : (up : List Part) → next_upwards s up ≡ Some [] → ⊥
  never_back [] e = none-some [] e
  never_back (Name n ∷ up) e = none-some [] e
  never_back (Index i ∷ up) e =
      comes_later (nat_lt (i + 1) (width (at s (reverse up)))) (reverse (Index (i + 1) ∷ up)) (next_upwards s up) (omega (arith, length-reverse (Index (i + 1) ∷ up)))
      (never_back up) e

  root_not_after : (p : List Part) (n : NodeId) → Some (node_place s n) ≡ next_place s p → node_place s n ≡ [] → ⊥
  unfolding next_place
  root_not_after p n e root = never_back (reverse p) (sym e ∙ ap Some root)

  pub after_root : (p : List Part) (n : NodeId) → Some (node_place s n) ≡ next_place s p → (0 < n.number) × IsNode s n
  after_root p n e = (
    elim (cases_lt 0 n.number) [
      | inl later ↦ later
      | inr root ↦ let zeroth : n.number ≡ 0 = omega arith in absurd (root_not_after p n e (ap (λ i. node_place s (record { number = i })) zeroth ∙ root_place s))
    ],
    elim (cases_lt n.number (length (places s))) [ inl within ↦ within | inr past ↦ absurd (root_not_after p n e (nowhere s n past)) ],
  )

-- ---- what is kept of a node

module _ (s : StoryTree) (p : List Part) (n : Node) (k : KeepsContent s p n) where
  pub led_by : (x : Part) → n.last ≡ Some x → p ≡ node_place s (record { number = n.holder }) ++ x ∷ []
  led_by x is = sym k.1 ∙ ap (way_to s n.holder) is

  pub led_by_none : n.last ≡ None → p ≡ []
  led_by_none is = sym k.1 ∙ ap (way_to s n.holder) is

module _ (s : StoryTree) (p up : List Part) (x : Part) (i : ℕ) (is : p ≡ up ++ x ∷ []) (part : x ≡ Index i) where
  here : up ++ Index i ∷ [] ≡ p
  here = sym (is ∙ ap (λ y. up ++ y ∷ []) part)

  -- by index: beside it, or behind the last one what follows the container
  pub next_beside : (r : Option NodeId) → i + 1 < width (at s up) → Finds s (up ++ Index (i + 1) ∷ []) r → option_map (node_place s) r ≡ next_place s p
  next_beside r below f = next_found s up up i r refl below f ∙ ap (next_place s) here

  pub next_behind : width (at s up) ≤ i + 1 → next_place s up ≡ next_place s p
  next_behind past = next_outside s up i past ∙ ap (next_place s) here

module _ (s : StoryTree) (ns : List Node) (many : length ns ≡ length (places s)) (all : KeepsAll s ns) where
  pub kept_at : (n : NodeId) (k : Node) → IsNode s n → k ≡ get_or ns n.number k → KeepsAt s n.number k
  kept_at n k is got = all n.number k (slice_get_read ns (length ns) n.number k refl (omega arith) got)

-- a content is around another, by their numbers
pub around_by_number : (s : StoryTree) (p q : List Part) (m n : NodeId) (b : ℕ) (low : Bool) → Finds s p (Some m) → Finds s q (Some n) → Spans s m.number b
    → nat_le m.number n.number ≡ low → (low && nat_lt n.number b) ≡ is_around p q
around_by_number s p q m n b low is_m is_n spans e =
    sym ((λ i. is_around (sym is_m.1 i) (sym is_n.1 i)) ∙ spans n is_n.0 ∙ ap (λ l. l && nat_lt n.number b) e)
