-- Which places are places of a story, given by their last part.
use Rattle.std.proofs.Common.{◌≡◌, ℕ, List, [], ◌∷◌, ◌++◌, length, Bool, true, false, ◌&&◌, ◌||◌, nat_eq, nat_le, cond, Option, Some, None, is_some, option_and_then, refl, sym, ap, ◌∙◌, arith, nat_lt, inl, inr}
use Rattle.std.proofs.Math.Bool.{or-false}
use Rattle.ink_tree.proofs.Common.{cases_lt, nat_tests, reverse-append, reverse-reverse, is_place, is_container, ends_at, StoryTree, leaf, container, at, width, count, Part, Index, Name, reaches_in, place_of, node_place, NodeId}
use Rattle.ink_tree.proofs.Kept.{on_node}
use Rattle.ink_tree.proofs.Standing.{at_append, in_stands}
use Rattle.ink_tree.specs.declared.spot.Spot.{Spot}

-- ---- by an index

or_end : (b : Bool) (i n : ℕ) → b ≡ nat_lt i n → (b || nat_eq i n) ≡ nat_le i n
or_end true i n h = grind (arith, nat_tests, h)
or_end false i n h =
    elim (cases_lt n i) [
      | inl past ↦
          let other : nat_eq i n ≡ false = grind (arith, nat_tests) in
          let over : nat_le i n ≡ false = grind (arith, nat_tests) in
          other ∙ sym over
      | inr low ↦
          let same : nat_eq i n ≡ true = grind (arith, nat_tests, h) in
          let up_to : nat_le i n ≡ true = grind (arith, nat_tests) in
          same ∙ sym up_to
    ]

reached : (o : Option StoryTree) (i : ℕ) → (is_some (option_and_then (λ u. at u (Index i ∷ [])) o) || (is_container o && nat_eq i (width o))) ≡ reaches_in o i
reached None i = refl
reached (Some (leaf l)) i = refl
reached (Some (container name flags content named)) i = or_end _ i (count content) (in_stands i (Some (container name flags content named)))

place_by_index : (s : StoryTree) (up : List Part) (i : ℕ) → is_place s (up ++ Index i ∷ []) ≡ reaches_in (at s up) i
unfolding is_place
place_by_index s up i =
    (λ j. is_some (at_append up (Index i ∷ []) s j) || ends_at s (reverse-append up (Index i ∷ []) j))
    ∙ ap (λ o. is_some (option_and_then (λ u. at u (Index i ∷ [])) (at s up)) || (is_container o && nat_eq i (width o))) (ap (at s) (reverse-reverse up))
    ∙ reached (at s up) i

abbrev chosen : Bool → List Part → Option (List Part)
chosen b p = cond b (Some p) None

module _ (s : StoryTree) (up : List Part) (i : ℕ) where
  pub nowhere : at s up ≡ None → None ≡ chosen (is_place s (up ++ Index i ∷ [])) (up ++ Index i ∷ [])
  nowhere none = ap (λ b. chosen b (up ++ Index i ∷ [])) (sym (place_by_index s up i ∙ ap (λ o. reaches_in o i) none))

  pub beyond : reaches_in (at s up) i ≡ false → None ≡ chosen (is_place s (up ++ Index i ∷ [])) (up ++ Index i ∷ [])
  beyond h = ap (λ b. chosen b (up ++ Index i ∷ [])) (sym (place_by_index s up i ∙ h))

  pub within : (n : NodeId) → reaches_in (at s up) i ≡ true → node_place s n ≡ up
      → Some (place_of s (record { holder = n; index = Some i })) ≡ chosen (is_place s (up ++ Index i ∷ [])) (up ++ Index i ∷ [])
  within n h is = ap (λ p. Some (p ++ Index i ∷ [])) is ∙ ap (λ b. chosen b (up ++ Index i ∷ [])) (sym (place_by_index s up i ∙ h))

-- ---- otherwise

place_by_name : (s : StoryTree) (up : List Part) (n : List ℕ) → is_some (at s (up ++ Name n ∷ [])) ≡ is_place s (up ++ Name n ∷ [])
unfolding is_place
place_by_name s up n = sym (ap (λ q. is_some (at s (up ++ Name n ∷ [])) || ends_at s q) (reverse-append up (Name n ∷ [])) ∙ or-false _)

pub named_last : (s : StoryTree) (p up : List Part) (q : Part) (n : List ℕ) → p ≡ up ++ q ∷ [] → q ≡ Name n → is_some (at s p) ≡ is_place s p
named_last s p up q n is named =
    let whole : p ≡ up ++ Name n ∷ [] = is ∙ ap (λ r. up ++ r ∷ []) named in
    ap (λ r. is_some (at s r)) whole ∙ place_by_name s up n ∙ ap (is_place s) (sym whole)

pub no_last : (s : StoryTree) (p : List Part) → length p ≡ 0 → is_some (at s p) ≡ is_place s p
unfolding is_place
no_last s [] h = refl
no_last s (q ∷ p) h = absurd (omega arith)

module _ (s : StoryTree) (p : List Part) where
  pub missing : at s p ≡ None → None ≡ chosen (is_some (at s p)) p
  missing none = ap (λ o. chosen (is_some o) p) (sym none)

  pub there : (spot : Spot) (n : NodeId) → spot.holder ≡ n → spot.index ≡ None → node_place s n ≡ p → is_some (at s p) ≡ true → Some (place_of s spot) ≡ chosen (is_some (at s p)) p
  there spot n same none is some = ap Some (on_node s spot n same none ∙ is) ∙ ap (λ b. chosen b p) (sym some)
