-- The indexes in places of a story that fits have 32 bits.
use Rattle.std.proofs.Common.{◌≡◌, ◌∙◌, ap, sym, refl, subst, arith, ℕ, zero, suc, ◌<◌, ◌^◌, List, [], ◌∷◌, ◌++◌, reverse, true, true≢false, nat_eq, Option, Some, None, is_some, option_and_then, inl, inr}
use Rattle.ink_sound.proofs.Common.{and_parts, cases_Bool, nat_tests, Part, Index, Name, StoryFits, PlaceFits, Each}
use Rattle.std.proofs.lemmas.List.{append_assoc, reverse-append, reverse-reverse}
use Rattle.ink_model.specs.Story.Path.{ends_at, is_container, is_place}
use Rattle.ink_model.specs.Story.Tree.{StoryTree, container, Trees, no_trees, tree, at, count, nth, width}
use Rattle.ink_sound.proofs.Places.{Stands, at_append, stands_before}
use Rattle.ink_sound.proofs.Values.{each_one}

abbrev pub PartNarrow : Part → Type 0
PartNarrow (Index i) = i < 2 ^ 32
PartNarrow (Name n) = Unit {0}

nth_within : (i : ℕ) (ts : Trees) → is_some (option_and_then (λ u. Some u) (nth i ts)) ≡ true → i < count ts
nth_within i no_trees h = absurd (true≢false (sym h))
nth_within zero (tree t ts) h = omega arith
nth_within (suc i) (tree t ts) h = omega (arith, nth_within i ts h)

within : (i : ℕ) (o : Option StoryTree) → is_some (option_and_then (λ t. at t (Index i ∷ [])) o) ≡ true → i < width o
within i (Some (container name flags content named)) h = nth_within i content h
within i o h = absurd cc

container_stands : (o : Option StoryTree) → is_container o ≡ true → is_some o ≡ true
container_stands None h = h
container_stands (Some t) h = refl

module _ (s : StoryTree) (story : StoryFits s) where
  part_narrow : (q : List Part) (x : Part) → Stands s (q ++ x ∷ []) → PartNarrow x
  part_narrow q (Index i) h = omega (arith, story.narrow q, within i (at s q) (sym (ap is_some (at_append q (Index i ∷ []) s)) ∙ h))
  part_narrow q (Name n) h = tt

  parts_narrow : (q r : List Part) → Stands s (q ++ r) → Each PartNarrow r
  parts_narrow q [] h = tt
  parts_narrow q (x ∷ r) h =
      let further : Stands s ((q ++ x ∷ []) ++ r) = subst (Stands s) (sym (append_assoc q (x ∷ []) r)) h in
      (part_narrow q x (stands_before s (q ++ x ∷ []) r further), parts_narrow (q ++ x ∷ []) r further)

  end_narrow : (up : List Part) → ends_at s up ≡ true → Each PartNarrow (reverse up)
  end_narrow [] h = tt
  end_narrow (Name n ∷ up) h = absurd (true≢false (sym h))
  end_narrow (Index i ∷ up) h =
      let parts = and_parts (is_container (at s (reverse up))) (nat_eq i (width (at s (reverse up)))) h in
      let above : Each PartNarrow (reverse up) = parts_narrow [] (reverse up) (container_stands (at s (reverse up)) parts.0) in
      let small : i < 2 ^ 32 = grind (arith, nat_tests, parts.1, story.narrow (reverse up)) in
      subst (Each PartNarrow) (sym (reverse-append (Index i ∷ []) up)) (each_one PartNarrow (reverse up) (Index i) above small)

  pub place_narrow : (p : List Part) → PlaceFits s p → Each PartNarrow p
  unfolding is_place
  place_narrow p h = elim (cases_Bool (is_some (at s p))) [ inl e ↦ parts_narrow [] p e | inr e ↦ subst (Each PartNarrow) (reverse-reverse p) (end_narrow (reverse p) (rw e at h)) ]
