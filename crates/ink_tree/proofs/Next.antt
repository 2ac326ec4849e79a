-- The next place, by the last part of a place.
use Rattle.std.proofs.Common.{◌≡◌, ◌∙◌, ℕ, ◌+◌, ◌<◌, ◌≤◌, ap, refl, List, [], ◌∷◌, ◌++◌, length, reverse, arith, sym, Some, None, true, false, nat_lt}
use Rattle.std.proofs.lemmas.Grind.{reverse_onto}
use Rattle.ink_tree.proofs.Common.{reverse-append, reverse-reverse, nat_tests, StoryTree, at, width, next_upwards, next_place, landed, start_place, Part, Index, Name, node_place}
use Rattle.ink_tree.proofs.Standing.{root_place}

-- ---- landing

module _ (s : StoryTree) (p : List Part) where
  pub landed_in : 0 < width (at s p) → p ++ Index 0 ∷ [] ≡ landed s p
  unfolding landed
  landed_in h = let some : nat_lt 0 (width (at s p)) ≡ true = grind (arith, nat_tests) in rw some refl

  pub landed_on : width (at s p) ≤ 0 → p ≡ landed s p
  unfolding landed
  landed_on h = let none : nat_lt 0 (width (at s p)) ≡ false = grind (arith, nat_tests) in rw none refl

pub starts : (s : StoryTree) (p : List Part) → p ≡ landed s (node_place s (record { number = 0 }) ++ []) → p ≡ start_place s
unfolding landed
starts s p e = e ∙ ap (λ q. landed s (q ++ [])) (root_place s)

-- ---- the place after a place of a container

upwards : (s : StoryTree) (up : List Part) (p : Part) → next_upwards s (reverse (up ++ p ∷ [])) ≡ next_upwards s (p ∷ reverse up)
upwards s up p = ap (next_upwards s) (reverse-append up (p ∷ []))

pub none_after_name : (s : StoryTree) (p up : List Part) (x : Part) (n : List ℕ) → p ≡ up ++ x ∷ [] → x ≡ Name n → None ≡ next_place s p
unfolding next_place
none_after_name s p up x n e is = sym (ap (λ q. next_upwards s (reverse q)) (e ∙ ap (λ y. up ++ y ∷ []) is) ∙ upwards s up (Name n))

pub none_after_root : (s : StoryTree) (p : List Part) → length p ≡ 0 → None ≡ next_place s p
unfolding next_place
none_after_root s [] h = refl
none_after_root s (p ∷ ps) h = absurd (omega arith)

module _ (s : StoryTree) (up : List Part) (i : ℕ) where
  pub next_inside : i + 1 < width (at s up) → Some (up ++ Index (i + 1) ∷ []) ≡ next_place s (up ++ Index i ∷ [])
  unfolding next_place
  next_inside below =
      let h : nat_lt (i + 1) (width (at s up)) ≡ true = grind (arith, nat_tests) in
      sym (upwards s up (Index i)
      ∙ rw (reverse-reverse up, h) (ap Some (reverse_onto (reverse up) (Index (i + 1)) [] ∙ ap (λ xs. xs ++ Index (i + 1) ∷ []) (reverse-reverse up))))

  pub next_outside : width (at s up) ≤ i + 1 → next_place s up ≡ next_place s (up ++ Index i ∷ [])
  unfolding next_place
  next_outside past =
      let h : nat_lt (i + 1) (width (at s up)) ≡ false = grind (arith, nat_tests) in sym (upwards s up (Index i) ∙ rw (reverse-reverse up, h) refl)
