-- Where no container around has flags, entering them counts nothing.
use Rattle.std.proofs.Common.{◌≡◌, ◌∙◌, ℕ, ap, arith, sym, refl, List, [], ◌∷◌, ◌++◌, reverse, Bool, true, false, true≢false, not, ◌&&◌, ◌||◌, if◌then◌else◌, nat_lt, Option, Some, None}
use Rattle.ink_tree.proofs.Common.{nat_tests, append-nil, reverse-append, reverse-reverse, entered_above, entered_around, entered_places, flags_at, is_first, listed_if, starts_only, was_inside, StoryTree, at, Part, Index, flagged_above, index_part, node_place, place_of}
use Rattle.ink_model.specs.Variables.Counts.{CountsOf, visited}
use Rattle.ink_model.specs.Variables.Rows.{place_order}
use Rattle.ink_model.specs.Run.Visits.{all_visited}
use Rattle.ink_tree.specs.declared.spot.Spot.{Spot}

module _ (s : StoryTree) where
  -- one container further up
  pub flagged_one : (p up : List Part) (x : Part) → p ≡ up ++ x ∷ [] → (nat_lt 0 (flags_at (at s up)) || flagged_above s (reverse up)) ≡ flagged_above s (reverse p)
  flagged_one p up x is =
      sym (ap (λ q. nat_lt 0 (flags_at (at s q)) || flagged_above s (reverse up)) (reverse-reverse up))
      ∙ ap (flagged_above s) (sym (ap reverse is ∙ reverse-append up (x ∷ [])))

  -- under what has no flags itself
  pub under_unflagged : (p up : List Part) (x : Part) → p ≡ up ++ x ∷ [] → nat_lt 0 (flags_at (at s up)) ≡ false → flagged_above s (reverse up) ≡ flagged_above s (reverse p)
  under_unflagged p up x is h = ap (λ own. own || flagged_above s (reverse up)) (sym h) ∙ flagged_one p up x is

  pub under_index : (x : Spot) (i : ℕ) → x.index ≡ Some i → nat_lt 0 (flags_at (at s (node_place s x.holder))) ≡ false
      → flagged_above s (reverse (node_place s x.holder)) ≡ flagged_above s (reverse (place_of s x))
  under_index x i is h = under_unflagged (place_of s x) (node_place s x.holder) (Index i) (ap (λ o. node_place s x.holder ++ index_part o) is) h

  pub under_itself : (x : Spot) → x.index ≡ None → flagged_above s (reverse (node_place s x.holder)) ≡ flagged_above s (reverse (place_of s x))
  under_itself x is = ap (λ p. flagged_above s (reverse p)) (sym (append-nil (node_place s x.holder)) ∙ ap (λ o. node_place s x.holder ++ index_part o) (sym is))

  module _ (o : Option (List Part)) (turn : ℕ) (c : CountsOf (List Part)) where
    -- what has no flags counts nothing
    unflagged : (p : List Part) (flags : ℕ) → nat_lt 0 flags ≡ false → visited place_order p flags true turn c ≡ c
    unflagged p flags h = let none : flags ≡ 0 = grind (arith, nat_tests) in ap (λ n. visited place_order p n true turn c) none

    neither : (a b : Bool) → (a || b) ≡ false → (a ≡ false) × (b ≡ false)
    neither true b h = absurd (true≢false h)
    neither false b h = (refl, h)

    none_one : (barred listed : Bool) (p : List Part) (rest : List (List Part)) → nat_lt 0 (flags_at (at s p)) ≡ false → all_visited s turn rest c ≡ c
        → all_visited s turn (if barred then [] else listed_if listed p rest) c ≡ c
    none_one true listed p rest h e = refl
    none_one false true p rest h e = ap (all_visited s turn rest) (unflagged p (flags_at (at s p)) h) ∙ e
    none_one false false p rest h e = e

    pub none_above : (b : Bool) (up : List Part) → flagged_above s up ≡ false → all_visited s turn (entered_above s o b up) c ≡ c
    none_above b [] h = refl
    none_above b (x ∷ up) h =
        let p = reverse up in
        let own = neither (nat_lt 0 (flags_at (at s p))) (flagged_above s up) h in
        none_one (was_inside p o && not (starts_only s p)) (not (starts_only s p) || (b && is_first x)) p (entered_above s o (b && is_first x) up) own.0
        (none_above (b && is_first x) up own.1)

    pub none_around : (t : Option StoryTree) (p : List Part) → flagged_above s (reverse p) ≡ false → all_visited s turn (entered_around t s o p) c ≡ c
    none_around None p h = refl
    none_around (Some t) p h = none_above true (reverse p) h

    pub none_entered : (p : List Part) → flagged_above s (reverse p) ≡ false → all_visited s turn (entered_places s o p) c ≡ c
    unfolding entered_places
    none_entered p h = none_around (at s p) p h
