-- Contents one part down, and the numbers of those that stand there.
use Rattle.std.proofs.Common.{◌≡◌, ◌∙◌, ap, sym, refl, ℕ, zero, suc, ◌+◌, ◌<◌, ◌≤◌, List, [], ◌∷◌, ◌++◌, length, take, drop, get_or, slice_get, true, Option, Some, None, is_some, option_map, option_and_then, arith, false, nat_lt}
use Rattle.ink_tree.proofs.Common.{nat_tests, length-append, take_more, take-append-drop, key_part, keys_rise, Node, places, StoryTree, at, width, Part, Index, LeadsTo, KeepsContent, node_place, Finds, IsNode, NodeId}
use Rattle.ink_json.specs.declared.key.Key.{Key}
use Rattle.ink_tree.proofs.Absent.{one_node}
use Rattle.ink_tree.proofs.Kept.{led_by, led_by_none}
use Rattle.ink_tree.proofs.Standing.{at_append, index_there}

-- ---- parts

pub last_same : (p q : List Part) (x y : Part) → p ++ x ∷ [] ≡ q ++ y ∷ [] → (p ≡ q) × (x ≡ y)
last_same [] [] x y e = let same : x ≡ y = cc in (refl, same)
last_same [] (b ∷ q) x y e = absurd (omega (arith, ap length e, length-append q (y ∷ [])))
last_same (a ∷ p) [] x y e = absurd (omega (arith, ap length e, length-append p (x ∷ [])))
last_same (a ∷ p) (b ∷ q) x y e =
    let rest : p ++ x ∷ [] ≡ q ++ y ∷ [] = cc in
    let first : a ≡ b = cc in
    let same = last_same p q x y rest in
    ((λ i. first i ∷ same.0 i), same.1)

pub not_root : (p q : List Part) (x : Part) → p ≡ q ++ x ∷ [] → p ≡ [] → ⊥
not_root p q x is none = omega (arith, ap length (sym is ∙ none), length-append q (x ∷ []))

-- ---- the node of a number

pub none_there : {X : Type 0} (xs : List X) (i : ℕ) → None ≡ slice_get xs i → length xs ≤ i
none_there [] i e = omega arith
none_there (x ∷ xs) zero e = absurd cc
none_there (x ∷ xs) (suc i) e = omega (arith, none_there xs i e)

module _ (s : StoryTree) (m : ℕ) (n : Node) (own : NodeId) (q : List Part) (is : node_place s own ≡ q) (keeps : KeepsContent s (node_place s (record { number = m })) n) where
  -- the root stands under nothing
  under_none : (y : Part) → n.last ≡ None → node_place s (record { number = m }) ≡ q ++ y ∷ [] → ⊥
  under_none y last e =
      absurd (omega (arith, ap length (sym (led_by_none s (node_place s (record { number = m })) n keeps last) ∙ e), length-append q (y ∷ [])))

  -- it stands under the content around it
  pub leads : (k : Option Key) → option_map key_part k ≡ n.last → n.holder ≡ own.number → m < length (places s) → LeadsTo s q m k
  leads None last same within = λ x _. under_none x (sym last)
  leads (Some k) last same within = (
    within,
    led_by s (node_place s (record { number = m })) n keeps (key_part k) (sym last) ∙ (λ i. (ap (λ j. node_place s (record { number = j })) same ∙ is) i ++ key_part k ∷ []),
  )

  under_other : (o : Option Part) (y : Part) → keys_rise s ≡ true → IsNode s own → o ≡ n.last → (n.holder ≡ own.number → ⊥) → node_place s (record { number = m }) ≡ q ++ y ∷ [] → ⊥
  under_other None y rise node last other e = under_none y (sym last) e
  under_other (Some x) y rise node last other e =
      other (one_node s (record { number = n.holder }) own rise keeps.0 node
      ((last_same (node_place s (record { number = n.holder })) q x y (sym (led_by s (node_place s (record { number = m })) n keeps x (sym last)) ∙ e)).0 ∙ sym is))

  -- and under no other
  pub leads_not : keys_rise s ≡ true → IsNode s own → (n.holder ≡ own.number → ⊥) → LeadsTo s q m None
  leads_not rise node other = λ y _. under_other n.last y rise node refl other

-- ---- one part down, at a key

module _ (s : StoryTree) (q : List Part) (m : ℕ) (k : Key) (leads : LeadsTo s q m (Some k)) where
  pub stands_at : (y : Part) → key_part k ≡ y → Finds s (q ++ y ∷ []) (Some (record { number = m }))
  stands_at y same = (leads.0, leads.1 ∙ ap (λ x. q ++ x ∷ []) same)

  pub stands_not_at : (y : Part) → (key_part k ≡ y → ⊥) → node_place s (record { number = m }) ≡ q ++ y ∷ [] → ⊥
  stands_not_at y other e = other (last_same q q (key_part k) y (sym leads.1 ∙ e)).1

-- ---- where nothing stands

none_or : (o : Option StoryTree) → is_some o ≡ false → o ≡ None
none_or None h = refl
none_or (Some t) h = absurd cc

pub past_width : (s : StoryTree) (p : List Part) (i : ℕ) → width (at s p) ≤ i → at s (p ++ Index i ∷ []) ≡ None
past_width s p i past =
    let no : nat_lt i (width (at s p)) ≡ false = grind (arith, nat_tests) in none_or (at s (p ++ Index i ∷ [])) (index_there s p i ∙ no)

pub none_beyond : (s : StoryTree) (p q : List Part) → at s p ≡ None → at s (p ++ q) ≡ None
none_beyond s p q none = at_append p q s ∙ ap (option_and_then (λ t. at t q)) none

-- where nothing stands at some of the parts, nothing stands at all of them
pub missing_before : (s : StoryTree) (ps : List Part) (i : ℕ) (p : List Part) (x y : Part) → i < length ps → y ≡ get_or ps i y → p ≡ take i ps → x ≡ y → at s (p ++ x ∷ []) ≡ None
    → at s ps ≡ None
missing_before s ps i p x y within is front part none =
    let some : p ++ x ∷ [] ≡ take (i + 1) ps = (λ j. front j ++ (part ∙ is) j ∷ []) ∙ sym (take_more ps i y within) in
    ap (at s) (sym (take-append-drop (i + 1) ps) ∙ ap (λ l. l ++ drop (i + 1) ps) (sym some)) ∙ none_beyond s (p ++ x ∷ []) (drop (i + 1) ps) none
