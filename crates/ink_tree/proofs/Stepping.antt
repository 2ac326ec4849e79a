-- Steps of a path.
use Rattle.std.proofs.Common.{◌≡◌, ◌∙◌, ap, sym, refl, add-one, cond, drop-cons, drop, get_or, length, suc, ◌+◌, ℕ, ◌<◌, List, [], ◌∷◌, ◌++◌, true, false, Option, Some, None, IfSome, is_some, option_map, option_and_then, arith}
use Rattle.std.proofs.lemmas.List.{nil_from_length}
use Rattle.ink_tree.proofs.Common.{keys_rise, by_name, is_up, listed_index, stepped, target, walked, StoryTree, at, width, Part, Index, Name, node_place, Finds, NodeId}
use Rattle.ink_tree.proofs.Nodes.{node_stands}
use Rattle.ink_model.proofs.Listed.{listed_within}
use Rattle.ink_tree.proofs.Standing.{index_stands, root_place, there, index_there}
use Rattle.ink_model.specs.declared.place.Path.{Path}

module _ (s : StoryTree) (p : List Part) where
  -- by an index
  pub index_found : (i : ℕ) (r : Option NodeId) → keys_rise s ≡ true → Finds s (p ++ Index i ∷ []) r → option_map (node_place s) r ≡ stepped s p (Index i)
  index_found i None rise f = rw (sym (index_there s p i) ∙ ap is_some f) refl
  index_found i (Some n) rise f = ap Some f.1 ∙ rw (sym (index_there s p i) ∙ ap (λ q. is_some (at s q)) (sym f.1) ∙ node_stands s n rise) refl

  -- by a name
  module _ (name : List ℕ) where
    pub key_found : (n : NodeId) → keys_rise s ≡ true → node_place s n ≡ p ++ Name name ∷ [] → Some (node_place s n) ≡ by_name s p name
    key_found n rise is =
        let stands : is_some (at s (p ++ Name name ∷ [])) ≡ true = ap (λ q. is_some (at s q)) (sym is) ∙ node_stands s n rise in
        ap Some is ∙ rw stands refl

    -- a name that leads not up
    pub key_step : (r : Option NodeId) → keys_rise s ≡ true → is_up name ≡ false → IfSome r (λ n. Finds s (p ++ Name name ∷ []) (Some n))
        → IfSome r (λ n. Some (node_place s n) ≡ stepped s p (Name name))
    key_step None rise not_up found = found
    key_step (Some n) rise not_up (within, is) = rw not_up (key_found n rise is)

    module _ (o : Option StoryTree) (e : o ≡ at s p) where
      not_by_key : at s (p ++ Name name ∷ []) ≡ None → by_name s p name ≡ option_map (λ i. p ++ Index i ∷ []) (listed_index name o)
      not_by_key none = rw (ap is_some none) (ap (λ q. option_map (λ i. p ++ Index i ∷ []) (listed_index name q)) (sym e))

      pub named_found : (i : ℕ) (r : Option NodeId) → at s (p ++ Name name ∷ []) ≡ None → listed_index name o ≡ Some i
          → Finds s (p ++ Index i ∷ []) r → option_map (node_place s) r ≡ by_name s p name
      named_found i r h is f =
          let below : i < width (at s p) = omega (arith, listed_within name o i is, ap width e) in
          there s (p ++ Index i ∷ []) r f (index_stands s p i below) ∙ sym (not_by_key h ∙ ap (option_map (λ k. p ++ Index k ∷ [])) is)

-- ---- a component after another

-- with more to come a component is no last one
pub walked_on : (s : StoryTree) (p : List Part) (c : Part) (cs : List Part) (last : Part)
    → walked s p (c ∷ (cs ++ last ∷ [])) ≡ option_and_then (λ q. walked s q (cs ++ last ∷ [])) (stepped s p c)
walked_on s p c [] last = refl
walked_on s p c (d ∷ ds) last = refl

pub walk_on : (s : StoryTree) (p q : List Part) (c last : Part) (cs : List Part) (i : ℕ) (whole : Option (List Part)) → i < length cs
    → c ≡ get_or cs i c → Some q ≡ stepped s p c → walked s p (drop i cs ++ last ∷ []) ≡ whole → walked s q (drop (i + 1) cs ++ last ∷ []) ≡ whole
walk_on s p q c last cs i whole below is step before =
    let rest : drop i cs ≡ c ∷ drop (i + 1) cs = rw (add-one, drop-cons cs i c) (ap (λ x. x ∷ drop (suc i) cs) (sym is)) in
    ap (option_and_then (λ r. walked s r (drop (i + 1) cs ++ last ∷ []))) step ∙ sym (walked_on s p c (drop (i + 1) cs) last)
    ∙ ap (λ r. walked s p (r ++ last ∷ [])) (sym rest) ∙ before

-- ---- one name alone

-- where the only component of a path leads from the root
pub leads_to_knot : (s : StoryTree) (path : Path) (ps others : List Part) (last : Part) (name : List ℕ) (r : Option NodeId)
    → ps ≡ path.parts → ps ≡ others ++ last ∷ [] → last ≡ Name name → length others ≡ 0 → path.relative ≡ false
    → IfSome r (λ n. Some (node_place s n) ≡ stepped s (node_place s (record { number = 0 })) (Name name))
    → IfSome r (λ n. (from : List Part) → Some (node_place s n) ≡ target s from path)
unfolding target
leads_to_knot s path ps others last name None same ends is none absolute leads = leads
leads_to_knot s path ps others last name (Some n) same ends is none absolute leads = λ from.
    let alone : path.parts ≡ Name name ∷ [] = sym same ∙ ends ∙ ap (λ q. q ++ last ∷ []) (nil_from_length others none) ∙ ap (λ x. x ∷ []) is in
    leads ∙ ap (λ p. stepped s p (Name name)) (root_place s) ∙ sym (ap (λ b. walked s (cond b from []) path.parts) absolute ∙ ap (walked s []) alone)
