-- The containers that a landing enters, one further up.
use Rattle.std.proofs.Common.{◌≡◌, ◌∙◌, ap, sym, refl, List, [], ◌∷◌, ◌++◌, map, reverse, true, false, true≢false, Option, Some, None, is_some, append_assoc}
use Rattle.ink_tree.proofs.Common.{map-append, entered_above, entered_around, entered_places, StoryTree, at, Part, node_place, IsNode, AreNodes, NodeId}

abbrev Places : Type 0
Places = List (List Part)

module _ (s : StoryTree) (o : Option (List Part)) where
  around_some : (n : List Part) (t : Option StoryTree) → is_some t ≡ true → entered_above s o true (reverse n) ≡ entered_around t s o n
  around_some n None e = absurd (true≢false (sym e))
  around_some n (Some t) e = refl

  around_none : (n : List Part) (t : Option StoryTree) → is_some t ≡ false → [] ≡ entered_around t s o n
  around_none n None e = refl
  around_none n (Some t) e = absurd (true≢false e)

  -- where content stands all that is around it is looked at, and elsewhere nothing is
  pub entered_from : (n : List Part) → is_some (at s n) ≡ true → entered_above s o true (reverse n) ≡ entered_places s o n
  unfolding entered_places
  entered_from n h = around_some n (at s n) h

  pub entered_nowhere : (n : List Part) → is_some (at s n) ≡ false → [] ≡ entered_places s o n
  unfolding entered_places
  entered_nowhere n h = around_none n (at s n) h

-- one container more
one_more : (s : StoryTree) (ns : List NodeId) (n : NodeId) (up : List Part) (rest : Places) → node_place s n ≡ up
    → map (node_place s) (ns ++ n ∷ []) ++ rest ≡ map (node_place s) ns ++ up ∷ rest
one_more s ns n up rest e =
    ap (λ ps. ps ++ rest) (map-append (node_place s) ns (n ∷ [])) ∙ append_assoc (map (node_place s) ns) (node_place s n ∷ []) rest
    ∙ ap (λ p. map (node_place s) ns ++ p ∷ rest) e

pub nodes_more : (s : StoryTree) (ns : List NodeId) (n : NodeId) → AreNodes s ns → IsNode s n → AreNodes s (ns ++ n ∷ [])
nodes_more s [] n h k = (k, tt)
nodes_more s (m ∷ ns) n h k = (h.0, nodes_more s ns n h.1 k)

pub entered_more : (s : StoryTree) (ns more : List NodeId) (n : NodeId) (up : List Part) (before after all : Places) → node_place s n ≡ up
    → more ≡ ns ++ n ∷ [] → before ≡ up ∷ after → map (node_place s) ns ++ before ≡ all → map (node_place s) more ++ after ≡ all
entered_more s ns more n up before after all is e b h =
    ap (λ ms. map (node_place s) ms ++ after) e ∙ one_more s ns n up after is ∙ ap (λ ps. map (node_place s) ns ++ ps) (sym b) ∙ h
