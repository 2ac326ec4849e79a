use Rattle.std.proofs.Common.{◌≡◌, ◌∙◌, ◌++◌, List, None, MatchOption, Option, Some, ap, subst, sym}
use Rattle.std.proofs.lemmas.List.{append-nil}
use Rattle.ink_effects.proofs.Common.{story_tree, StoryTree, at, Part, node_place, place_of}
use Rattle.ink_tree.specs.Nodes.{Finds, index_part}
use Rattle.ink_tree.specs.declared.spot.NodeId.{NodeId}
use Rattle.ink_effects.proofs.diverts.node_at.Goals as goal

pub returns-in-None : goal.returns-in-None
returns-in-None c =
    let own = node_place (story_tree c.args.story.now) c.args.here.holder in
    sym (ap (λ i. own ++ index_part i) c.in-None.is ∙ append-nil own)

found : (s : StoryTree) (p : List Part) (o : Option NodeId) → Finds s p o → MatchOption o (at s p ≡ None) (λ n. node_place s n ≡ p)
found s p None h = h
found s p (Some n) h = h.1

pub returns-in-Some : goal.returns-in-Some
returns-in-Some c =
    let s = story_tree c.args.story.now in
    let here = c.args.here in
    found s (place_of s here) c.node.result (subst (λ t. Finds t (place_of t here) c.node.result) c.tree.ensures.tree c.node.ensures)
