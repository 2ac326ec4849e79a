use Rattle.std.proofs.Common.{◌≡◌, ◌∙◌, ap, sym, is_some, true, reverse}
use Rattle.ink_tree.proofs.Common.{entered_above, at, story_tree, node_place, place_of}
use Rattle.ink_tree.proofs.Entering.{entered_from, entered_nowhere}
use Rattle.ink_tree.proofs.Nodes.{node_stands}
use Rattle.ink_tree.proofs.Standing.{root_place}
use Rattle.ink_tree.proofs.tree.Tree.upward.Goals as goal

pub returns-in-Some : goal.returns-in-Some
returns-in-Some c = λ o.
    let s = story_tree c.args.self.now in
    let stands : is_some (at s (node_place s c.in-Some.node)) ≡ true = node_stands s c.in-Some.node c.args.self.now.rising in
    ap (λ p. entered_above s o true (reverse p)) c.in-Some.ensures.1
    ∙ entered_from s o (place_of s c.args.at) (ap (λ p. is_some (at s p)) (sym c.in-Some.ensures.1) ∙ stands)

pub returns-in-None : goal.returns-in-None
returns-in-None c = λ o.
    let s = story_tree c.args.self.now in
    ap (λ p. entered_above s o true (reverse p)) (root_place s) ∙ entered_nowhere s o (place_of s c.args.at) (ap is_some c.in-None.ensures)
