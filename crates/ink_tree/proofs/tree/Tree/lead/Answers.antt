use Rattle.std.proofs.Common.{◌≡◌, ◌∙◌, ap, cond, []}
use Rattle.ink_tree.proofs.Common.{story_tree, node_place}
use Rattle.ink_tree.proofs.Leads.{path_leads}
use Rattle.ink_tree.proofs.Standing.{root_place}
use Rattle.ink_tree.proofs.tree.Tree.lead.Goals as goal
use Rattle.ink_tree.proofs.tree.Tree.lead.Goals.{then-relative, else-relative}

pub returns : goal.returns
returns c =
    let s = story_tree c.args.self.now in
    let start : node_place s c.if-relative.start ≡ cond c.of-relative.result.0 (node_place s c.args.from) [] =
    elim c.if-relative.branch [
      | then-relative w ↦ rw w.if-relative.true (ap (node_place s) w.start-is)
      | else-relative w ↦ rw w.if-relative.false (ap (node_place s) w.start-is ∙ root_place s)
    ] in
    path_leads s (node_place s c.args.from) _ c.args.text.now c.of-relative.result.0 c.of-relative.result.1 c.follow.result c.of-relative.ensures.reads start c.follow.ensures
