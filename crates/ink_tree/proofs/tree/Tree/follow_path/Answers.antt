use Rattle.std.proofs.Common.{◌≡◌, ◌∙◌, ap, [], cond}
use Rattle.ink_tree.proofs.Common.{target, walked, story_tree, node_place}
use Rattle.ink_tree.proofs.Standing.{root_place}
use Rattle.ink_tree.proofs.tree.Tree.follow_path.Goals as goal
use Rattle.ink_tree.proofs.tree.Tree.follow_path.Goals.{then-path, else-path}

pub returns : goal.returns
unfolding target
returns c =
    let s = story_tree c.args.self.now in
    let start : node_place s c.if-path.start ≡ cond c.args.path.now.relative (node_place s c.args.from) [] =
    elim c.if-path.branch [
      | then-path w ↦ rw w.if-path.true (ap (node_place s) w.start-is)
      | else-path w ↦ rw w.if-path.false (ap (node_place s) w.start-is ∙ root_place s)
    ] in
    c.walk.ensures ∙ ap (walked s (node_place s c.if-path.start)) c.as_slice.ensures ∙ ap (λ p. walked s p c.args.path.now.parts) start
