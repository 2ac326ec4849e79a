use Rattle.std.proofs.Common.{refl}
use Rattle.ink_tree.proofs.Common.{story_tree}
use Rattle.ink_tree.proofs.Entering.{entered_more, nodes_more}
use Rattle.ink_tree.proofs.tree.Tree.entered.Goals as goal

pub loop-next-preserved : goal.loop-next-preserved
loop-next-preserved c =
    let s = story_tree c.args.self.now in
    let is = c.in_ok-push.ensures.ok in
    record {
      all = entered_more s c.loop-next.entered.items c.push.new.self.items c.in-Some.next.node _ _ _ _ refl is c.in-Some.ensures.1 c.loop-next.invariant.all;
      nodes = rw is (nodes_more s c.loop-next.entered.items c.in-Some.next.node c.loop-next.invariant.nodes c.in-Some.ensures.0);
    }
