use Rattle.std.proofs.Common.{sym, subst}
use Rattle.ink_tree.proofs.Common.{none-some, AreLinked, AreNamed}
use Rattle.ink_json.specs.Story.{tree}
use Rattle.ink_tree.proofs.Kept.{none_linked}
use Rattle.ink_tree.proofs.tree.Tree.number.Goals as goal

pub invariant_of-bare : goal.invariant_of-bare
invariant_of-bare c =
    let s = tree c.args.raw in
    record {
      few = c.nodes.ensures.few;
      rising = c.nodes.ensures.rising;
      spelled = c.nodes.ensures.spelled;
      linked = subst (AreLinked s) (sym c.new.ensures.items) (none_linked s);
      named = subst (AreNamed s) (sym c.new-2.ensures.items) (λ i l e. absurd (none-some l e));
    }
