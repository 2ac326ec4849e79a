use Rattle.ink_check.specs.Standing as accepted
use Rattle.ink_page.proofs.Asking.{answered-more, answered-past, asks-all}
use Rattle.ink_page.proofs.asked.ask_for_the_rest.Goals.{in-Some+in_ok-ask_for, in_default}
use Rattle.ink_page.proofs.asked.ask_for_the_rest.Goals as goal

pub loop-number-preserved : goal.loop-number-preserved
loop-number-preserved g c =
    let s = accepted.story_tree c.args.story.now in
    elim c.match-called.branch [
      | in-Some+in_ok-ask_for w ↦
          let asked = rw c.tree-tree.ensures.tree at w.in_ok-ask_for.ensures in record {
            asks = rw w.desk-is (asks-all c.args.look s c.args.desk.now c.loop-number.desk w.ask_for.new.desk c.loop-number.invariant.asks asked.asks);
            answered = rw w.desk-is (answered-more c.args.look s c.loop-number.number w.in-Some.name.now c.loop-number.desk w.ask_for.new.desk (rw c.tree-tree.ensures.tree at w.in-Some.ensures) asked.asks asked.answered c.loop-number.invariant.answered);
          }
      | in_default w ↦ record {
        asks = rw w.desk-is c.loop-number.invariant.asks;
        answered = answered-past c.args.look s c.loop-number.number c.loop-number.desk c.match-called.desk (rw c.tree-tree.ensures.tree at w.in_default.ensures) w.desk-is c.loop-number.invariant.answered;
      }
    ]
