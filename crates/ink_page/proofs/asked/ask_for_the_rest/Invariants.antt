use Rattle.ink_check.specs.Standing as accepted
use Rattle.ink_page.specs.Turns.{AnsweredBelow, AsksMore}
use Rattle.ink_page.proofs.asked.ask_for_the_rest.Given as goal

abbrev pub invariant-loop-number : goal.invariant-loop-number
invariant-loop-number g l = record {
  asks : AsksMore l.look (accepted.story_tree l.story) l.fn.desk l.desk;
  answered : AnsweredBelow (accepted.story_tree l.story) l.number l.desk.functions;
}
