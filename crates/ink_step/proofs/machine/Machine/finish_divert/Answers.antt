use Rattle.ink_step.proofs.Common.{story_tree, pressed}
use Rattle.ink_step.proofs.Finished.{landed}
use Rattle.ink_step.proofs.Owned.{own_same}
use Rattle.ink_step.proofs.machine.Machine.finish_divert.Goals as goal

pub returns-clause-ends : goal.returns-clause-ends
returns-clause-ends c old asking e performs keeps offers safely counted turned same stores =
    let s = story_tree c.args.story.now in
    let new = c.go_to.new.self in
    landed s old c.args.self.now new safely counted turned same c.go_to.ensures.globals (pressed s new) asking e c.go_to.result keeps offers c.args.to performs c.go_to.ensures.ends

pub returns-clause-own : goal.returns-clause-own
returns-clause-own c = own_same 1 _ _ c.go_to.ensures.own
