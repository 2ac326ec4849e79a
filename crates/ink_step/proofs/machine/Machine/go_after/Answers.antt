use Rattle.ink_step.proofs.Common.{story_tree, following, move, config_of}
use Rattle.ink_moves.specs.declared.flow.StepEnd.TheVariants as ends
use Rattle.ink_step.proofs.Finished.{finished}
use Rattle.ink_step.proofs.Follows.{ends_any}
use Rattle.ink_step.proofs.Owned.{own_same}
use Rattle.ink_step.proofs.machine.Machine.go_after.Goals as goal

pub returns-clause-ends : goal.returns-clause-ends
returns-clause-ends c old asking e performs keeps offers safely counted turned same stores =
    let s = story_tree c.args.story.now in
    let new = c.go_to_next.new.self in
    ends_any _ _ (following s (move s e (config_of s old))) old.shared.globals.rows (config_of s new) ends.Went
    (finished s old c.args.self.now new safely counted turned same c.go_to_next.ensures.globals asking e performs keeps offers c.go_to_next.ensures.ends)

pub returns-clause-own : goal.returns-clause-own
returns-clause-own c = own_same 1 _ _ c.go_to_next.ensures.own
