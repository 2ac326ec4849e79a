use Rattle.ink_look.proofs.Settling.{passage_is}
use Rattle.ink_look.proofs.passages.passage_of.Goals as goal
use Rattle.ink_step.specs.Standing.{config_of}

pub returns-clause-passage : goal.returns-clause-passage
returns-clause-passage c s =
    passage_is (config_of s c.args.machine.now) c.args.said _ _ _ _ (c.in_ok-choices.ensures.choices s) c.new.ensures (c.can_go_on.ensures s) (c.is_loose.ensures s)
