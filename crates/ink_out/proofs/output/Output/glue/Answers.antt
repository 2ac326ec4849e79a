use Rattle.ink_out.proofs.Marks.{spare_after, stood_after}
use Rattle.ink_out.proofs.output.Output.glue.Goals as goal

pub returns-clause-stood : goal.returns-clause-stood
returns-clause-stood c = stood_after c.note.result 1 _ _ c.note.ensures.trail

pub returns-clause-spare : goal.returns-clause-spare
returns-clause-spare c = spare_after c.note.result 1 _ _ c.note.ensures.trail
