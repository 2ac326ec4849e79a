use Rattle.ink_out.proofs.Marks.{stood_after}
use Rattle.ink_out.proofs.output.Output.note_words.Goals as goal

pub returns-clause-stood : goal.returns-clause-stood
returns-clause-stood c = stood_after c.note.result 1 _ _ c.note.ensures.trail
