use Rattle.std.proofs.Common.{◌∙◌, sym}
use Rattle.ink_out.specs.declared.undo.OutputPair.TheVariants.{Began}
use Rattle.ink_out.proofs.Undoing.{noted_nowhere}
use Rattle.ink_out.proofs.undo.note_began.Goals as goal

pub returns-clause-ok : goal.returns-clause-ok
returns-clause-ok c = noted_nowhere Began 1 c.args.trail.now.undo (sym c.is_marked.ensures ∙ c.if-is_marked.false)
