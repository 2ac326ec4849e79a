use Rattle.std.proofs.Common.{◌∙◌, sym}
use Rattle.ink_out.specs.declared.undo.OutputPair.TheVariants.{Numbered}
use Rattle.ink_out.proofs.Undoing.{noted_nowhere}
use Rattle.ink_out.proofs.undo.note_number.Goals as goal

pub returns-else-is_marked-clause-undo : goal.returns-else-is_marked-clause-undo
returns-else-is_marked-clause-undo c = noted_nowhere (Numbered c.args.number) 1 c.args.trail.now.undo (sym c.is_marked.ensures ∙ c.if-is_marked.false)
