use Rattle.std.proofs.Common.{subst}
use Rattle.json_tape.specs.Text.{IsParsed}
use Rattle.ink_check.specs.Standing.{story_tree}
use Rattle.ink_save.proofs.TextReads.{text-bad}
use Rattle.ink_save.proofs.texts.read_text.Goals as goal

pub returns-in-Ok-NotJson-clause-reads : goal.returns-in-Ok-NotJson-clause-reads
returns-in-Ok-NotJson-clause-reads c = text-bad (story_tree c.args.story.now) c.args.text.now (subst (λ p. IsParsed p c.args.text.now) c.in-Ok-NotJson.field-0-is c.in-Ok-NotJson.ensures)
