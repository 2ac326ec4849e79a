use Rattle.std.proofs.Common.{◌∙◌, Some, ap, sym}
use Rattle.ink_check.specs.Standing.{story_tree}
use Rattle.ink_save.proofs.TextReads.{text-bad, text-read}
use Rattle.json_tape.specs.Spelled.{data_of}
use Rattle.json_tape.specs.Value.{json_data}
use Rattle.ink_save.proofs.texts.read_tape.Goals as goal

pub returns-in_default-clause-reads : goal.returns-in_default-clause-reads
returns-in_default-clause-reads c = text-bad (story_tree c.args.story.now) c.args.text.now (sym (c.in_default.ensures.data ∙ c.requires))

pub returns-in-Some-of-clause-reads : goal.returns-in-Some-of-clause-reads
returns-in-Some-of-clause-reads c = text-read (story_tree c.args.story.now) c.args.text.now (json_data c.in-Some-of.ordered.value) c.read.result
    (sym (ap (λ v. Some (data_of v.element)) c.in-Some-of.ensures ∙ c.in-Some.ensures.data ∙ c.requires)) c.read.ensures.reads
