use Rattle.std.proofs.Common.{◌∙◌, sym, true≢false}
use Rattle.serde_json.specs.View.{view}
use Rattle.ink_check.specs.Standing.{story_tree}
use Rattle.ink_save.proofs.TextReads.{text-bad, text-read, text-short}
use Rattle.ink_save.proofs.texts.read_tree.Goals as goal

pub returns-in-Ok-clause-reads : goal.returns-in-Ok-clause-reads
returns-in-Ok-clause-reads c = text-read (story_tree c.args.story.now) c.args.text.now (view c.in-Ok.json) c.read.result c.in-Ok.ensures.ok c.read.ensures.reads

pub returns-then-is_memory-clause-reads : goal.returns-then-is_memory-clause-reads
returns-then-is_memory-clause-reads c = text-short (story_tree c.args.story.now) c.args.text.now (c.in-Err.ensures.memory (c.is_memory.ensures.0 c.if-is_memory.true))

pub returns-else-is_memory-clause-reads : goal.returns-else-is_memory-clause-reads
returns-else-is_memory-clause-reads c = text-bad (story_tree c.args.story.now) c.args.text.now (c.in-Err.ensures.err (λ memory. true≢false (sym (c.is_memory.ensures.1 memory) ∙ c.if-is_memory.false)))
