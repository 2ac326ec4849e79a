use Rattle.std.proofs.Common.{◌∙◌, ap, sym, true≢false}
use Rattle.serde_json.specs.View.{view}
use Rattle.ink_model.specs.Story.Grammar.{json}
use Rattle.ink_page.proofs.Pieces.{json_read, json_unread}
use Rattle.ink_page.proofs.piece.json_in.Goals as goal

pub returns-in-Ok-clause-read : goal.returns-in-Ok-clause-read
returns-in-Ok-clause-read c = json_read c.without_mark.result.now (view c.in-Ok.json) c.in-Ok.ensures.ok.0 c.in-Ok.ensures.ok.1 ∙ ap json c.without_mark.ensures

pub returns-else-is_memory-clause-read : goal.returns-else-is_memory-clause-read
returns-else-is_memory-clause-read c =
    json_unread c.without_mark.result.now (c.in-Err.ensures.err (λ memory. true≢false (sym (c.is_memory.ensures.1 memory) ∙ c.if-is_memory.false))) ∙ ap json c.without_mark.ensures
