use Rattle.std.proofs.Common.{◌∙◌, Some, None, sym, true≢false}
use Rattle.serde_json.specs.View.{view}
use Rattle.ink_protocol.proofs.Commands.{json_by}
use Rattle.ink_protocol.proofs.parse.parsed.Goals as goal

pub returns-in-Ok : goal.returns-in-Ok
returns-in-Ok c = json_by _ (Some (view c.in-Ok.json)) c.in-Ok.ensures.ok

pub returns-else-is_memory : goal.returns-else-is_memory
returns-else-is_memory c = json_by _ None (c.in-Err.ensures.err (λ memory. true≢false (sym (c.is_memory.ensures.1 memory) ∙ c.if-is_memory.false)))
