use Rattle.std.proofs.Common.{◌∙◌, ap, sym}
use Rattle.ink_model.specs.Protocol.ValueJson.{value_data}
use Rattle.ink_parts.proofs.Arrays.{view-Bool, view-Null}
use Rattle.ink_parts.proofs.writing.ValueWritten.write.Goals as goal

pub returns-in-Bool : goal.returns-in-Bool
returns-in-Bool c = view-Bool c.in-Bool.truth ∙ ap value_data (sym c.in-Bool.is)

pub returns-in-Void : goal.returns-in-Void
returns-in-Void c = view-Null ∙ ap value_data (sym c.in-Void.is)
