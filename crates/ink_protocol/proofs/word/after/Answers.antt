use Rattle.ink_protocol.proofs.Commands.{stripped}
use Rattle.ink_protocol.proofs.word.after.Goals as goal

pub returns : goal.returns
returns c = stripped _ _ _ c.strip_prefix.ensures.cases
