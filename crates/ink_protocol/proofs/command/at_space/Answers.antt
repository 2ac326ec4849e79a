use Rattle.std.proofs.Common.{lit<}
use Rattle.ink_protocol.proofs.Commands.{spaced}
use Rattle.ink_protocol.proofs.command.at_space.Goals as goal

pub returns : goal.returns
returns c = spaced c.args.text.now c.split_once.result (c.split_once.ensures.byte (lit< tt) (λ w o h. h))
