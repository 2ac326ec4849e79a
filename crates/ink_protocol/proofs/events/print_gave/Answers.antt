use Rattle.ink_protocol.proofs.Telling.{behind}
use Rattle.ink_protocol.proofs.events.print_gave.Goals as goal

pub returns : goal.returns
returns c = behind c.print_given.result _ _ _ _ _ c.in_ok-append.ensures c.print_given.ensures
