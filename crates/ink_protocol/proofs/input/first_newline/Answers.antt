use Rattle.ink_protocol.proofs.Reading.{newline_found}
use Rattle.ink_protocol.proofs.input.first_newline.Goals as goal

pub returns : goal.returns
returns c = newline_found _ _ c.memchr.ensures
