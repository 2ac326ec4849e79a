use Rattle.ink_line.proofs.Firm.{shown_is_firm}
use Rattle.ink_line.proofs.shown_newlines_are_firm.Goals as goal

pub returns : goal.returns
returns c = shown_is_firm
