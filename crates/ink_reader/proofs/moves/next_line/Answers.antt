use Rattle.ink_reader.proofs.Playing.{gave-run}
use Rattle.ink_reader.proofs.moves.next_line.Goals as goal

pub returns : goal.returns
returns g c = let does = c.continue_line.ensures.does in gave-run does.0 does.1 (does.2, c.continue_line.ensures.refusals) c.continue_line.ensures.story
