use Rattle.ink_reader.proofs.Playing.{gave-once}
use Rattle.ink_reader.proofs.moves.begin_anew.Goals as goal

pub returns : goal.returns
returns g c = let does = c.restart.ensures.does in gave-once does.0 does.1 does.2 c.restart.ensures.functions c.restart.ensures.story
