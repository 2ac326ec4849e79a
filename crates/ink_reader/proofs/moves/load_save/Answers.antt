use Rattle.ink_reader.proofs.Playing.{gave-once}
use Rattle.ink_reader.proofs.moves.load_save.Goals as goal

pub returns : goal.returns
returns g c = let does = c.load.ensures.does in gave-once does.0 does.1 does.2 c.load.ensures.functions c.load.ensures.story
