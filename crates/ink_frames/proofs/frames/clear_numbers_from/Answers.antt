use Rattle.ink_frames.specs.Frames.{unnumbered}
use Rattle.ink_frames.proofs.Mapping.{map_end}
use Rattle.ink_frames.proofs.frames.clear_numbers_from.Goals as goal

pub returns : goal.returns
returns g c = map_end unnumbered c.args.headers.now c.clear_numbers_of.new.headers c.args.from c.requires c.clear_numbers_of.ensures
