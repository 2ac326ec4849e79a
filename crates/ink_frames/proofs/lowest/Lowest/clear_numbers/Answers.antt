use Rattle.std.proofs.Common.{take}
use Rattle.ink_frames.specs.Frames.{items_of}
use Rattle.ink_frames.proofs.Sharing.{unnumbered_seen}
use Rattle.ink_frames.proofs.lowest.Lowest.clear_numbers.Goals as goal

pub returns : goal.returns
returns g c = rw (← c.self.view_is) (unnumbered_seen c.self.inside.unnumbered (take c.self.inside.count (items_of c.self.inside.shared)))
