use Rattle.std.proofs.Common.{◌++◌, arith}
use Rattle.ink_frames.proofs.Flat.{fits}
use Rattle.ink_frames.proofs.frames.Frames.within.Goals as goal

pub returns : goal.returns
returns g c =
    rw (← c.self.view_is)
    (fits _ (c.self.inside.lowest ++ c.self.inside.headers.items) c.self.inside.temps.items c.self.invariant.1 (omega (arith, c.self.inside.temps.ok.0, c.self.inside.temps.ok.1)))
