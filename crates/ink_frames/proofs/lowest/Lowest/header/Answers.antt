use Rattle.std.proofs.Common.{arith, take}
use Rattle.ink_frames.specs.Frames.{as_seen, items_of}
use Rattle.ink_frames.proofs.Bounding.{seen_inside}
use Rattle.ink_frames.proofs.Sharing.{seen_at}
use Rattle.ink_frames.proofs.lowest.Lowest.header.Goals as goal

pub bounds-first-index : goal.bounds-first-index
bounds-first-index g c =
    seen_inside (as_seen c.self.inside.unnumbered) (take c.self.inside.count (items_of c.self.inside.shared)) _ _ c.args.index c.self.view_is c.first.ensures c.requires

pub offset_bounds-first-index : goal.offset_bounds-first-index
offset_bounds-first-index g c = omega (arith, bounds-first-index g c)

pub returns : goal.returns
returns g c = λ d.
    let hs = take c.self.inside.count (items_of c.self.inside.shared) in
    seen_at (as_seen c.self.inside.unnumbered) hs _ c.first.result.now c.args.index _ _ d c.self.view_is c.first.ensures c.requires c.index-first-index.is c.seen.ensures
