use Rattle.std.proofs.Common.{◌∙◌, ap, map, take}
use Rattle.ink_frames.specs.Frames.{as_seen, items_of}
use Rattle.ink_frames.proofs.Mapping.{none_seen}
use Rattle.ink_frames.proofs.lowest.Lowest.is_unshared.Goals as goal

pub returns-in-None : goal.returns-in-None
returns-in-None g c =
    let b = c.self.inside.unnumbered in
    let n = c.self.inside.count in
    rw (← c.self.view_is) (ap (λ o. map (as_seen b) (take n (items_of o))) c.in-None.is ∙ none_seen (as_seen b) n)
