use Rattle.std.proofs.Common.{◌∙◌, ◌++◌, ap, map}
use Rattle.std.proofs.lemmas.List.{take_all}
use Rattle.ink_frames.specs.Frames.{as_seen}
use Rattle.ink_frames.proofs.Bounding.{mapped_fit}
use Rattle.ink_frames.proofs.Mapping.{mapped_on}
use Rattle.ink_frames.proofs.lowest.push_all.Goals as goal

pub push_reserved-requires : goal.push_reserved-requires
push_reserved-requires g c =
    mapped_fit (as_seen c.args.unnumbered) c.loop-header.headers c.args.headers.now.items c.args.more.now c.loop-header.header-index _ _ c.loop-header.invariant.items c.loop-header-test.true c.requires c.loop-header.invariant.room

pub loop-header-preserved : goal.loop-header-preserved
loop-header-preserved g c = record {
  items = mapped_on (as_seen c.args.unnumbered) c.args.headers.now.items c.args.more.now c.loop-header.headers.items _ c.loop-header.header-index c.header-item.result c.seen.result
      c.loop-header-test.true c.push_reserved.ensures.items c.loop-header.invariant.items c.seen.ensures c.header-item.is;
  room = c.push_reserved.ensures.capacity ∙ c.loop-header.invariant.room;
}

pub returns-clause-items : goal.returns-clause-items
returns-clause-items g c =
    c.loop-header.invariant.items ∙ ap (λ xs. c.args.headers.now.items ++ map (as_seen c.args.unnumbered) xs) (take_all c.loop-header.header-index c.args.more.now c.loop-header-test.false)
