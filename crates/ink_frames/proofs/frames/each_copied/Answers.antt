use Rattle.std.proofs.Common.{◌∙◌, arith}
use Rattle.std.proofs.lemmas.List.{take_all}
use Rattle.ink_frames.proofs.Mapping.{copied_on}
use Rattle.ink_frames.proofs.frames.each_copied.Goals as goal

pub returns : goal.returns
returns c = c.loop-own.invariant.0 ∙ take_all c.loop-own.own-index c.args.temps.now c.loop-own-test.false

pub loop-own-preserved : goal.loop-own-preserved
loop-own-preserved c = (
  copied_on c.args.temps.now c.loop-own.copies.items c.push_reserved.new.self.items c.loop-own.own-index c.in-Ok.copy c.own-item.result c.loop-own-test.true
      c.push_reserved.ensures.items c.loop-own.invariant.0 c.in-Ok.ensures.copy c.own-item.is,
  omega (arith, c.loop-own.invariant.1, c.push_reserved.ensures.capacity),
)
