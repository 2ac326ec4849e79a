use Rattle.std.proofs.Common.{◌∙◌}
use Rattle.ink_protocol.proofs.Writing.{wrote_more, as_many_failures}
use Rattle.ink_protocol.proofs.output.write_whole.Goals as goal

pub loop-rest-preserved : goal.loop-rest-preserved
loop-rest-preserved g c = record {
  wrote = wrote_more _ _ _ _ _ _ _ c.loop-rest.invariant.wrote c.in_ok-count.ensures.bytes c.split_at.ensures.back;
  cause = as_many_failures _ _ _ _ _ c.if-count-eq0.false c.in_ok-count.ensures.cause c.loop-rest.invariant.cause;
  name = c.in_ok-count.ensures.name ∙ c.loop-rest.invariant.name;
}
