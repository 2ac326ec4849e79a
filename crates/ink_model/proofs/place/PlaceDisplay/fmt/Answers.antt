use Rattle.std.proofs.Common.{arith, rules}
use Rattle.std.proofs.Output.{has_written_append, has_written_of_eq}
use Rattle.ink_model.proofs.Printed.{all_written}
use Rattle.ink_model.proofs.place.PlaceDisplay.fmt.Goals as goal

pub returns-clause-writes : goal.returns-clause-writes
returns-clause-writes g c plain ok =
    let first = c.in_ok-fmt.ensures.writes plain ok in
    has_written_of_eq _ _ _ _ _
    (all_written c.args.self.now c.in-Some.first.now c.in-Some.rest.now c.loop-part.part-index (search rules) (omega (arith, c.loop-part-test.false, c.loop-part.auto.part-index-end)))
    (has_written_append _ _ _ _ _ _ first (c.loop-part.invariant first.plain))
