use Rattle.std.proofs.Common.{sym}
use Rattle.json_tape.proofs.Left.{object_left}
use Rattle.json_tape.proofs.Shapes.{value_no_object}
use Rattle.json_tape.proofs.ordered.Ordered.members.Goals as goal

pub invariant_of-result : goal.invariant_of-result
invariant_of-result c =
    let left = object_left c.args.self.now.value.element c.in-Some.rest c.args.self.now.value.readable c.args.self.now.ordered c.in-Some.ensures in
    record { readable = left.readable; ordered = left.ordered }

pub returns-in-Some : goal.returns-in-Some
returns-in-Some c = (object_left c.args.self.now.value.element c.in-Some.rest c.args.self.now.value.readable c.args.self.now.ordered c.in-Some.ensures).same

pub returns-in-None : goal.returns-in-None
returns-in-None c = sym (value_no_object c.args.self.now.value.element c.args.self.now.value.readable c.in-None.ensures)
