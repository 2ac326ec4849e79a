use Rattle.std.proofs.Common.{sym}
use Rattle.json_tape.proofs.Shapes.{array_items, value_no_array}
use Rattle.json_tape.proofs.value.Value.items.Goals as goal

pub invariant_of-result : goal.invariant_of-result
invariant_of-result c = record { readable = (array_items c.args.self.now.element c.in-Some.rest c.args.self.now.readable c.in-Some.ensures).0 }

pub returns-in-Some : goal.returns-in-Some
returns-in-Some c = (array_items c.args.self.now.element c.in-Some.rest c.args.self.now.readable c.in-Some.ensures).1

pub returns-in-None : goal.returns-in-None
returns-in-None c = sym (value_no_array c.args.self.now.element c.args.self.now.readable c.in-None.ensures)
