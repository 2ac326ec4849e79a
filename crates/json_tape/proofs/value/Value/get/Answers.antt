use Rattle.json_tape.proofs.Shapes.{found_member, no_member}
use Rattle.json_tape.proofs.value.Value.get.Goals as goal

pub invariant_of-result : goal.invariant_of-result
invariant_of-result c = record { readable = (found_member c.args.name.now c.args.self.now.element c.in-Some.element c.args.self.now.readable c.in-Some.ensures).0 }

pub returns-in-Some : goal.returns-in-Some
returns-in-Some c = (found_member c.args.name.now c.args.self.now.element c.in-Some.element c.args.self.now.readable c.in-Some.ensures).1

pub returns-in-None : goal.returns-in-None
returns-in-None c = no_member c.args.name.now c.args.self.now.element c.args.self.now.readable c.in-None.ensures
