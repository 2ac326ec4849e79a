use Rattle.json_tape.proofs.Shapes.{next_item, no_item, left_readable}
use Rattle.json_tape.proofs.value.Items.next.Goals as goal

pub invariant_of-self : goal.invariant_of-self
invariant_of-self c = record { readable = left_readable c.args.self.now.rest c.next.new.self c.next.result c.args.self.now.readable c.next.ensures.value c.next.ensures.stays }

pub invariant_of-result : goal.invariant_of-result
invariant_of-result c = record { readable = (next_item c.args.self.now.rest _ c.in-Some.element c.args.self.now.readable c.in-Some.ensures.value).0 }

pub returns-in-Some-clause-value : goal.returns-in-Some-clause-value
returns-in-Some-clause-value c = (next_item c.args.self.now.rest _ c.in-Some.element c.args.self.now.readable c.in-Some.ensures.value).2

pub returns-in-None-clause-value : goal.returns-in-None-clause-value
returns-in-None-clause-value c = no_item c.args.self.now.rest c.next.new.self c.args.self.now.readable c.in-None.ensures.value
