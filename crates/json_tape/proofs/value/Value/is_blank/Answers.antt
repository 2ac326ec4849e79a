use Rattle.json_tape.proofs.Shapes.{blank_value, not_blank_object}
use Rattle.json_tape.proofs.value.Value.is_blank.Goals as goal

pub returns-in-Some : goal.returns-in-Some
returns-in-Some c = blank_value c.args.self.now.element c.args.self.now.readable c.is_none.result c.in-Some.members c.next.new.self c.next.result c.in-Some.ensures c.next.ensures.value c.is_none.ensures

pub returns-in-None : goal.returns-in-None
returns-in-None c = not_blank_object c.args.self.now.element c.args.self.now.readable c.in-None.ensures
