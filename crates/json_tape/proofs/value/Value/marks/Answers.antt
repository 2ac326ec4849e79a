use Rattle.std.proofs.Common.{sym}
use Rattle.json_tape.proofs.Shapes.{no_member}
use Rattle.json_tape.proofs.value.Value.marks.Goals as goal

pub returns : goal.returns
returns c = λ name none. sym (no_member name c.args.self.now.element c.args.self.now.readable (λ j h. c.marks.ensures j h name none))
