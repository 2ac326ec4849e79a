use Rattle.std.proofs.Common.{ap, refl}
use Rattle.ink_look.proofs.lines.say.Goals as goal
use Rattle.ink_step.specs.Standing.{globals_of}

pub returns-in_default-clause-says : goal.returns-in_default-clause-says
returns-in_default-clause-says c s = (tt, ((refl, c.in_default.ensures.memory s), ap globals_of c.said_by.ensures.same))
