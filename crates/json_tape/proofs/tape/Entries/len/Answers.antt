use Rattle.std.proofs.Common.{length, ap, arith}
use Rattle.json_tape.proofs.Taped.{many_nodes}
use Rattle.json_tape.proofs.tape.Entries.len.Goals as goal

pub returns : goal.returns
returns c = omega (arith, many_nodes c.self.inside.texts.items _ c.self.inside.tags.items c.self.inside.numbers.items c.self.invariant.fit, ap length c.self.view_is, c.len.ensures, c.self.inside.tags.ok.0)
