use Rattle.std.proofs.Common.{codes, take}
use Rattle.ink_tokens.specs.Tokens.{Added}
use Rattle.ink_parts.proofs.Texts.{temps_front}
use Rattle.ink_parts.proofs.frames.put_temps.Given as goal

abbrev pub invariant-loop-row : goal.invariant-loop-row
invariant-loop-row l = Added l.fn.out l.out (temps_front (codes "temps") (take l.row-index l.rows))
