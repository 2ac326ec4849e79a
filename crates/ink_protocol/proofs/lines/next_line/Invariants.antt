use Rattle.std.proofs.Common.{◌≡◌, ◌≤◌, length}
use Rattle.ink_protocol.specs.Lines.{TakesLine}
use Rattle.ink_protocol.proofs.lines.next_line.Given as goal

abbrev pub invariant-pieces : goal.invariant-pieces
invariant-pieces g l = record {
  takes : TakesLine (g.S.Source.remaining l.fn.source) (g.S.Source.remaining l.source) l.fn.ahead l.ahead l.limit l.line.items l.line.items;
  within : length l.line.items ≤ l.limit;
  cause : g.S.Source.failures l.source ≡ g.S.Source.failures l.fn.source;
  ends : g.S.Source.ends l.source ≡ g.S.Source.ends l.fn.source;
  name : g.S.Source.name l.source ≡ g.S.Source.name l.fn.source;
}

abbrev pub decreases-pieces : goal.decreases-pieces
decreases-pieces g l = l.ahead.spare
