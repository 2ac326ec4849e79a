use Rattle.std.proofs.Common.{◌≡◌, length}
use Rattle.ink_protocol.proofs.Writing.{Wrote}
use Rattle.ink_protocol.proofs.output.write_whole.Given as goal

abbrev pub invariant-loop-rest : goal.invariant-loop-rest
invariant-loop-rest g l = record {
  wrote : Wrote (g.T.Sink.contents l.fn.sink) (g.T.Sink.contents l.sink) l.bytes l.rest;
  cause : g.T.Sink.failures l.sink ≡ g.T.Sink.failures l.fn.sink;
  name : g.T.Sink.name l.sink ≡ g.T.Sink.name l.fn.sink;
}

abbrev pub decreases-loop-rest : goal.decreases-loop-rest
decreases-loop-rest g l = length l.rest
