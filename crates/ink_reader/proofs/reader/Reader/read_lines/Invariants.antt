use Rattle.std.proofs.Common.{◌≡◌, ℕ, List, Option, true}
use Rattle.ink_reader.specs.Course.{places_of}
use Rattle.ink_reader.specs.Deeds.{Deed, Played}
use Rattle.ink_reader.specs.Session.{AreNext, IsReading}
use Rattle.ink_reader.proofs.Sessions.{Continues}
use Rattle.ink_reader.proofs.reader.Reader.read_lines.Given as goal

-- lines were read, and behind them the reading goes on
abbrev pub invariant-lines : goal.invariant-lines
invariant-lines g l = record {
  look : l.self.look ≡ l.fn.self.look;
  saves : l.self.saves ≡ l.fn.self.saves;
  write_cause : g.T.Sink.failures l.sink ≡ g.T.Sink.failures l.fn.sink;
  sink_name : g.T.Sink.name l.sink ≡ g.T.Sink.name l.fn.sink;
  read_cause : g.L.Lines.failures l.lines ≡ g.L.Lines.failures l.fn.lines;
  reads : (lines_read : List (Option (List ℕ))) × (ds : List Deed) × AreNext (g.L.Lines.coming l.fn.lines) lines_read (g.L.Lines.coming l.lines)
      × Continues (IsReading l.fn.self.saves (places_of l.fn.self.past)) l.fn.self.saves lines_read ds (places_of l.self.past)
      × Played g.P.PureFn.meaning g.F.TurnFn.log g.F.TurnFn.refusals g.O.Watcher.state l.fn.self.look l.fn.self.player ds l.self.player (g.T.Sink.contents l.fn.sink) (g.T.Sink.contents l.sink) (g.S.Shelf.kept l.fn.shelf) (g.S.Shelf.kept l.shelf) true;
}
