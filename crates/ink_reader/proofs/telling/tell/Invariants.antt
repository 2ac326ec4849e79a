use Rattle.std.proofs.Common.{◌≡◌, ℕ, List, Option, true}
use Rattle.ink_reader.specs.Deeds.{Deed, Played}
use Rattle.ink_reader.specs.declared.telling.Told.TheVariants as told
use Rattle.ink_reader.proofs.Tellings.{Leads}
use Rattle.ink_reader.proofs.telling.tell.Given as goal

-- lines were told, and behind them telling goes on; the sink has not failed
abbrev pub invariant-lines : goal.invariant-lines
invariant-lines g l = (ds : List Deed) × Leads told.Stop ds l.told
    × ((kept : Option (Option (List ℕ))) → Played g.P.PureFn.meaning g.F.TurnFn.log g.F.TurnFn.refusals g.O.Watcher.state l.look l.fn.player ds l.player (g.T.Sink.contents l.fn.sink) (g.T.Sink.contents l.sink) kept kept true)
    × (g.T.Sink.failures l.sink ≡ g.T.Sink.failures l.fn.sink) × (g.T.Sink.name l.sink ≡ g.T.Sink.name l.fn.sink)
