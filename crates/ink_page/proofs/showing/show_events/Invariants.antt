use Rattle.std.proofs.Common.{◌≡◌, ℕ, List, ◌++◌, drop}
use Rattle.std.specs.Io.KnownBytes.{Appends}
use Rattle.ink_page.specs.Showing.{events_shown}
use Rattle.ink_page.proofs.showing.show_events.Given as goal

-- this was shown, and behind it there is still to be shown what is left; the sink has not failed
abbrev pub invariant-loop-event : goal.invariant-loop-event
invariant-loop-event g l = record {
  shown : (w : List ℕ) × Appends (g.T.Sink.contents l.initial.sink) (g.T.Sink.contents l.sink) w × (w ++ events_shown l.look (drop l.event-index l.events) ≡ events_shown l.look l.events);
  cause : g.T.Sink.failures l.sink ≡ g.T.Sink.failures l.initial.sink;
  name : g.T.Sink.name l.sink ≡ g.T.Sink.name l.initial.sink;
}
