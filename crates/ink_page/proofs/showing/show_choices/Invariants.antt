use Rattle.std.proofs.Common.{◌≡◌, ℕ, List, ◌++◌, drop}
use Rattle.std.specs.Io.KnownBytes.{Appends}
use Rattle.ink_page.specs.Showing.{numbered}
use Rattle.ink_page.proofs.showing.show_choices.Given as goal

-- this was shown, and behind it there is still to be shown what is left; the sink has not failed
abbrev pub invariant-loop-choice : goal.invariant-loop-choice
invariant-loop-choice g l = record {
  shown : (w : List ℕ) × Appends (g.T.Sink.contents l.initial.sink) (g.T.Sink.contents l.sink) w × (w ++ numbered l.look l.number (drop l.choice-index l.choices) ≡ numbered l.look 1 l.choices);
  cause : g.T.Sink.failures l.sink ≡ g.T.Sink.failures l.initial.sink;
  name : g.T.Sink.name l.sink ≡ g.T.Sink.name l.initial.sink;
}
