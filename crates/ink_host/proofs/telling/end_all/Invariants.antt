use Rattle.std.proofs.Common.{◌≡◌, drop, string_bytes}
use Rattle.ink_host.specs.Telling.{round_ended, in_turn, standing}
use Rattle.ink_host.proofs.telling.end_all.Given as goal

-- what is left to do to the watchers as they stand comes to all of it
abbrev pub invariant-loop-change : goal.invariant-loop-change
invariant-loop-change g l =
    in_turn round_ended (drop l.change-index l.changes) (standing string_bytes g.W.Watcher.state l.watchers.entries)
    ≡ in_turn round_ended l.changes (standing string_bytes g.W.Watcher.state l.initial.watchers.entries)
