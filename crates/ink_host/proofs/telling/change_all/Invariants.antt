use Rattle.std.proofs.Common.{◌≡◌, ◌≢◌, ◌+◌, ◌≤◌, ◌++◌, Err, List, is_ok, length, string_bytes, vec_capacity, vec_len}
use Rattle.ink_model.specs.Host.Events.{later}
use Rattle.ink_model.specs.declared.host.Event.{Event}
use Rattle.ink_host.specs.Telling.{heard, standing}
use Rattle.ink_host.specs.declared.telling.TellFault.TheVariants.{NoRoom}
use Rattle.ink_model.specs.Host.Told.{ToldAs}
use Rattle.ink_host.proofs.telling.change_all.Given as goal

abbrev pub invariant-loop-change : goal.invariant-loop-change
invariant-loop-change g l =
    (vec_len l.events + length l.fn.changes.items ≤ vec_capacity l.events + length l.yielded)
    × (l.outcome ≢ Err NoRoom)
    × (es : List Event)
    × (t : ToldAs l.initial.next l.yielded (is_ok l.outcome) es)
    × (l.events.items ≡ l.initial.events.items ++ es)
    × (l.next ≡ later l.initial.next es)
    × (standing string_bytes g.W.Watcher.state l.watchers.entries ≡ heard l.initial.next l.yielded t.answers (standing string_bytes g.W.Watcher.state l.initial.watchers.entries))
