use Rattle.std.proofs.Common.{◌∙◌, ap, sym, string_bytes}
use Rattle.ink_host.proofs.TellingRows.{change-absent, change-write}
use Rattle.ink_host.specs.Telling.{round_ended, standing}
use Rattle.ink_host.proofs.telling.end_at.Goals as goal

pub returns-in_default : goal.returns-in_default
returns-in_default g c =
    let state = g.W.Watcher.state in
    ap (λ m. standing string_bytes state m.entries) c.get_mut.follows.holds-at-none
    ∙ change-absent state c.args.name.now round_ended c.args.watchers.now.entries (sym c.in_default.ensures.value)

pub returns : goal.returns
returns g c =
    let state = g.W.Watcher.state in
    let v = c.end.new.self in
    let w = c.in-Some.watcher.now in
    ap (standing string_bytes state) (c.get_mut.follows.holds v).0
    ∙ change-write state c.args.name.now round_ended c.args.watchers.now.entries w v c.get_mut.ensures.unique (sym c.in-Some.ensures.value) c.end.ensures
