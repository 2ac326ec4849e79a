use Rattle.std.proofs.Common.{◌≡◌, ◌∙◌, ap, sym, string_bytes, false}
use Rattle.ink_host.proofs.TellingRows.{change-absent, change-write, on_err, on_ok, stands_found}
use Rattle.ink_host.specs.Telling.{refused, standing, change_taken}
use Rattle.ink_host.proofs.telling.changed_at.Goals as goal

pub returns-in_default-clause-told : goal.returns-in_default-clause-told
returns-in_default-clause-told g c =
    let state = g.W.Watcher.state in
    ap (λ m. standing string_bytes state m.entries) c.get_mut.follows.holds-at-none
    ∙ change-absent state c.args.name.now (change_taken (record { stamp = c.args.stamp; name = c.args.name.now; value = c.args.value.now })) c.args.watchers.now.entries (sym c.in_default.ensures.value)

pub returns-clause-told : goal.returns-clause-told
returns-clause-told g c =
    let state = g.W.Watcher.state in
    let n = c.args.name.now in
    let es = c.args.watchers.now.entries in
    let w = c.in-Some.watcher.now in
    let v = c.changed.new.self in
    let stirred : (state w).resting ≡ false = stands_found state n false es w (sym c.in-Some.ensures.value) c.requires.begun in
    on_ok c.changed.result
    (λ (told : state v ≡ change_taken (record { stamp = c.args.stamp; name = n; value = c.args.value.now }) (state w)).
    ap (standing string_bytes state) (c.get_mut.follows.holds v).0
    ∙ change-write state n (change_taken (record { stamp = c.args.stamp; name = n; value = c.args.value.now })) es w v c.get_mut.ensures.unique (sym c.in-Some.ensures.value) told)
    (c.changed.ensures.told stirred)

pub returns-clause-untold : goal.returns-clause-untold
returns-clause-untold g c =
    let state = g.W.Watcher.state in
    let n = c.args.name.now in
    let es = c.args.watchers.now.entries in
    let w = c.in-Some.watcher.now in
    let v = c.changed.new.self in
    let stirred : (state w).resting ≡ false = stands_found state n false es w (sym c.in-Some.ensures.value) c.requires.begun in
    on_err c.changed.result
    (λ (untold : state v ≡ refused (state w)).
    ap (standing string_bytes state) (c.get_mut.follows.holds v).0
    ∙ change-write state n refused es w v c.get_mut.ensures.unique (sym c.in-Some.ensures.value) untold)
    (c.changed.ensures.untold stirred)
