use Rattle.std.proofs.Common.{◌≡◌, ◌∙◌, List, [], ◌∷◌, true, false, Some, ap, is_some, refl, subst, sym}
use Rattle.ink_player.proofs.Common.{watches, reply_of_events, value_given, stored, told, Change, config_of, globals_of}
use Rattle.ink_player.specs.Standing.{TellsOnce, all_told, aside_seen, bindings, desk_of, state_of, story_of, told_from}
use Rattle.ink_player.proofs.Tellings.{globals-by, once-none, set-broken, sets, sets-where}
use Rattle.ink_player.proofs.player.Player.set.Goals as goal

pub returns-in-Some-clause-does : goal.returns-in-Some-clause-does
returns-in-Some-clause-does g c =
    let p = c.args.self.now in
    let h = bindings g.P.PureFn.meaning (desk_of p) in (
      [],
      set-broken h c.args.name.now (config_of (story_of p) p.machine) p.broken (aside_seen p) (desk_of p).next (Some c.args.value) c.in-Some.cause
          (ap (λ q. q.broken) (sym c.self.view_is) ∙ c.in-Some.is),
      once-none g.F.TurnFn.log g.O.Watcher.state (desk_of p),
    )

pub returns-then-not-is_settable-clause-does : goal.returns-then-not-is_settable-clause-does
returns-then-not-is_settable-clause-does g c =
    let p = c.args.self.now in
    let h = bindings g.P.PureFn.meaning (desk_of p) in (
      [],
      sets-where h c.args.name.now (config_of (story_of p) p.machine) p.broken (aside_seen p) (desk_of p).next c.args.value [] _ _ false _
          (ap (λ q. q.broken) (sym c.self.view_is) ∙ c.in_default.is)
          (sym c.is_settable.ensures ∙ c.if-not-is_settable.true) refl (refl, (refl, refl)),
      once-none g.F.TurnFn.log g.O.Watcher.state (desk_of p),
    )

pub returns-then-not-contains-clause-does : goal.returns-then-not-contains-clause-does
returns-then-not-contains-clause-does g c =
    let p = c.args.self.now in
    let known : is_some (stored c.args.name.now (globals_of p.machine)) ≡ c.contains.result =
    ap (λ vs. is_some (stored c.args.name.now vs)) (ap (λ q. globals_of q.machine) (sym c.self.view_is) ∙ sym c.globals.ensures) ∙ sym c.contains.ensures in
    let h = bindings g.P.PureFn.meaning (desk_of p) in (
      [],
      sets-where h c.args.name.now (config_of (story_of p) p.machine) p.broken (aside_seen p) (desk_of p).next c.args.value [] _ _ true false
          (ap (λ q. q.broken) (sym c.self.view_is) ∙ c.in_default.is)
          (sym c.is_settable.ensures ∙ c.if-not-is_settable.false)
          (known ∙ c.if-not-contains.true) (refl, (refl, refl)),
      once-none g.F.TurnFn.log g.O.Watcher.state (desk_of p),
    )

pub returns-clause-does : goal.returns-clause-does
returns-clause-does g c =
    let p = c.args.self.now in
    let start = config_of (story_of p) p.machine in
    let w = watches (desk_of p).watchers in
    let state = g.O.Watcher.state in
    let known : is_some (stored c.args.name.now (globals_of p.machine)) ≡ c.contains.result =
    ap (λ vs. is_some (stored c.args.name.now vs)) (ap (λ q. globals_of q.machine) (sym c.self.view_is) ∙ sym c.globals.ensures) ∙ sym c.contains.ensures in
    let h = bindings g.P.PureFn.meaning (desk_of p) in
    let does = c.store.ensures.does in
    let changes : told w (globals_of p.machine) ((c.args.name.now, c.value_given.result) ∷ []) ≡ told_from (desk_of p) (state_of p) ((c.args.name.now, value_given c.args.value) ∷ []) =
    ap (λ v. told w (globals_of p.machine) ((c.args.name.now, v) ∷ [])) c.value_given.ensures
    ∙ ap (λ vs. told w vs ((c.args.name.now, value_given c.args.value) ∷ [])) (sym (globals-by p.broken start)) in (
      does.0,
      sets h c.args.name.now start p.broken (aside_seen p) (desk_of p).next c.args.value does.0 _ _ c.value_given.result c.value_given.ensures
          (ap (λ q. q.broken) (sym c.self.view_is) ∙ c.in_default.is) (sym c.is_settable.ensures ∙ c.if-not-is_settable.false)
          (known ∙ c.if-not-contains.false) does.1,
      (does.2.0, subst (λ (cs : List Change). TellsOnce state (desk_of p).next cs (all_told (reply_of_events c.store.result)) does.0 (desk_of p).watchers (desk_of c.store.new.self).watchers) changes does.2.1),
    )

pub store-requires-clause-given : goal.store-requires-clause-given
store-requires-clause-given g c = (c.args.value, sym c.is_settable.ensures ∙ c.if-not-is_settable.false, c.value_given.ensures)
