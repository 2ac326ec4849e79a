use Rattle.std.proofs.Common.{◌≡◌, ◌∙◌, None, ap, inl, refl, subst, sym}
use Rattle.ink_player.proofs.Common.{at_stamp, DeskView, reply_of_events, Ready, store, story_tree, value_given, ConditionFits, PlayerView, Stands, aside_seen, is_empty, condition_by, desk_of, state_of, story_of}
use Rattle.ink_model.specs.Run.Configuration.{with_globals}
use Rattle.ink_model.specs.Protocol.Session.{condition_told}
use Rattle.ink_step.specs.Standing.{aside_of, config_of}
use Rattle.ink_player.proofs.Tellings.{none-left, on-ok, tells-kept, told-done, told-state, with_parts}
use Rattle.ink_player.proofs.Standing.{aside-stays, free-stands, set-stands, stands-told}
use Rattle.ink_player.proofs.player.Player.store.Goals as goal

pub returns-in_default-clause-does : goal.returns-in_default-clause-does
returns-in_default-clause-does g c =
    let p : PlayerView g.row.P.Denot g.row.F.Denot g.row.O.Denot = record { story = c.self.inside.story; desk = c.self.inside.desk; machine = c.self.inside.machine; broken = c.self.inside.broken } in
    let before = config_of (story_of p) p.machine in
    rw (sym c.self.view_is) (tells-kept g.F.TurnFn.log g.O.Watcher.state _ (condition_by p.broken before) (aside_seen p)
    (desk_of p) c.tell_one.new.desk c.in_default.ensures.tells.0 c.in_default.ensures.tells.1)

pub returns-clause-does : goal.returns-clause-does
returns-clause-does g c =
    let p : PlayerView g.row.P.Denot g.row.F.Denot g.row.O.Denot = record { story = c.self.inside.story; desk = c.self.inside.desk; machine = c.self.inside.machine; broken = c.self.inside.broken } in
    let q = with_parts p c.set-stored.new.self c.end_telling.new.desk c.end_telling.new.broken in
    let before = config_of (story_of p) p.machine in
    let after = with_globals (store c.args.name.now c.args.value before.shared.globals) before in
    let there = rw (sym c.self.view_is) at c.requires.there in
    let stored : config_of (story_of p) c.set-stored.new.self ≡ after =
    on-ok c.set-stored.result _ (c.set-stored.ensures.found ∙ there) (c.set-stored.ensures.ok (story_of p)) in
    let free : p.broken ≡ None = ap (λ x. x.broken) c.self.view_is ∙ c.requires.unbroken in
    let leaves = told-state p c.set-stored.new.self c.end_telling.new.desk c.tell_one.new.desk c.end_telling.new.broken p.broken c.in-Ok.all after free
    c.end_telling.ensures.broken c.end_telling.ensures.desk stored
    ∙ ap (λ a. at_stamp (condition_told c.in-Ok.all (Ready after)) (aside_of (story_of p) a) c.tell_one.new.desk.next) c.set-stored.ensures.aside in
    let done = told-done g.F.TurnFn.log g.O.Watcher.state _ (condition_by p.broken before) (Ready after) (aside_seen p) (desk_of p) c.tell_one.new.desk (desk_of q) c.in-Ok.all
    (reply_of_events c.end_telling.result) (state_of q) (none-left p.desk.events c.self.invariant.taken) c.in-Ok.ensures.tells c.end_telling.ensures.reply leaves c.end_telling.ensures.desk _ refl in
    rw (sym c.self.view_is) (done.0, inl done.1, done.2)

pub invariant_of-self : goal.invariant_of-self
invariant_of-self g c =
    subst (λ (d : DeskView g.row.P.Denot g.row.F.Denot g.row.O.Denot). Stands (story_tree c.self.inside.story) d.events c.self.inside.broken c.self.inside.machine) (sym c.in_default.ensures.tells.1) c.self.invariant

pub invariant_of-self-2 : goal.invariant_of-self-2
invariant_of-self-2 g c =
    let s = story_tree c.self.inside.story in
    let kept = c.self.invariant in
    let before = config_of s c.self.inside.machine in
    let new = c.set-stored.new.self in
    let given = c.requires.given in
    let there = rw (sym c.self.view_is) at c.requires.there in
    let free : c.self.inside.broken ≡ None = ap (λ x. x.broken) c.self.view_is ∙ c.requires.unbroken in
    let stored : config_of s new ≡ with_globals (store c.args.name.now (value_given given.0) before.shared.globals) before =
    on-ok c.set-stored.result _ (c.set-stored.ensures.found ∙ there) (c.set-stored.ensures.ok s) ∙ ap (λ v. with_globals (store c.args.name.now v before.shared.globals) before) given.2 in
    stands-told s kept.story kept.opens new c.end_telling.new.desk.events c.in-Ok.all c.end_telling.new.broken c.self.inside.broken (ap (λ d. is_empty d.events) c.end_telling.ensures.desk) free c.end_telling.ensures.broken
    (c.set-stored.ensures.mark ∙ kept.unmarked)
    (subst (λ x. ConditionFits s (Ready x)) (sym stored) (set-stands s kept.story before (free-stands s kept.story c.self.inside.broken before free kept.fits) c.args.name.now given.0 given.1 there))
    (aside-stays s kept.story c.self.inside.machine new c.set-stored.ensures.aside kept.aside)
