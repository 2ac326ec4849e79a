use Rattle.std.proofs.Common.{[], List, Option, Some, refl, subst, sym}
use Rattle.ink_player.proofs.Common.{Refuses, reply_of_events, Event, Given}
use Rattle.ink_model.specs.Protocol.Command as command
use Rattle.ink_model.specs.Protocol.Session.{Set}
use Rattle.ink_player.specs.Standing.{DeliveredBy, bindings, desk_of, scene_of, state_of}
use Rattle.ink_player.proofs.session.set.Goals as goal

pub returns-in_default-clause-does : goal.returns-in_default-clause-does
returns-in_default-clause-does g c =
    let p = c.args.player.now in
    let h = bindings g.P.PureFn.meaning (desk_of p) in
    subst (λ (v : Option Given). (es : List Event) × Set h es c.args.name.now v (state_of p) (Refuses c.no_value.result) (state_of p)
    × DeliveredBy g.F.TurnFn.log g.O.Watcher.state (Some (command.Set c.args.name.now v)) (scene_of p) es (Refuses c.no_value.result) (scene_of p)) (sym c.in_default.is)
    ([], c.no_value.ensures h c.args.name.now, (refl, refl))

pub returns-clause-does : goal.returns-clause-does
returns-clause-does g c =
    let p = c.args.player.now in
    let reply = reply_of_events c.set.result in
    subst (λ (v : Option Given). (es : List Event) × Set (bindings g.P.PureFn.meaning (desk_of p)) es c.args.name.now v (state_of p) reply (state_of c.set.new.self)
    × DeliveredBy g.F.TurnFn.log g.O.Watcher.state (Some (command.Set c.args.name.now v)) (scene_of p) es reply (scene_of c.set.new.self)) (sym c.in-Some.is) c.set.ensures.does
