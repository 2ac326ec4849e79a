use Rattle.std.proofs.Common.{◌∙◌, [], None, Some, ap, inl, inr, refl}
use Rattle.ink_player.proofs.Common.{null, desk_of, scene_of, state_of}
use Rattle.ink_model.specs.Protocol.Answer.{Refuses, reply_of_events, reply_of_landing, reply_of_value, reply_of_visits}
use Rattle.ink_model.specs.declared.fault.Refusal.TheVariants as refusal
use Rattle.ink_protocol.specs.Replies.{reply_of_text}
use Rattle.ink_protocol.specs.declared.command.LineCommand.TheVariants as line
use Rattle.ink_player.proofs.Dealing.{same_refusals, untouched}
use Rattle.ink_player.proofs.Sessions.{came, text-came}
use Rattle.ink_player.proofs.session.perform.Goals as goal

pub returns-in-Some-Restart-clause-does : goal.returns-in-Some-Restart-clause-does
returns-in-Some-Restart-clause-does g c =
    let old = c.args.player.now in
    let new = c.restart.new.self in
    let reply = reply_of_events c.restart.result in
    let does = c.restart.ensures.does in
    let all = came g.F.TurnFn.log g.F.TurnFn.refusals g.O.Watcher.state _ _ does.0 (scene_of old) reply (scene_of new) c.args.command (Some line.Restart) (c.in-Some-Restart.is ∙ ap (λ k. Some k) c.in-Some-Restart.field-0-is)
    (inl does.1, (does.2, same_refusals g.F.TurnFn.refusals (desk_of old) (desk_of new) reply c.restart.ensures.functions)) in
    (does.0, null, tt, all.0, all.1)

pub returns-in-Some-Set-clause-does : goal.returns-in-Some-Set-clause-does
returns-in-Some-Set-clause-does g c =
    let old = c.args.player.now in
    let new = c.set.new.player in
    let reply = reply_of_events c.set.result in
    let does = c.set.ensures.does in
    let all = came g.F.TurnFn.log g.F.TurnFn.refusals g.O.Watcher.state _ _ does.0 (scene_of old) reply (scene_of new) c.args.command (Some (line.Set c.in-Some-Set.name c.in-Some-Set.value)) (c.in-Some-Set.is ∙ ap (λ k. Some k) c.in-Some-Set.field-0-is)
    (inl does.1, (does.2, same_refusals g.F.TurnFn.refusals (desk_of old) (desk_of new) reply c.set.ensures.functions)) in
    (does.0, null, tt, all.0, all.1)

pub returns-in-Some-Load-clause-does : goal.returns-in-Some-Load-clause-does
returns-in-Some-Load-clause-does g c =
    let old = c.args.player.now in
    let new = c.load_text.new.self in
    let reply = reply_of_events c.load_text.result in
    let does = c.load_text.ensures.does in
    let all = came g.F.TurnFn.log g.F.TurnFn.refusals g.O.Watcher.state _ _ does.0 (scene_of old) reply (scene_of new) c.args.command (Some (line.Load c.in-Some-Load.json)) (c.in-Some-Load.is ∙ ap (λ k. Some k) c.in-Some-Load.field-0-is)
    (text-came c.in-Some-Load.json.now _ _ does.0 (state_of old) reply (state_of new) does.1, (does.2, same_refusals g.F.TurnFn.refusals (desk_of old) (desk_of new) reply c.load_text.ensures.functions)) in
    (does.0, null, tt, all.0, all.1)

pub returns-in-Some-Get-clause-does : goal.returns-in-Some-Get-clause-does
returns-in-Some-Get-clause-does g c =
    let old = c.args.player.now in
    let new = c.args.player.now in
    let reply = reply_of_value c.get.result in
    let all = came g.F.TurnFn.log g.F.TurnFn.refusals g.O.Watcher.state _ _ [] (scene_of old) reply (scene_of new) c.args.command (Some (line.Get c.in-Some-Get.name)) (c.in-Some-Get.is ∙ ap (λ k. Some k) c.in-Some-Get.field-0-is)
    (inl (refl, c.get.ensures), ((refl, refl), same_refusals g.F.TurnFn.refusals (desk_of old) (desk_of new) reply refl)) in
    ([], null, tt, all.0, all.1)

pub returns-in-Some-Visits-clause-does : goal.returns-in-Some-Visits-clause-does
returns-in-Some-Visits-clause-does g c =
    let old = c.args.player.now in
    let new = c.args.player.now in
    let reply = reply_of_visits c.visits.result in
    let all = came g.F.TurnFn.log g.F.TurnFn.refusals g.O.Watcher.state _ _ [] (scene_of old) reply (scene_of new) c.args.command (Some (line.Visits c.in-Some-Visits.path)) (c.in-Some-Visits.is ∙ ap (λ k. Some k) c.in-Some-Visits.field-0-is)
    (elim c.visits.ensures [ inl p ↦ inl (refl, p) | inr p ↦ inr (refl, p) ], ((refl, refl), same_refusals g.F.TurnFn.refusals (desk_of old) (desk_of new) reply refl)) in
    ([], null, tt, all.0, all.1)

pub returns-in-Some-Save-clause-does : goal.returns-in-Some-Save-clause-does
returns-in-Some-Save-clause-does g c =
    let old = c.args.player.now in
    let new = c.args.player.now in
    let reply = reply_of_text c.save_text.ensures.does.0 c.save_text.result in
    let does = c.save_text.ensures.does in
    let all = came g.F.TurnFn.log g.F.TurnFn.refusals g.O.Watcher.state _ _ [] (scene_of old) reply (scene_of new) c.args.command (Some line.Save) (c.in-Some-Save.is ∙ ap (λ k. Some k) c.in-Some-Save.field-0-is)
    (inl (refl, does.2), ((refl, refl), same_refusals g.F.TurnFn.refusals (desk_of old) (desk_of new) reply refl)) in
    ([], does.0, does.1, all.0, all.1)

pub returns-in-Some-Choose-clause-does : goal.returns-in-Some-Choose-clause-does
returns-in-Some-Choose-clause-does g c =
    let old = c.args.player.now in
    let new = c.choose.new.self in
    let reply = reply_of_landing c.choose.result in
    let all = came g.F.TurnFn.log g.F.TurnFn.refusals g.O.Watcher.state _ _ [] (scene_of old) reply (scene_of new) c.args.command (Some (line.Choose c.in-Some-Choose.number)) (c.in-Some-Choose.is ∙ ap (λ k. Some k) c.in-Some-Choose.field-0-is)
    (inl (refl, c.choose.ensures.does), ((refl, c.choose.ensures.desk), same_refusals g.F.TurnFn.refusals (desk_of old) (desk_of new) reply (ap (λ d. d.functions) c.choose.ensures.desk))) in
    ([], null, tt, all.0, all.1)

pub returns-in-Some-Jump-clause-does : goal.returns-in-Some-Jump-clause-does
returns-in-Some-Jump-clause-does g c =
    let old = c.args.player.now in
    let new = c.jump.new.self in
    let reply = reply_of_landing c.jump.result in
    let all = came g.F.TurnFn.log g.F.TurnFn.refusals g.O.Watcher.state _ _ [] (scene_of old) reply (scene_of new) c.args.command (Some (line.Jump c.in-Some-Jump.path)) (c.in-Some-Jump.is ∙ ap (λ k. Some k) c.in-Some-Jump.field-0-is)
    (elim c.jump.ensures.does [ inl p ↦ inl (refl, p) | inr p ↦ inr (refl, p) ], ((refl, c.jump.ensures.desk), same_refusals g.F.TurnFn.refusals (desk_of old) (desk_of new) reply (ap (λ d. d.functions) c.jump.ensures.desk))) in
    ([], null, tt, all.0, all.1)

pub returns-in-Some-Flow-clause-does : goal.returns-in-Some-Flow-clause-does
returns-in-Some-Flow-clause-does g c =
    let old = c.args.player.now in
    let new = c.flow.new.self in
    let reply = reply_of_landing c.flow.result in
    let all = came g.F.TurnFn.log g.F.TurnFn.refusals g.O.Watcher.state _ _ [] (scene_of old) reply (scene_of new) c.args.command (Some (line.Flow c.in-Some-Flow.name)) (c.in-Some-Flow.is ∙ ap (λ k. Some k) c.in-Some-Flow.field-0-is)
    (inl (refl, c.flow.ensures.does), ((refl, c.flow.ensures.desk), same_refusals g.F.TurnFn.refusals (desk_of old) (desk_of new) reply (ap (λ d. d.functions) c.flow.ensures.desk))) in
    ([], null, tt, all.0, all.1)

pub returns-in-Some-Drop-clause-does : goal.returns-in-Some-Drop-clause-does
returns-in-Some-Drop-clause-does g c =
    let old = c.args.player.now in
    let new = c.drop_flow.new.self in
    let reply = reply_of_landing c.drop_flow.result in
    let all = came g.F.TurnFn.log g.F.TurnFn.refusals g.O.Watcher.state _ _ [] (scene_of old) reply (scene_of new) c.args.command (Some (line.Drop c.in-Some-Drop.name)) (c.in-Some-Drop.is ∙ ap (λ k. Some k) c.in-Some-Drop.field-0-is)
    (inl (refl, c.drop_flow.ensures.does), ((refl, c.drop_flow.ensures.desk), same_refusals g.F.TurnFn.refusals (desk_of old) (desk_of new) reply (ap (λ d. d.functions) c.drop_flow.ensures.desk))) in
    ([], null, tt, all.0, all.1)

pub returns-in-None-clause-does : goal.returns-in-None-clause-does
returns-in-None-clause-does g c =
    let old = c.args.player.now in
    let all = came g.F.TurnFn.log g.F.TurnFn.refusals g.O.Watcher.state _ _ [] (scene_of old) (Refuses refusal.BadCommand) (scene_of old) c.args.command None c.in-None.is
    (inl (refl, (refl, refl)), untouched g.F.TurnFn.log g.F.TurnFn.refusals g.O.Watcher.state None (scene_of old) refusal.BadCommand) in
    ([], null, tt, all.0, all.1)
