use Rattle.std.proofs.Common.{◌≢◌, ◌∙◌, [], false, ap, subst, sym, refl, Ok}
use Rattle.ink_commands.specs.Telling.{TellsWatchers}
use Rattle.ink_host.specs.Desk.{Rows, bound_by, watches}
use Rattle.ink_model.specs.Protocol.Answer.{reply_of, reply_of_halt}
use Rattle.ink_player.proofs.Common.{Values, told, PlayerView, desk_of, is_empty, state_of, story_of, config_of, globals_of}
use Rattle.ink_player.proofs.Tellings.{broken-as, goes-broken, goes-fault, goes-told, goes-untold, goes-where, none-left, run-none, stops, told-state, with_parts}
use Rattle.ink_player.proofs.Standing.{aside-stays, free-stands, run-stands, stands-told}
use Rattle.ink_player.proofs.Refusals.{broke, kept_with, none_called, replied}
use Rattle.ink_player.proofs.player.Player.go_on.Goals as goal

pub returns-in-Some-clause-does : goal.returns-in-Some-clause-does
returns-in-Some-clause-does g c =
    let p : PlayerView g.row.P.Denot g.row.F.Denot g.row.O.Denot = record { story = c.self.inside.story; desk = c.self.inside.desk; machine = c.self.inside.machine; broken = c.self.inside.broken } in
    rw (sym c.self.view_is) ([], goes-broken _ _ p.broken _ _ _ c.args.extent c.in-Some.fault c.in-Some.is, run-none g.F.TurnFn.log g.O.Watcher.state _ (desk_of p) _)

pub returns-then-not-can_go_on-clause-does : goal.returns-then-not-can_go_on-clause-does
returns-then-not-can_go_on-clause-does g c =
    let p : PlayerView g.row.P.Denot g.row.F.Denot g.row.O.Denot = record { story = c.self.inside.story; desk = c.self.inside.desk; machine = c.self.inside.machine; broken = c.self.inside.broken } in
    let s = story_of p in
    let stopped = sym (c.can_go_on.ensures s) ∙ c.if-not-can_go_on.true in
    rw (sym c.self.view_is) ([], goes-where s _ p.broken _ _ _ c.args.extent [] _ _ false c.in_default.is stopped (refl, (refl, refl)), run-none g.F.TurnFn.log g.O.Watcher.state _ (desk_of p) _)

pub returns-in-Ok-tell_changed-clause-does : goal.returns-in-Ok-tell_changed-clause-does
returns-in-Ok-tell_changed-clause-does g c =
    let p : PlayerView g.row.P.Denot g.row.F.Denot g.row.O.Denot = record { story = c.self.inside.story; desk = c.self.inside.desk; machine = c.self.inside.machine; broken = c.self.inside.broken } in
    let mid = c.run_to.new.desk in
    let runs = c.in-Ok.ensures.runs in
    let q = with_parts p c.run_to.new.machine c.end_run.new.desk c.end_run.new.broken in
    let after = config_of (story_of p) c.run_to.new.machine in
    let now = globals_of c.run_to.new.machine in
    let tells = subst (λ (vs : Values). let cs = told (watches mid.watchers) vs now in TellsWatchers {E = Unit {0}} g.F.TurnFn.log g.O.Watcher.state mid cs cs (Ok c.in-Ok-tell_changed.all) c.tell_changed.new.desk)
    c.in-Ok.ensures.start c.in-Ok-tell_changed.ensures.tells in
    let leaves = told-state p c.run_to.new.machine c.end_run.new.desk c.tell_changed.new.desk c.end_run.new.broken p.broken c.in-Ok-tell_changed.all after c.in_default.is
    c.end_run.ensures.broken c.end_run.ensures.desk refl in
    rw (sym c.self.view_is) (goes-told g.F.TurnFn.log g.O.Watcher.state c.args.extent g.P.PureFn.meaning p c.run_to.new.machine mid runs.0 c.in_default.is (none-left p.desk.events c.self.invariant.taken)
    (sym (c.can_go_on.ensures (story_of p)) ∙ c.if-not-can_go_on.false) c.in-Ok.ensures.aside runs.1 c.in-Ok.ensures.watchers c.in-Ok.passage c.in-Ok-tell_changed.all c.tell_changed.new.desk (desk_of q) (reply_of c.end_run.result) (state_of q)
    runs.2 tells c.end_run.ensures.reply leaves c.end_run.ensures.desk)

pub returns-in-Err-tell_changed-clause-does : goal.returns-in-Err-tell_changed-clause-does
returns-in-Err-tell_changed-clause-does g c =
    let p : PlayerView g.row.P.Denot g.row.F.Denot g.row.O.Denot = record { story = c.self.inside.story; desk = c.self.inside.desk; machine = c.self.inside.machine; broken = c.self.inside.broken } in
    let mid = c.run_to.new.desk in
    let runs = c.in-Ok.ensures.runs in
    let start = globals_of p.machine in
    let now = globals_of c.run_to.new.machine in
    let some : told (watches p.desk.watchers) start now ≢ [] =
    subst (λ (ws : Rows _). told (watches ws) start now ≢ []) c.in-Ok.ensures.watchers
    (subst (λ (vs : Values). told (watches mid.watchers) vs now ≢ []) c.in-Ok.ensures.start c.in-Err-tell_changed.ensures.tells.0) in
    let broken = c.break_by-in-Err-tell_changed in
    let q = with_parts p c.run_to.new.machine broken.new.desk broken.new.broken in
    rw (sym c.self.view_is) (goes-untold g.F.TurnFn.log g.O.Watcher.state c.args.extent g.P.PureFn.meaning p c.run_to.new.machine mid runs.0 c.in_default.is (none-left p.desk.events c.self.invariant.taken)
    (sym (c.can_go_on.ensures (story_of p)) ∙ c.if-not-can_go_on.false) c.in-Ok.ensures.aside runs.1 c.in-Ok.ensures.watchers c.in-Ok.passage q c.tell_changed.new.desk (reply_of_halt broken.result)
    runs.2 some c.in-Err-tell_changed.ensures.tells.1 broken.ensures.reply (broken-as p c.run_to.new.machine broken.new.desk c.tell_changed.new.desk broken.new.broken _ broken.ensures.desk broken.ensures.broken))

pub returns-in-Err-clause-does : goal.returns-in-Err-clause-does
returns-in-Err-clause-does g c =
    let p : PlayerView g.row.P.Denot g.row.F.Denot g.row.O.Denot = record { story = c.self.inside.story; desk = c.self.inside.desk; machine = c.self.inside.machine; broken = c.self.inside.broken } in
    let mid = c.run_to.new.desk in
    let runs = c.in-Err.ensures.runs in
    let q = with_parts p c.run_to.new.machine c.break_by.new.desk c.break_by.new.broken in
    rw (sym c.self.view_is) (goes-fault g.F.TurnFn.log g.O.Watcher.state c.args.extent g.P.PureFn.meaning p c.run_to.new.machine mid runs.0 c.in_default.is (none-left p.desk.events c.self.invariant.taken)
    (sym (c.can_go_on.ensures (story_of p)) ∙ c.if-not-can_go_on.false) c.in-Err.ensures.aside runs.1 c.in-Err.ensures.watchers c.in-Err.fault q (reply_of_halt c.break_by.result)
    runs.2 c.break_by.ensures.reply (broken-as p c.run_to.new.machine c.break_by.new.desk mid c.break_by.new.broken _ c.break_by.ensures.desk c.break_by.ensures.broken))

pub invariant_of-self-in-Ok-tell_changed : goal.invariant_of-self-in-Ok-tell_changed
invariant_of-self-in-Ok-tell_changed g c =
    let p : PlayerView g.row.P.Denot g.row.F.Denot g.row.O.Denot = record { story = c.self.inside.story; desk = c.self.inside.desk; machine = c.self.inside.machine; broken = c.self.inside.broken } in
    let s = story_of p in
    let kept = c.self.invariant in
    let runs = c.in-Ok.ensures.runs in
    let goes = sym (c.can_go_on.ensures s) ∙ c.if-not-can_go_on.false in
    let before = config_of s p.machine in
    let stopped = stops g.F.TurnFn.log g.O.Watcher.state c.args.extent g.P.PureFn.meaning p c.run_to.new.machine c.run_to.new.desk runs.0 c.in_default.is (none-left p.desk.events kept.taken) goes c.in-Ok.ensures.aside runs.1 c.in-Ok.ensures.watchers
    c.in-Ok.passage runs.2 in
    stands-told s kept.story kept.opens c.run_to.new.machine c.end_run.new.desk.events c.in-Ok-tell_changed.all c.end_run.new.broken p.broken (ap (λ d. is_empty d.events) c.end_run.ensures.desk) c.in_default.is c.end_run.ensures.broken c.in-Ok.ensures.mark
    (run-stands s kept.story before (free-stands s kept.story p.broken before c.in_default.is kept.fits) c.args.extent (bound_by g.P.PureFn.meaning p.desk.functions) runs.0 stopped.0 (config_of s c.run_to.new.machine) goes stopped.1 stopped.3)
    (aside-stays s kept.story p.machine c.run_to.new.machine c.in-Ok.ensures.aside kept.aside)

-- ---- turn functions that were refused memory

pub returns-in-Some-clause-refusals : goal.returns-in-Some-clause-refusals
returns-in-Some-clause-refusals g c =
    let p : PlayerView g.row.P.Denot g.row.F.Denot g.row.O.Denot = record { story = c.self.inside.story; desk = c.self.inside.desk; machine = c.self.inside.machine; broken = c.self.inside.broken } in
    rw (sym c.self.view_is) (none_called g.F.TurnFn.refusals (desk_of p))

pub returns-then-not-can_go_on-clause-refusals : goal.returns-then-not-can_go_on-clause-refusals
returns-then-not-can_go_on-clause-refusals g c =
    let p : PlayerView g.row.P.Denot g.row.F.Denot g.row.O.Denot = record { story = c.self.inside.story; desk = c.self.inside.desk; machine = c.self.inside.machine; broken = c.self.inside.broken } in
    rw (sym c.self.view_is) (none_called g.F.TurnFn.refusals (desk_of p))

pub returns-in-Ok-tell_changed-clause-refusals : goal.returns-in-Ok-tell_changed-clause-refusals
returns-in-Ok-tell_changed-clause-refusals g c =
    let p : PlayerView g.row.P.Denot g.row.F.Denot g.row.O.Denot = record { story = c.self.inside.story; desk = c.self.inside.desk; machine = c.self.inside.machine; broken = c.self.inside.broken } in
    let same = ap (λ d. d.functions) c.end_run.ensures.desk ∙ c.in-Ok-tell_changed.ensures.functions in
    rw (sym c.self.view_is) (replied g.F.TurnFn.refusals (desk_of p) c.end_run.new.desk (reply_of c.end_run.result) (kept_with g.F.TurnFn.refusals (desk_of p) c.run_to.new.desk c.end_run.new.desk same c.in-Ok.ensures.refusals))

pub returns-in-Err-tell_changed-clause-refusals : goal.returns-in-Err-tell_changed-clause-refusals
returns-in-Err-tell_changed-clause-refusals g c =
    let p : PlayerView g.row.P.Denot g.row.F.Denot g.row.O.Denot = record { story = c.self.inside.story; desk = c.self.inside.desk; machine = c.self.inside.machine; broken = c.self.inside.broken } in
    let broken = c.break_by-in-Err-tell_changed in
    let same = ap (λ d. d.functions) broken.ensures.desk ∙ c.in-Err-tell_changed.ensures.functions in
    rw (sym c.self.view_is) (replied g.F.TurnFn.refusals (desk_of p) broken.new.desk (reply_of_halt broken.result) (kept_with g.F.TurnFn.refusals (desk_of p) c.run_to.new.desk broken.new.desk same c.in-Ok.ensures.refusals))

pub returns-in-Err-clause-refusals : goal.returns-in-Err-clause-refusals
returns-in-Err-clause-refusals g c =
    let p : PlayerView g.row.P.Denot g.row.F.Denot g.row.O.Denot = record { story = c.self.inside.story; desk = c.self.inside.desk; machine = c.self.inside.machine; broken = c.self.inside.broken } in
    let mid = c.run_to.new.desk in
    rw (sym c.self.view_is) (broke g.F.TurnFn.refusals (desk_of p) mid c.break_by.new.desk c.in-Err.fault mid.events (reply_of_halt c.break_by.result) c.break_by.ensures.reply (ap (λ d. d.functions) c.break_by.ensures.desk) c.in-Err.ensures.refusals)
