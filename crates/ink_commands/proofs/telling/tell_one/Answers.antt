use Rattle.std.proofs.Common.{◌∙◌, [], ◌∷◌, ap, sym}
use Rattle.ink_host.specs.Desk.{watches}
use Rattle.ink_model.specs.Host.Told.{told}
use Rattle.ink_step.specs.Standing.{globals_of}
use Rattle.ink_commands.proofs.Tellings.{tells-all, tells-nobody}
use Rattle.ink_commands.proofs.telling.tell_one.Goals as goal

pub returns-then-not-has_watchers-clause-tells : goal.returns-then-not-has_watchers-clause-tells
returns-then-not-has_watchers-clause-tells g c =
    tells-nobody g.F.TurnFn.log g.O.Watcher.state c.args.desk.now (globals_of c.args.machine.now) ((c.args.name.now, c.args.value.now) ∷ []) (sym c.has_watchers.ensures ∙ c.if-not-has_watchers.true)

pub returns-clause-tells : goal.returns-clause-tells
returns-clause-tells g c =
    let desk = c.args.desk.now in
    let value = (c.args.name.now, c.args.value.now) ∷ [] in
    tells-all g.F.TurnFn.log g.O.Watcher.state c.tell.result desk c.tell.new.desk (globals_of c.args.machine.now) value _
    (c.as_slice.ensures ∙ c.in_ok-changes.ensures.told ∙ ap (λ x. told (watches desk.watchers) x value) c.globals.ensures) c.tell.ensures.tells
