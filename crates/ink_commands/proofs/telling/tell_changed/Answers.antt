use Rattle.std.proofs.Common.{◌∙◌, sym}
use Rattle.ink_step.specs.Standing.{globals_of, start_of}
use Rattle.ink_commands.proofs.Tellings.{tells-nobody}
use Rattle.ink_commands.proofs.telling.tell_changed.Goals as goal

pub returns-clause-tells : goal.returns-clause-tells
returns-clause-tells g c =
    let machine = c.args.machine.now in
    tells-nobody g.F.TurnFn.log g.O.Watcher.state c.args.desk.now (start_of machine) (globals_of machine) (sym c.has_watchers.ensures ∙ c.if-has_watchers.false)
