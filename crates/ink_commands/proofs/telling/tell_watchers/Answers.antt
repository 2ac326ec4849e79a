use Rattle.std.proofs.Common.{◌∙◌}
use Rattle.ink_step.specs.Standing.{globals_of, start_of}
use Rattle.ink_commands.proofs.Tellings.{tells-all}
use Rattle.ink_commands.proofs.telling.tell_watchers.Goals as goal

pub returns-clause-tells : goal.returns-clause-tells
returns-clause-tells g c =
    let desk = c.args.desk.now in
    let machine = c.args.machine.now in
    tells-all g.F.TurnFn.log g.O.Watcher.state c.tell.result desk c.tell.new.desk (start_of machine) (globals_of machine) _ (c.as_slice.ensures ∙ c.in_ok-changes.ensures.told) c.tell.ensures.tells
