use Rattle.std.proofs.Common.{◌∙◌, ap}
use Rattle.ink_host.specs.Desk.{watches}
use Rattle.ink_model.specs.Host.Told.{told}
use Rattle.ink_step.specs.Standing.{globals_of}
use Rattle.ink_commands.proofs.Tellings.{tells-all}
use Rattle.ink_commands.proofs.telling.tell_between.Goals as goal

pub returns-clause-tells : goal.returns-clause-tells
returns-clause-tells g c =
    let desk = c.args.desk.now in
    let w = watches desk.watchers in
    tells-all g.F.TurnFn.log g.O.Watcher.state c.tell.result desk c.tell.new.desk (globals_of c.args.old.now) (globals_of c.args.new.now) _
    (c.as_slice.ensures ∙ c.in_ok-changes.ensures.told ∙ ap (λ x. told w x c.globals-2.result.now.rows) c.globals.ensures ∙ ap (told w (globals_of c.args.old.now)) c.globals-2.ensures)
    c.tell.ensures.tells
