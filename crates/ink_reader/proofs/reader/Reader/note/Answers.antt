use Rattle.std.proofs.Common.{◌∙◌, [], ◌∷◌, Some, ap, refl, subst}
use Rattle.ink_reader.proofs.Common.{err_from_is_err_and, Refuses, Saves, SavesItself, Gives, Says}
use Rattle.ink_model.specs.Protocol.Command as command
use Rattle.ink_reader.specs.Notices.{PlaceLacks}
use Rattle.ink_reader.proofs.Courses.{up-lapsed, up-whole}
use Rattle.ink_reader.proofs.Playing.{played-hushed, played-lost, played-played, played-says, played-well}
use Rattle.ink_reader.proofs.reader.Reader.note.Goals as goal

pub returns-in_err-save_here-in-Ok-clause-reads : goal.returns-in_err-save_here-in-Ok-clause-reads
returns-in_err-save_here-in-Ok-clause-reads g c =
    let gave = c.in-Ok.ensures.gave in
    let saved = c.save_here.ensures.reads in
    let old = c.args.self.now in
    let lost = (err_from_is_err_and c.from_residual.result c.from_residual.ensures.1).1 in
    let itself = subst (λ text. SavesItself old.saves text saved.0) gave.1 saved.1 in (
      Gives command.Save (Saves gave.0) ∷ saved.0,
      up-lapsed lost (Gives command.Save (Saves gave.0) ∷ saved.0) (record { before = old.past.before.items; here = Some c.in-Ok.save }) (ap Some gave.1, itself),
      played-lost lost (played-played (played-hushed refl gave.2) saved.2),
    )

pub returns-in_ok-save_here-in-Ok-clause-reads : goal.returns-in_ok-save_here-in-Ok-clause-reads
returns-in_ok-save_here-in-Ok-clause-reads g c =
    let gave = c.in-Ok.ensures.gave in
    let saved = c.save_here.ensures.reads in
    let old = c.args.self.now in
    let itself = subst (λ text. SavesItself old.saves text saved.0) gave.1 saved.1 in (
      Gives command.Save (Saves gave.0) ∷ saved.0,
      up-whole (Gives command.Save (Saves gave.0) ∷ saved.0) (c.stand.ensures.here ∙ ap Some gave.1, itself),
      played-well c.in_ok-save_here-in-Ok.was (played-played (played-hushed refl gave.2) saved.2),
    )

pub returns-in-Err-clause-reads : goal.returns-in-Err-clause-reads
returns-in-Err-clause-reads g c =
    let gave = c.in-Err.ensures.gave in
    let reply = Refuses c.in-Err.field-0 in
    let ds = Gives command.Save reply ∷ Says PlaceLacks ∷ [] in
    (ds, up-whole ds (c.requires, refl), played-played (played-hushed refl gave.2) (played-says c.say.result PlaceLacks refl c.say.ensures.shows))
