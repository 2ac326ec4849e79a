use Rattle.std.proofs.Common.{refl}
use Rattle.std.proofs.lemmas.Result.{err_from_is_err_and}
use Rattle.ink_reader.proofs.Courses.{up-lost, up-well}
use Rattle.ink_reader.proofs.Playing.{played-lost, played-well}
use Rattle.ink_reader.proofs.reader.Reader.end.Goals as goal

pub returns-in_err-quit-clause-reads : goal.returns-in_err-quit-clause-reads
returns-in_err-quit-clause-reads g c =
    let ends = c.quit.ensures.reads in
    let lost = (err_from_is_err_and c.from_residual.result c.from_residual.ensures.1).1 in
    (ends.0, up-lost lost ends.1, rw lost tt, played-lost lost ends.2)

pub returns-clause-reads : goal.returns-clause-reads
returns-clause-reads g c = let ends = c.quit.ensures.reads in (ends.0, up-well c.in_ok-quit.was ends.1, refl, played-well c.in_ok-quit.was ends.2)
