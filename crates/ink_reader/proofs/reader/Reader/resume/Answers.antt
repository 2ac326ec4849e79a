use Rattle.std.proofs.lemmas.Result.{err_from_is_err_and}
use Rattle.ink_reader.proofs.Courses.{up-lost, up-well}
use Rattle.ink_reader.proofs.Playing.{played-lost, played-well}
use Rattle.ink_reader.proofs.reader.Reader.resume.Goals as goal

pub returns-in_err-loaded-clause-reads : goal.returns-in_err-loaded-clause-reads
returns-in_err-loaded-clause-reads g c =
    let read = c.load.ensures.reads in
    let lost = (err_from_is_err_and c.from_residual.result c.from_residual.ensures.1).1 in
    (read.0, up-lost lost read.1, rw lost tt, played-lost lost read.3)

pub returns-clause-reads : goal.returns-clause-reads
returns-clause-reads g c = let read = c.load.ensures.reads in (read.0, up-well c.in_ok-loaded.was read.1, rw c.in_ok-loaded.was at read.2, played-well c.in_ok-loaded.was read.3)
