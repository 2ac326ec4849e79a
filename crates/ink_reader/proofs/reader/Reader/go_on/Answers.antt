use Rattle.std.proofs.Common.{◌∙◌, ◌++◌}
use Rattle.ink_reader.proofs.Common.{err_from_is_err_and, places_of}
use Rattle.ink_reader.proofs.Courses.{begins, begins-part, up-part}
use Rattle.ink_reader.proofs.Playing.{played-lost, played-played, played-well}
use Rattle.ink_reader.proofs.reader.Reader.go_on.Goals as goal

pub returns-in_err-told-clause-reads : goal.returns-in_err-told-clause-reads
returns-in_err-told-clause-reads g c =
    let lines = c.tell.ensures.lines in
    let old = c.args.self.now in
    let lost = (err_from_is_err_and c.from_residual.result c.from_residual.ensures.1).1 in
    let part = rw c.in_err-told.was at lines.1 in
    (lines.0, up-part lost (begins-part old.saves (places_of old.past) lines.0 part), played-lost lost (lines.2 (g.S.Shelf.kept c.args.shelf.now)))

pub returns-clause-reads : goal.returns-clause-reads
returns-clause-reads g c =
    let lines = c.tell.ensures.lines in
    let stop = c.stop.ensures.reads in
    let old = c.args.self.now in
    let told = rw c.in_ok-told.was at lines.1 in (
      lines.0 ++ stop.0,
      begins old.saves (places_of old.past) c.in_ok-told.told lines.0 told (c.stop.ensures.before ∙ c.stand.ensures.before) stop.1,
      played-played (played-well c.in_ok-told.was (lines.2 (g.S.Shelf.kept c.args.shelf.now))) stop.2,
    )
