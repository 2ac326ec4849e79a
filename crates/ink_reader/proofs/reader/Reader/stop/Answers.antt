use Rattle.std.proofs.Common.{◌∙◌, [], ◌++◌, None, refl, subst, sym}
use Rattle.ink_reader.proofs.Common.{err_from_is_err_and, stop_told}
use Rattle.ink_reader.specs.Course.{IsStop}
use Rattle.ink_reader.proofs.Courses.{up-behind, up-part, up-whole}
use Rattle.ink_reader.proofs.Tellings.{stop-none, stop-part, stop-some}
use Rattle.ink_reader.proofs.Playing.{played-lost, played-none, played-played, played-stop, played-well}
use Rattle.ink_reader.proofs.reader.Reader.stop.Goals as goal

pub returns-in-Break-clause-reads : goal.returns-in-Break-clause-reads
returns-in-Break-clause-reads g c =
    let old = c.args.self.now in ([], up-whole [] (subst (λ how. IsStop old.saves how [] old.past.here) (sym c.in-Break.is) (refl, c.requires)), played-none)

pub returns-in_err-tell_stop-clause-reads : goal.returns-in_err-tell_stop-clause-reads
returns-in_err-tell_stop-clause-reads g c =
    let old = c.args.self.now in
    let shown = c.tell_stop.ensures.shows in
    let lost = (err_from_is_err_and c.from_residual.result c.from_residual.ensures.1).1 in
    let part = stop-part old.saves c.args.told shown.0 c.in_default.not-Break in (
      stop_told c.args.told shown.0,
      up-part lost (part.0, record { before = old.past.before.items; here = None }, part.1),
      played-lost lost (played-stop c.tell_stop.result c.args.told shown.0 shown.1 shown.3),
    )

pub returns-then-not-branch-clause-reads : goal.returns-then-not-branch-clause-reads
returns-then-not-branch-clause-reads g c =
    let old = c.args.self.now in
    let shown = c.tell_stop.ensures.shows in
    let is = rw c.in_ok-tell_stop.was at shown.2 in
    let ds = stop_told c.args.told shown.0 in (
      ds,
      up-whole ds (stop-none old.saves c.args.told shown.0 old.past.here c.in_default.not-Break (sym c.if-not-branch.true ∙ is) c.requires),
      played-well c.in_ok-tell_stop.was (played-stop c.tell_stop.result c.args.told shown.0 shown.1 shown.3),
    )

pub returns-clause-reads : goal.returns-clause-reads
returns-clause-reads g c =
    let old = c.args.self.now in
    let shown = c.tell_stop.ensures.shows in
    let noted = c.note.ensures.reads in
    let is = rw c.in_ok-tell_stop.was at shown.2 in
    let ds = stop_told c.args.told shown.0 in (
      ds ++ noted.0,
      up-behind ds (λ rest end h. stop-some old.saves c.args.told shown.0 rest end.here c.in_default.not-Break (sym c.if-not-branch.false ∙ is) h) noted.1,
      played-played (played-well c.in_ok-tell_stop.was (played-stop c.tell_stop.result c.args.told shown.0 shown.1 shown.3)) noted.2,
    )
