use Rattle.std.proofs.Common.{◌∙◌, ◌++◌, sym}
use Rattle.ink_reader.proofs.Common.{err_from_is_err_and, places_of}
use Rattle.ink_reader.specs.Session.{IsSession}
use Rattle.ink_reader.proofs.Playing.{played-lost, played-played, played-well}
use Rattle.ink_reader.proofs.Sessions.{continues-to, next-append, read-part, read-whole}
use Rattle.ink_reader.proofs.reader.Reader.read_to_end.Goals as goal

pub returns-in_err-open-clause-reads : goal.returns-in_err-open-clause-reads
returns-in_err-open-clause-reads g c =
    let old = c.args.self.now in
    let first = c.open.ensures.reads in
    let lost = (err_from_is_err_and c.from_residual.result c.from_residual.ensures.1).1 in
    let off = rw c.in_err-open.was at first.3 in
    (first.0, first.1, first.2, read-part (IsSession old.saves (places_of old.past)) first.0 first.1 (places_of c.open.new.self.past) lost off, played-lost lost first.4)

pub returns-then-not-branch-clause-reads : goal.returns-then-not-branch-clause-reads
returns-then-not-branch-clause-reads g c =
    let old = c.args.self.now in
    let first = c.open.ensures.reads in
    let by = rw c.in_ok-open.was at first.3 in
    let last = rw c.if-not-branch.true at by in
    (first.0, first.1, first.2, read-whole (IsSession old.saves (places_of old.past)) first.0 first.1 (places_of c.open.new.self.past) last, played-well c.in_ok-open.was first.4)

pub returns-clause-reads : goal.returns-clause-reads
returns-clause-reads g c =
    let old = c.args.self.now in
    let first = c.open.ensures.reads in
    let by = rw c.in_ok-open.was at first.3 in
    let after = rw c.if-not-branch.false at by in
    let rest = rw c.open.ensures.look at c.read_lines.ensures.reads in (
      first.0 ++ rest.0,
      first.1 ++ rest.1,
      next-append first.0 rest.0 (g.L.Lines.coming c.args.lines.now) (g.L.Lines.coming c.open.new.lines) (g.L.Lines.coming c.read_lines.new.lines) first.2 rest.2,
      continues-to (IsSession old.saves (places_of old.past)) c.open.new.self.saves (places_of c.open.new.self.past) first.0 rest.0 first.1 rest.1 after (places_of c.read_lines.new.self.past) rest.3,
      played-played (played-well c.in_ok-open.was first.4) rest.4,
    )

pub returns-clause-saves : goal.returns-clause-saves
returns-clause-saves g c = λ h. c.open.ensures.saves (sym c.read_lines.ensures.settings.1 ∙ h)
