use Rattle.std.proofs.Common.{◌∙◌, ap, not, sym}
use Rattle.ink_reader.proofs.Common.{err_from_is_err_and, asked_by, if-ok, places_of}
use Rattle.ink_reader.specs.Session.{quits}
use Rattle.ink_reader.proofs.Courses.{up-lost, up-well}
use Rattle.ink_reader.proofs.Sessions.{course-follows, ending-follows, not-quit}
use Rattle.ink_reader.proofs.Playing.{played-lost, played-well}
use Rattle.ink_reader.proofs.reader.Reader.follow.Goals as goal

pub returns-in-Quit-clause-reads : goal.returns-in-Quit-clause-reads
returns-in-Quit-clause-reads g c =
    let old = c.args.self.now in
    let ends = c.end.ensures.reads in
    let is = ap (λ t. quits (asked_by t)) c.in-Quit.is in
    (ends.0, ending-follows old.saves (places_of old.past) (asked_by c.args.typed) is ends.1, if-ok c.end.result (λ goes no. is ∙ ap not (sym no)) ends.2, ends.3)

pub returns-in_err-answer-in_default-clause-reads : goal.returns-in_err-answer-in_default-clause-reads
returns-in_err-answer-in_default-clause-reads g c =
    let old = c.args.self.now in
    let done = c.answer.ensures.reads in
    let lost = (err_from_is_err_and c.from_residual.result c.from_residual.ensures.1).1 in
    let is = not-quit c.args.typed c.in_default.not-Quit in
    (done.0, up-lost lost (course-follows old.saves (places_of old.past) (asked_by c.args.typed) is done.1), rw lost tt, played-lost lost done.2)

pub returns-in_ok-answer-in_default-clause-reads : goal.returns-in_ok-answer-in_default-clause-reads
returns-in_ok-answer-in_default-clause-reads g c =
    let old = c.args.self.now in
    let done = c.answer.ensures.reads in
    let is = not-quit c.args.typed c.in_default.not-Quit in
    (done.0, up-well c.in_ok-answer-in_default.was (course-follows old.saves (places_of old.past) (asked_by c.args.typed) is done.1), is, played-well c.in_ok-answer-in_default.was done.2)
