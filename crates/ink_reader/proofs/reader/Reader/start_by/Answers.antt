use Rattle.std.proofs.Common.{◌∙◌, [], ◌++◌, bytes_eq, codes, false, subst, sym}
use Rattle.ink_reader.proofs.Common.{err_from_is_err_and, places_of}
use Rattle.ink_reader.specs.Session.{Begins, Starts}
use Rattle.ink_reader.proofs.Playing.{played-lost, played-played, played-well}
use Rattle.ink_reader.proofs.Sessions.{and-false, and-left, and-true, part-read, read-behind, resumed, resumed-not, resumed-part}
use Rattle.ink_reader.proofs.reader.Reader.start_by.Goals as goal

pub returns-then-eq-clause-reads : goal.returns-then-eq-clause-reads
returns-then-eq-clause-reads g c =
    let old = c.args.self.now in
    let is = sym c.eq.ensures ∙ c.if-eq.true in
    let told = c.start.ensures.reads in (
      told.0,
      read-behind c.start.result (Starts (bytes_eq c.args.wish.now (codes "n")) old.saves (places_of old.past)) (Begins old.saves (places_of old.past)) old.saves c.start.new.self.saves [] [] [] told.0 (places_of c.start.new.self.past) c.start.ensures.settings.1
          (λ others more end h. subst (λ b. Starts b old.saves (places_of old.past) others more end) (sym is) h) told.1,
      told.2,
    )

pub returns-in_err-resume-clause-reads : goal.returns-in_err-resume-clause-reads
returns-in_err-resume-clause-reads g c =
    let old = c.args.self.now in
    let is = sym c.eq.ensures ∙ c.if-eq.false in
    let read = c.resume.ensures.reads in
    let lost = (err_from_is_err_and c.from_residual.result c.from_residual.ensures.1).1 in
    let part = resumed-part old.saves (places_of old.past) read.0 read.1 in (
      read.0,
      part-read (Starts (bytes_eq c.args.wish.now (codes "n")) old.saves (places_of old.past)) c.resume.new.self.saves [] read.0 (places_of c.resume.new.self.past) lost (part.0, part.1, part.2, subst (λ b. Starts b old.saves (places_of old.past) part.0 (read.0 ++ part.1) part.2) (sym is) part.3),
      played-lost lost read.3,
    )

pub returns-then-branch-clause-reads : goal.returns-then-branch-clause-reads
returns-then-branch-clause-reads g c =
    let old = c.args.self.now in
    let now = c.resume.new.self in
    let is = sym c.eq.ensures ∙ c.if-eq.false in
    let read = c.resume.ensures.reads in
    let loaded = rw c.in_ok-resume.was at read.2 in
    let saves = rw c.in_ok-resume.was at c.resume.ensures.saves in
    let after = resumed old.saves (places_of old.past) now.saves read.0 (places_of now.past) c.in_ok-resume.was read.1 (saves ∙ and-true old.saves c.in_ok-resume.field-0 c.if-branch.true) (sym loaded ∙ c.if-branch.true) in
    (read.0, (λ others more end h. subst (λ b. Starts b old.saves (places_of old.past) others (read.0 ++ more) end) (sym is) (after others more end h)), played-well c.in_ok-resume.was read.3)

pub returns-clause-reads : goal.returns-clause-reads
returns-clause-reads g c =
    let old = c.args.self.now in
    let now = c.resume.new.self in
    let is = sym c.eq.ensures ∙ c.if-eq.false in
    let read = c.resume.ensures.reads in
    let loaded = rw c.in_ok-resume.was at read.2 in
    let saves = rw c.in_ok-resume.was at c.resume.ensures.saves in
    let none = saves ∙ and-false old.saves c.in_ok-resume.field-0 c.if-branch.false in
    let told = rw (c.resume.ensures.look, none) at c.start-2.ensures.reads in
    let after = resumed-not old.saves (places_of old.past) read.0 (places_of now.past) c.in_ok-resume.was read.1 (sym loaded ∙ c.if-branch.false) in (
      read.0 ++ told.0,
      read-behind c.start-2.result (Starts (bytes_eq c.args.wish.now (codes "n")) old.saves (places_of old.past)) (Begins false (places_of now.past)) false c.start-2.new.self.saves [] [] read.0 told.0 (places_of c.start-2.new.self.past) (c.start-2.ensures.settings.1 ∙ none)
          (λ others more end h. subst (λ b. Starts b old.saves (places_of old.past) others (read.0 ++ more) end) (sym is) (after others more end h)) told.1,
      played-played (played-well c.in_ok-resume.was read.3) told.2,
    )

pub returns-then-eq-clause-saves : goal.returns-then-eq-clause-saves
returns-then-eq-clause-saves g c = λ h. sym c.start.ensures.settings.1 ∙ h

pub returns-in_err-resume-clause-saves : goal.returns-in_err-resume-clause-saves
returns-in_err-resume-clause-saves g c = λ h. sym (rw c.in_err-resume.was at c.resume.ensures.stays) ∙ h

pub returns-then-branch-clause-saves : goal.returns-then-branch-clause-saves
returns-then-branch-clause-saves g c = and-left c.args.self.now.saves c.in_ok-resume.field-0 c.resume.new.self.saves (rw c.in_ok-resume.was at c.resume.ensures.saves)

pub returns-clause-saves : goal.returns-clause-saves
returns-clause-saves g c = λ h.
    and-left c.args.self.now.saves c.in_ok-resume.field-0 c.resume.new.self.saves (rw c.in_ok-resume.was at c.resume.ensures.saves) (sym c.start-2.ensures.settings.1 ∙ h)
