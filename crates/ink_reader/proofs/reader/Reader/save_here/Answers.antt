use Rattle.std.proofs.Common.{[], ◌∷◌, refl, subst, sym}
use Rattle.ink_reader.proofs.Common.{err_from_is_err_and, SavesItself, unsaved_told, Keeps}
use Rattle.ink_reader.proofs.Playing.{played-lost, played-none, played-unsaved, played-well}
use Rattle.ink_reader.proofs.reader.Reader.save_here.Goals as goal

pub returns-then-not-self-clause-reads : goal.returns-then-not-self-clause-reads
returns-then-not-self-clause-reads g c = ([], subst (λ b. SavesItself b c.args.save.now []) (sym c.if-not-self.true) refl, played-none)

pub returns-in_err-_kept-clause-reads : goal.returns-in_err-_kept-clause-reads
returns-in_err-_kept-clause-reads g c =
    let kept = c.keep_save.ensures.answers in
    let ds = Keeps c.args.save.now kept.0 ∷ unsaved_told kept.0 in
    let lost = (err_from_is_err_and c.from_residual.result c.from_residual.ensures.1).1 in
    (ds, subst (λ b. SavesItself b c.args.save.now ds) (sym c.if-not-self.false) (kept.0, refl), played-lost lost (played-unsaved c.keep_save.result kept.0 kept.1 kept.3))

pub returns-clause-reads : goal.returns-clause-reads
returns-clause-reads g c =
    let kept = c.keep_save.ensures.answers in
    let ds = Keeps c.args.save.now kept.0 ∷ unsaved_told kept.0 in
    (ds, subst (λ b. SavesItself b c.args.save.now ds) (sym c.if-not-self.false) (kept.0, refl), played-well c.in_ok-_kept.was (played-unsaved c.keep_save.result kept.0 kept.1 kept.3))
