use Rattle.std.proofs.Common.{◌∙◌, [], ◌∷◌, refl, subst, sym}
use Rattle.ink_reader.proofs.Common.{Refuses, Saves, state_of, story_of, SavesItself, Gives, Says, Refused}
use Rattle.ink_model.specs.Protocol.Command as command
use Rattle.ink_reader.specs.Course.{EndsAt}
use Rattle.ink_reader.proofs.Courses.{ends-none, ends-refused, ends-saved, ends-unasked, up-whole}
use Rattle.ink_reader.proofs.Keeping.{kept-saved}
use Rattle.ink_reader.proofs.Playing.{played-hushed, played-none, played-played, played-says}
use Rattle.ink_reader.proofs.reader.Reader.quit.Goals.{then-not-self-via-then-not-self, then-not-self-via-else-not-self+then-not-is_at_choice}
use Rattle.ink_reader.proofs.reader.Reader.quit.Goals as goal

pub returns-then-not-self-clause-reads : goal.returns-then-not-self-clause-reads
returns-then-not-self-clause-reads g c =
    let old = c.args.self.now in
    let ends : EndsAt old.saves old.past.here [] = elim c.then-not-self.branch [
      | then-not-self-via-then-not-self w ↦ ends-unasked old.saves old.past.here w.if-not-self.true
      | then-not-self-via-else-not-self+then-not-is_at_choice w ↦ ends-none old.saves old.past.here (sym w.is_at_choice.ensures ∙ w.if-not-is_at_choice.true)
    ] in
    ([], up-whole [] (ends, refl), played-none)

pub returns-in-Ok-clause-reads : goal.returns-in-Ok-clause-reads
returns-in-Ok-clause-reads g c =
    let old = c.args.self.now in
    let gave = c.in-Ok.ensures.gave in
    let saved = c.save_here.ensures.reads in (
      Gives command.Save (Saves gave.0) ∷ saved.0,
      up-whole (Gives command.Save (Saves gave.0) ∷ saved.0)
          (ends-saved old.saves old.past.here c.if-not-self.false (sym c.is_at_choice.ensures ∙ c.if-not-is_at_choice.false) gave.0 saved.0 (subst (λ text. SavesItself old.saves text saved.0) gave.1 saved.1), refl),
      played-played (played-hushed refl gave.2) saved.2,
    )

pub returns-in-Ok-clause-keeps : goal.returns-in-Ok-clause-keeps
returns-in-Ok-clause-keeps g c = kept-saved (story_of c.args.self.now.player) (state_of c.args.self.now.player) (g.S.Shelf.kept c.args.shelf.now) (g.S.Shelf.kept c.save_here.new.shelf) c.in-Ok.save c.save_here.ensures.keeps c.in-Ok.ensures.reads

pub returns-in-Err-clause-reads : goal.returns-in-Err-clause-reads
returns-in-Err-clause-reads g c =
    let old = c.args.self.now in
    let refusal = c.in-Err.refusal in
    let gave = c.in-Err.ensures.gave in (
      Gives command.Save (Refuses refusal) ∷ Says (Refused refusal) ∷ [],
      up-whole (Gives command.Save (Refuses refusal) ∷ Says (Refused refusal) ∷ [])
          (ends-refused old.saves old.past.here c.if-not-self.false (sym c.is_at_choice.ensures ∙ c.if-not-is_at_choice.false) refusal, refl),
      played-played (played-hushed refl gave.2) (played-says c.say.result (Refused refusal) c.refusal_words.ensures c.say.ensures.shows),
    )
