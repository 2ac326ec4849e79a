use Rattle.std.proofs.Common.{[], ◌∷◌, ap, refl}
use Rattle.ink_reader.proofs.Common.{Refuses, Saves, state_of, story_of, saving_told, Gives, Keeps, Says, Refused}
use Rattle.ink_model.specs.Protocol.Command as command
use Rattle.ink_reader.proofs.Keeping.{kept-saved}
use Rattle.ink_reader.proofs.Playing.{played-hushed, played-played, played-says}
use Rattle.ink_reader.proofs.reader.Reader.save.Goals as goal

pub returns-in-Ok-clause-reads : goal.returns-in-Ok-clause-reads
returns-in-Ok-clause-reads g c =
    let gave = c.in-Ok.ensures.gave in
    let kept = c.keep.ensures.reads in (
      Gives command.Save (Saves gave.0) ∷ Keeps c.in-Ok.save kept.0 ∷ saving_told kept.0,
      (kept.0, ap (λ text. Keeps text kept.0 ∷ saving_told kept.0) gave.1),
      played-played (played-hushed refl gave.2) kept.1,
    )

pub returns-in-Ok-clause-keeps : goal.returns-in-Ok-clause-keeps
returns-in-Ok-clause-keeps g c = kept-saved (story_of c.args.self.now.player) (state_of c.args.self.now.player) (g.S.Shelf.kept c.args.shelf.now) (g.S.Shelf.kept c.keep.new.shelf) c.in-Ok.save c.keep.ensures.keeps c.in-Ok.ensures.reads

pub returns-in-Err-clause-reads : goal.returns-in-Err-clause-reads
returns-in-Err-clause-reads g c =
    let gave = c.in-Err.ensures.gave in (
      Gives command.Save (Refuses c.in-Err.refusal) ∷ Says (Refused c.in-Err.refusal) ∷ [],
      refl,
      played-played (played-hushed refl gave.2) (played-says c.say.result (Refused c.in-Err.refusal) c.refusal_words.ensures c.say.ensures.shows),
    )
