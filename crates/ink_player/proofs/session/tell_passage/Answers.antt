use Rattle.std.proofs.Common.{refl}
use Rattle.ink_model.specs.Protocol.Answer.{Tells}
use Rattle.ink_player.proofs.Sessions.{made_as}
use Rattle.ink_player.proofs.session.tell_passage.Goals as goal

pub returns-clause-told : goal.returns-clause-told
returns-clause-told g c = c.write_made.ensures.told (Tells c.args.passage) refl (made_as c.passage_text-made.result _ _ _ c.deref.ensures.value c.passage_text-made.ensures)
