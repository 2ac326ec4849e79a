use Rattle.std.proofs.Common.{◌∙◌}
use Rattle.ink_protocol.specs.Replies.{reply_by}
use Rattle.ink_player.proofs.Sessions.{made_as, told_by}
use Rattle.ink_player.proofs.session.tell.Goals as goal

pub returns-in-Some-clause-told : goal.returns-in-Some-clause-told
returns-in-Some-clause-told g c saved has =
    told_by _ _ c.write_answer.result (reply_by saved c.args.outcome) _ (c.as_bytes.ensures.value ∙ c.in-Some.ensures.text saved) c.write_answer.ensures.written

pub returns-clause-told : goal.returns-clause-told
returns-clause-told g c saved has =
    c.write_made.ensures.told (reply_by saved c.args.outcome) (c.in_default.ensures.none saved) (made_as c.answer_text-made.result _ _ _ c.deref.ensures.value (c.answer_text-made.ensures saved has))
