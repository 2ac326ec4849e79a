use Rattle.ink_player.proofs.Sessions.{told_by}
use Rattle.ink_player.proofs.session.write_made.Goals as goal

pub returns-in-Ok-clause-told : goal.returns-in-Ok-clause-told
returns-in-Ok-clause-told g c reply asks made =
    let text = rw c.in-Ok.is at made in
    told_by _ _ c.write_answer.result reply _ text c.write_answer.ensures.written
