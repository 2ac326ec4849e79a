use Rattle.serde_json.specs.Data.{null}
use Rattle.ink_player.proofs.session.refuse_line.Goals as goal

pub returns-clause-told : goal.returns-clause-told
returns-clause-told g c = c.tell.ensures.told null tt
