use Rattle.ink_model.specs.Protocol.Answer.{reply_of_events}
use Rattle.ink_reader.proofs.Playing.{played-gives}
use Rattle.ink_reader.proofs.reader.Reader.stand_at.Goals as goal

pub returns-clause-loads : goal.returns-clause-loads
returns-clause-loads g c = (
  reply_of_events c.load_save-outcome.result,
  c.tell_outcome.ensures.done,
  λ kept. played-gives c.tell_outcome.result c.load_save-outcome.ensures c.tell_outcome.ensures.shows,
)
