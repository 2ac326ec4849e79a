use Rattle.ink_model.specs.Protocol.Answer.{Refuses, Shows}
use Rattle.ink_reader.proofs.Playing.{played-gives}
use Rattle.ink_reader.proofs.reader.Reader.tell_variable.Goals as goal

pub returns-in-Ok-clause-shows : goal.returns-in-Ok-clause-shows
returns-in-Ok-clause-shows g c = (Shows c.in-Ok.value, λ kept. played-gives c.show_value.result c.in-Ok.ensures c.show_value.ensures.shows)

pub returns-in-Err-clause-shows : goal.returns-in-Err-clause-shows
returns-in-Err-clause-shows g c = (Refuses c.in-Err.refusal, λ kept. played-gives c.say.result c.in-Err.ensures (rw c.refusal_words.ensures at c.say.ensures.shows))
