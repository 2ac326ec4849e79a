use Rattle.std.proofs.Common.{◌∙◌}
use Rattle.ink_reader.proofs.telling.say_path.Goals as goal

pub returns-clause-shows : goal.returns-clause-shows
returns-clause-shows g c = rw (c.as_str.ensures.value ∙ c.in-Ok.ensures.ok) at c.say.ensures.shows
