use Rattle.ink_page.specs.Showing.{said}
use Rattle.ink_reader.specs.Notices.{Began, PlaceUntold, word_text}
use Rattle.ink_reader.proofs.Playing.{last-written}
use Rattle.ink_reader.proofs.telling.tell_path.Goals as goal

pub returns-in_default-clause-shows : goal.returns-in_default-clause-shows
returns-in_default-clause-shows g c =
    rw c.in_default.is (last-written (g.T.Sink.contents c.args.sink.now) (g.T.Sink.contents c.say.new.sink) (said c.args.look (word_text PlaceUntold)) c.say.result c.say.ensures.shows)

pub returns-in-Some-clause-shows : goal.returns-in-Some-clause-shows
returns-in-Some-clause-shows g c =
    let wrote = last-written (g.T.Sink.contents c.args.sink.now) (g.T.Sink.contents c.say_path.new.sink) (said c.args.look (word_text (Began c.as_str.result.now))) c.say_path.result c.say_path.ensures.shows in
    rw (c.in-Ok.is, c.in-Some.is) (rw c.as_str.ensures at wrote)
