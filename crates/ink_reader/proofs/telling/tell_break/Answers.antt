use Rattle.std.proofs.Common.{subst, sym}
use Rattle.ink_reader.proofs.Common.{Appends-trans, Appends, reply_of_halt, break_told}
use Rattle.ink_reader.specs.Deeds.{deeds_shown, reply_shown}
use Rattle.ink_reader.specs.Notices.{broke_off}
use Rattle.ink_reader.proofs.telling.tell_break.Goals as goal

pub returns-in_ok-tell_path-clause-shows : goal.returns-in_ok-tell_path-clause-shows
returns-in_ok-tell_path-clause-shows g c =
    let look = c.args.look in
    let reply = reply_of_halt c.args.halt.now in
    let old = g.T.Sink.contents c.args.sink.now in
    let mid = g.T.Sink.contents c.tell_halt.new.sink in
    let new = g.T.Sink.contents c.tell_path.new.sink in
    let behind = subst (λ x. Appends mid new (deeds_shown look (break_told (reply_of_halt x) c.args.path.now))) (sym c.in-Fault.is) c.in_ok-tell_path.ensures.shows in
    Appends-trans old mid new (reply_shown look broke_off reply) (deeds_shown look (break_told reply c.args.path.now)) c.in_ok-tell_halt.ensures.shows behind
