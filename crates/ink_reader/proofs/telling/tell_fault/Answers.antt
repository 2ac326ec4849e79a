use Rattle.std.proofs.Common.{◌∙◌, ◌++◌, List, ℕ, OnOk, ap, append_assoc, subst}
use Rattle.ink_reader.proofs.Common.{Appends-trans, Appends}
use Rattle.ink_page.specs.Showing.{events_shown, said}
use Rattle.ink_reader.proofs.Playing.{more-written}
use Rattle.ink_reader.proofs.telling.tell_fault.Goals as goal

pub returns-clause-shows : goal.returns-clause-shows
returns-clause-shows g c =
    let look = c.args.look in
    let events = events_shown look c.args.events.now in
    let fault = said look c.fault_words.result.now in
    let stands = said look c.args.stands.now in
    let old = g.T.Sink.contents c.args.sink.now in
    let mid = g.T.Sink.contents c.say.new.sink in
    let new = g.T.Sink.contents c.say-2.new.sink in
    let two = Appends-trans old (g.T.Sink.contents c.show_events.new.sink) mid events fault c.in_ok-show_events.ensures.shows c.in_ok-say.ensures.shows in
    let all = more-written old mid new (events ++ fault) stands c.say-2.result two c.say-2.ensures.shows in
    let whole = append_assoc events fault stands ∙ ap (λ x. events ++ (said look x ++ stands)) c.fault_words.ensures in
    subst (λ (w : List ℕ). OnOk c.say-2.result (Appends old new w)) whole all
