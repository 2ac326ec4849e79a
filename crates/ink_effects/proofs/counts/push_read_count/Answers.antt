use Rattle.std.proofs.Common.{◌≡◌, Err, rules}
use Rattle.ink_effects.proofs.Common.{story_tree, popped, Answers, seen_by, place_of}
use Rattle.ink_model.specs.Run.Step.Counts.{visits_there}
use Rattle.ink_effects.proofs.Asked.{asks_in_vain, asks_there}
use Rattle.ink_effects.proofs.counts.push_read_count.Goals as goal

pub returns-in_err-visits-clause-effect : goal.returns-in_err-visits-clause-effect
returns-in_err-visits-clause-effect c threads rest evaluating fresh page globals t =
    let s = story_tree c.args.story.now in
    let seen = seen_by s threads (record rest { counts = c.args.counts.now.rows }) in
    let is : c.from_residual-in_err-visits.result ≡ Err c.in_err-visits.field-0.0 = search rules in
    rw is (asks_in_vain s seen (visits_there s seen) evaluating fresh page globals c.args.stack.now.items t c.args.stack.now.items (place_of s c.in_ok-place.place) c.in_err-visits.field-0.0
    c.in_ok-place.ensures (c.in_err-visits.ensures threads rest))

pub returns-clause-effect : goal.returns-clause-effect
returns-clause-effect c threads rest evaluating fresh page globals t =
    let s = story_tree c.args.story.now in
    let seen = seen_by s threads (record rest { counts = c.args.counts.now.rows }) in
    let old = c.args.stack.now.items in
    let new = c.answer.new.stack.items in
    let z = c.in_ok-visits.visits in
    let answers : Answers z (popped old) new c.answer.result = search rules in
    asks_there s seen (visits_there s seen) evaluating fresh page globals new t old (place_of s c.in_ok-place.place) z c.in_ok-place.ensures (c.in_ok-visits.ensures threads rest) c.answer.result answers
