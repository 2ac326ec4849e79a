use Rattle.std.proofs.Common.{◌≡◌, Err, rules}
use Rattle.ink_effects.proofs.Common.{story_tree, popped, Answers, seen_by, place_of}
use Rattle.ink_model.specs.Run.Step.Counts.{turns_there}
use Rattle.ink_effects.proofs.Asked.{asks_in_vain, asks_there}
use Rattle.ink_effects.proofs.counts.push_turns.Goals as goal

pub returns-in_err-turns-clause-effect : goal.returns-in_err-turns-clause-effect
returns-in_err-turns-clause-effect c threads rest evaluating fresh page globals t =
    let s = story_tree c.args.story.now in
    let seen = seen_by s threads (record rest { counts = c.args.counts.now.rows; turn = c.args.turn }) in
    let is : c.from_residual-in_err-turns.result ≡ Err c.in_err-turns.field-0.0 = search rules in
    rw is (asks_in_vain s seen (turns_there s seen) evaluating fresh page globals c.args.stack.now.items t c.args.stack.now.items (place_of s c.in_ok-place.place) c.in_err-turns.field-0.0
    c.in_ok-place.ensures (c.in_err-turns.ensures threads rest))

pub returns-clause-effect : goal.returns-clause-effect
returns-clause-effect c threads rest evaluating fresh page globals t =
    let s = story_tree c.args.story.now in
    let seen = seen_by s threads (record rest { counts = c.args.counts.now.rows; turn = c.args.turn }) in
    let old = c.args.stack.now.items in
    let new = c.answer.new.stack.items in
    let z = c.in_ok-turns.turns in
    let answers : Answers z (popped old) new c.answer.result = search rules in
    asks_there s seen (turns_there s seen) evaluating fresh page globals new t old (place_of s c.in_ok-place.place) z c.in_ok-place.ensures (c.in_ok-turns.ensures threads rest) c.answer.result answers
