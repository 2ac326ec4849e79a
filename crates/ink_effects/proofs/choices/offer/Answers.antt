use Rattle.std.proofs.Common.{length, nat_lt}
use Rattle.std.proofs.lemmas.Bool.{le-ltb}
use Rattle.ink_effects.proofs.Common.{story_tree, place_of}
use Rattle.ink_effects.proofs.Offered.{keeps_made, offers_made, offers_nowhere}
use Rattle.ink_effects.proofs.choices.offer.Goals as goal
use Rattle.ink_value.specs.Undo.{stack_spare}

pub returns-in_default-clause-effect : goal.returns-in_default-clause-effect
returns-in_default-clause-effect c rest evaluating fresh page globals =
    let s = story_tree c.args.story.now in
    offers_nowhere s (place_of s c.args.here) (record rest { choices = c.args.choices.now.items; counts = c.args.counts.now.rows }) c.args.threads.now.threads c.args.text.now c.args.flags c.requires.stands
    evaluating fresh page globals c.args.stack.now.items c.in_default.ensures c.args.stack.now.items

pub returns-clause-effect : goal.returns-clause-effect
returns-clause-effect c rest evaluating fresh page globals t =
    let s = story_tree c.args.story.now in
    offers_made s (place_of s c.args.here) (record rest { choices = c.args.choices.now.items; counts = c.args.counts.now.rows }) c.args.threads.now.threads c.args.text.now c.args.flags c.requires.stands
    evaluating fresh page globals c.args.stack.now.items c.in-Some.target c.in-Some.ensures c.was_visited-visited.result c.was_visited-visited.ensures (nat_lt (stack_spare c.args.stack.now) (length c.args.stack.now.items)) t c.add_made.new.stack.items
    (le-ltb _ _ c.requires.room) c.add_made.new.choices.items c.add_made.result c.add_made.ensures.made

pub returns-clause-choices : goal.returns-clause-choices
returns-clause-choices c rest evaluating fresh page globals =
    let s = story_tree c.args.story.now in
    keeps_made s (place_of s c.args.here) (record rest { choices = c.args.choices.now.items; counts = c.args.counts.now.rows }) c.args.threads.now.threads c.args.text.now c.args.flags c.requires.stands
    evaluating fresh page globals c.args.stack.now.items c.in-Some.target c.in-Some.ensures c.was_visited-visited.result c.was_visited-visited.ensures (nat_lt (stack_spare c.args.stack.now) (length c.args.stack.now.items)) c.add_made.new.stack.items
    c.add_made.new.choices.items c.add_made.result c.add_made.ensures.made
