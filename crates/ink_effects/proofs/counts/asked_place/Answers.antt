use Rattle.ink_check.specs.Standing.{story_tree}
use Rattle.ink_effects.proofs.Asked.{asked_nowhere, asked_there}
use Rattle.ink_effects.proofs.counts.asked_place.Goals as goal

pub returns-in-Some : goal.returns-in-Some
returns-in-Some c = asked_there (story_tree c.args.story.now) c.args.stack.now.items c.in-Ok.value.now c.in-Ok.ensures c.in-Some.landing c.in-Some.ensures

pub returns-in-None : goal.returns-in-None
returns-in-None c = asked_nowhere (story_tree c.args.story.now) c.args.stack.now.items c.in-Ok.value.now c.in-Ok.ensures c.in-None.ensures
