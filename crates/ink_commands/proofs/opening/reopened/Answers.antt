use Rattle.std.proofs.Common.{refl}
use Rattle.ink_check.specs.Standing.{story_tree}
use Rattle.ink_commands.proofs.Openings.{opens-short}
use Rattle.ink_commands.proofs.opening.reopened.Goals as goal

pub returns-clause-err : goal.returns-clause-err
returns-clause-err c = (refl, opens-short (story_tree c.args.story.now) _ _ c.requires.opens c.in-Err.ensures.err)
