use Rattle.ink_check.specs.Standing.{story_tree}
use Rattle.ink_tree.specs.Nodes as nodes
use Rattle.ink_save.proofs.Reading.{reads_found, reads_none}
use Rattle.ink_save.proofs.loading.read.Goals as goal

pub returns-in-Some-clause-reads : goal.returns-in-Some-clause-reads
returns-in-Some-clause-reads g c =
    reads_found (story_tree c.args.story.now) (nodes.story_tree c.tree.result.now) (g.J.Json.spells c.args.json) c.in-Ok.found c.in-Some.machine
    c.tree.ensures.tree c.tree.ensures.spelled c.tree.ensures.good c.in-Some.is c.in-Ok.ensures.made

pub returns-in-None-clause-reads : goal.returns-in-None-clause-reads
returns-in-None-clause-reads g c =
    reads_none (story_tree c.args.story.now) (nodes.story_tree c.tree.result.now) (g.J.Json.spells c.args.json) c.in-Ok.found
    c.tree.ensures.tree c.tree.ensures.spelled c.tree.ensures.good c.in-None.is c.in-Ok.ensures.made
