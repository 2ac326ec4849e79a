use Rattle.std.proofs.Common.{◌∙◌}
use Rattle.ink_effects.proofs.Entering.{counted_at}
use Rattle.ink_effects.proofs.visits.visits_of.Goals as goal
use Rattle.ink_tree.specs.Nodes.{story_tree}

pub returns : goal.returns
returns c =
    let found = c.number_of.ensures.found in
    c.visits_of.ensures ∙ counted_at (story_tree c.args.tree.now) c.number_of.ensures.order c.number_of.result found.0 c.args.counts.now.rows _ _ _ found.1 c.flags.ensures
