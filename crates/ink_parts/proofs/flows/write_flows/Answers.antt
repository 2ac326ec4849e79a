use Rattle.std.proofs.Common.{◌∙◌}
use Rattle.ink_parts.proofs.Common.{view-Array, story_tree, row_in}
use Rattle.ink_parts.proofs.Arrays.{listed}
use Rattle.ink_parts.proofs.Shown.{flows_shown}
use Rattle.ink_parts.proofs.flows.write_flows.Goals as goal

pub returns : goal.returns
returns c =
    let s = story_tree c.args.tree.now in
    view-Array c.in_ok-made.made ∙ listed (row_in s c.args.current.now) _ _ c.in_ok-made.ensures ∙ flows_shown s c.args.current.now c.args.aside.now
