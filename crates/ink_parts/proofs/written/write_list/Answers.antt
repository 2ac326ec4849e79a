use Rattle.std.proofs.Common.{◌∙◌}
use Rattle.ink_parts.proofs.Common.{view-Array, story_tree}
use Rattle.ink_parts.proofs.Arrays.{listed}
use Rattle.ink_parts.proofs.written.write_list.Goals as goal

pub returns : goal.returns
returns g c = view-Array c.in_ok-made.made ∙ listed (g.T.Written.spelling (story_tree c.args.tree.now)) _ _ c.in_ok-made.ensures
