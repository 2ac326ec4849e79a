use Rattle.ink_model.specs.Save.Spelling.{spelling}
use Rattle.ink_tokens.proofs.Adding.{printed_tokens}
use Rattle.ink_tree.specs.Nodes.{story_tree}
use Rattle.ink_parts.specs.Parts.{kept_as}
use Rattle.ink_parts.proofs.printing.print.Goals as goal

pub returns : goal.returns
returns c = printed_tokens (spelling (kept_as (story_tree c.args.tree.now) c.args.kept.now)) _ _ _ c.new-out.ensures.tokens c.in_ok-put_kept.ensures c.printed.ensures
