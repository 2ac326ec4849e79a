use Rattle.std.proofs.Common.{rules, ◌∙◌}
use Rattle.ink_commands.proofs.Paths.{absolute_leads}
use Rattle.ink_commands.proofs.path.absolute_spot.Goals as goal

pub returns : goal.returns
returns c = c.resolve.ensures ∙ absolute_leads _ _ _ (search rules)
