use Rattle.std.proofs.Common.{Some, None, cond, ap, ◌∙◌}
use Rattle.ink_tree.proofs.Common.{story_tree}
use Rattle.ink_tree.proofs.Spots.{named_last, no_last}
use Rattle.ink_tree.proofs.tree.Tree.spot.Goals as goal

pub returns-in-Some-Name-default : goal.returns-in-Some-Name-default
returns-in-Some-Name-default c =
    let k = c.in-Some-Name-default in
    c.spot_on.ensures ∙ ap (λ b. cond b (Some c.args.parts.now) None) (named_last (story_tree c.args.self.now) c.args.parts.now k.field-0-1.now k.field-0-0.now k.field-0-0-0 k.ensures.cases.0 k.field-0-0-is)

pub returns-in-None : goal.returns-in-None
returns-in-None c = c.spot_on-in-None.ensures ∙ ap (λ b. cond b (Some c.args.parts.now) None) (no_last (story_tree c.args.self.now) c.args.parts.now c.in-None.ensures.cases)
