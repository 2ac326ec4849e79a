use Rattle.std.proofs.Common.{◌≡◌, ◌∙◌, ap, sym, arith, length}
use Rattle.ink_tree.proofs.Common.{story_tree, Name}
use Rattle.ink_tree.proofs.Stepping.{leads_to_knot}
use Rattle.ink_tree.proofs.tree.Tree.noted_knot.Goals as goal

pub returns-in-Some-Name-default : goal.returns-in-Some-Name-default
returns-in-Some-Name-default c =
    let k = c.in-Some-Name-default in
    let alone : length k.others.now ≡ 0 = grind (arith, c.is_empty.ensures, c.if-is_empty.true) in
    leads_to_knot (story_tree c.args.self.now) c.args.path.now c.as_slice.result.now k.others.now k.field-0-0.now c.as_str.result.now c.noted_step.result
    c.as_slice.ensures k.ensures.cases.0 (k.field-0-0-is ∙ ap Name (sym c.as_str.ensures)) alone c.if-not-path.true c.noted_step.ensures
