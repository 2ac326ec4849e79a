use Rattle.std.proofs.Common.{◌≤◌, ◌∙◌, ap, arith, length, sym, take}
use Rattle.ink_model.specs.Story.Places.{places}
use Rattle.ink_save.proofs.Below.{all_below, first_below}
use Rattle.ink_tree.specs.Nodes.{story_tree}
use Rattle.ink_vars.specs.Slots.{rows_from}
use Rattle.ink_save.proofs.saving.own_slots.Goals as goal

pub returns-then-slots-len : goal.returns-then-slots-len
returns-then-slots-len c =
    first_below (length (places (story_tree c.args.tree.now))) c.args.slots.now ∙ ap (λ n. rows_from 0 (take n c.args.slots.now)) (sym c.len-then-slots-len.ensures.all)

pub returns-else-slots-len : goal.returns-else-slots-len
returns-else-slots-len c =
    let few : length c.args.slots.now ≤ length (places (story_tree c.args.tree.now)) = omega (arith, c.if-slots-len.false, c.len.ensures.all) in
    all_below (length (places (story_tree c.args.tree.now))) c.args.slots.now few
