use Rattle.std.proofs.Common.{map, refl}
use Rattle.ink_restore.proofs.Common.{AllByRecursion, Global, Vec, Value, ValueFits, story_tree}
use Rattle.ink_restore.proofs.Limits.{stack_built}
use Rattle.ink_restore.proofs.Making.{built}
use Rattle.ink_restore.proofs.collecting.build_stack.Goals as goal

pub returns-clause-builds : goal.returns-clause-builds
returns-clause-builds c =
    let s = story_tree c.args.tree.now in
    stack_built s c.args.values.now c.in-Some.items.items
    (built (λ (v : Vec Value Global). map (λ x. x) v.items) (AllByRecursion (ValueFits s)) c.args.values.now c.args.values.now c.in_ok-items.field-0 c.in-Some.items refl c.in-Some.is c.in_ok-items.ensures.builds)
    c.from_vec.result c.from_vec.ensures.items
