use Rattle.std.proofs.Common.{map, refl}
use Rattle.ink_restore.proofs.Common.{AllByRecursion, Global, Vec, ChoiceOf, map_choice, ChoiceFits, place_of, story_tree, Spot}
use Rattle.ink_restore.proofs.Limits.{choices_built}
use Rattle.ink_restore.proofs.Making.{built}
use Rattle.ink_restore.proofs.collecting.build_choices.Goals as goal

pub returns-clause-builds : goal.returns-clause-builds
returns-clause-builds c =
    let s = story_tree c.args.tree.now in
    choices_built s c.args.choices.now c.in-Some.items.items
    (built (λ (v : Vec (ChoiceOf Spot) Global). map (map_choice (place_of s)) v.items) (AllByRecursion (ChoiceFits s)) c.args.choices.now c.args.choices.now c.in_ok-items.field-0 c.in-Some.items refl c.in-Some.is
    c.in_ok-items.ensures.builds)
    c.from_vec.result c.from_vec.ensures.items
