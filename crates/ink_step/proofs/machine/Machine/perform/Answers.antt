use Rattle.std.proofs.Common.{refl, sym}
use Rattle.ink_step.proofs.Common.{story_tree, at, place_of}
use Rattle.ink_step.proofs.Finished.{leaf_there}
use Rattle.ink_step.proofs.machine.Machine.perform.Goals as goal

pub perform_leaf-requires-clause-stands : goal.perform_leaf-requires-clause-stands
perform_leaf-requires-clause-stands c =
    let s = story_tree c.args.story.now in
    sym (leaf_there (at s (place_of s c.args.here)) c.args.content.now (sym c.requires.stands))

pub returns-clause-mark : goal.returns-clause-mark
returns-clause-mark c =
    let marks = c.perform_leaf.ensures.marks in
    rw (marks.0, marks.1, marks.2, c.perform_leaf.ensures.output_mark, c.perform_leaf.ensures.safe) refl
