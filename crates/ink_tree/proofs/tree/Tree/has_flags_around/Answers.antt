use Rattle.std.proofs.Common.{◌≡◌, ◌∙◌, false, nat_lt, sym, arith}
use Rattle.ink_tree.proofs.Common.{nat_tests, flags_at, at, story_tree, node_place, place_of}
use Rattle.ink_tree.proofs.Flagged.{none_entered, under_index, under_itself}
use Rattle.ink_tree.proofs.tree.Tree.has_flags_around.Goals as goal

pub returns-else-flags-gt0-clause-none : goal.returns-else-flags-gt0-clause-none
returns-else-flags-gt0-clause-none c = λ h previous turn counts.
    let s = story_tree c.args.self.now in
    let none : nat_lt 0 (flags_at (at s (node_place s c.args.at.holder))) ≡ false = grind (arith, nat_tests, c.if-flags-gt0.false, c.flags.ensures) in
    none_entered s previous turn counts (place_of s c.args.at) (sym (under_index s c.args.at c.in-Some.field-0 c.in-Some.is none) ∙ sym c.node_has_flags_around.ensures ∙ h)

pub returns-in-None-clause-none : goal.returns-in-None-clause-none
returns-in-None-clause-none c = λ h previous turn counts.
    let s = story_tree c.args.self.now in
    none_entered s previous turn counts (place_of s c.args.at) (sym (under_itself s c.args.at c.in-None.is) ∙ sym c.node_has_flags_around-in-None.ensures ∙ h)
