use Rattle.std.proofs.Common.{◌≡◌, ◌∙◌, ◌||◌, ap, sym, reverse, false, nat_lt, arith}
use Rattle.ink_tree.proofs.Common.{nat_tests, key_part, flags_at, at, flagged_above, story_tree, node_place}
use Rattle.ink_tree.proofs.Flagged.{flagged_one}
use Rattle.ink_tree.proofs.tree.Tree.+flagged.Goals as goal

pub is_flagged-returns-in-Some : goal.is_flagged-returns-in-Some
is_flagged-returns-in-Some t c =
    let s = story_tree c.args.self.now in
    let a = c.in-Some in
    c.has_flags_from.ensures ∙ flagged_one s (node_place s c.args.node) (node_place s a.holder) (key_part a.field-0-0) a.ensures.1

pub has_flags_from-returns-in-Some : goal.has_flags_from-returns-in-Some
has_flags_from-returns-in-Some t c =
    let s = story_tree c.args.self.now in
    let p = node_place s c.args.holder in
    let none : nat_lt 0 (flags_at (at s p)) ≡ false = grind (arith, nat_tests, c.if-flags-gt0.false, c.flags.ensures) in
    c.is_under_flags.ensures ∙ (c.requires c.args.holder.number c.in-Some.around.now (sym c.in-Some.ensures)).1
    ∙ ap (λ own. own || flagged_above s (reverse p)) (sym none)
