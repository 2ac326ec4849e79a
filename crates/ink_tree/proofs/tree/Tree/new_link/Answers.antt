use Rattle.std.proofs.Common.{◌∙◌, ap, sym, length, option_map, reverse, arith}
use Rattle.ink_tree.proofs.Common.{key_part, flagged_above, story_tree, node_place}
use Rattle.ink_tree.proofs.Flagged.{flagged_one}
use Rattle.ink_tree.proofs.Kept.{after_root}
use Rattle.ink_tree.proofs.tree.Tree.new_link.Goals as goal
use Rattle.ink_tree.proofs.Next.{none_after_root}

pub to-requires : goal.to-requires
to-requires c = λ n is.
    let t = c.args.self.now in
    let s = story_tree t in
    let later = after_root s (node_place s c.args.node) n (sym (ap (option_map (node_place s)) is) ∙ c.next_in.ensures) in
    (later.0, omega (arith, later.1, c.requires.few))

pub returns-in-Some : goal.returns-in-Some
returns-in-Some c =
    let s = story_tree c.args.self.now in
    let a = c.in-Some in
    (ap (option_map (node_place s)) c.to.ensures.next ∙ c.next_in.ensures, c.to.ensures.flagged ∙ c.has_flags_from.ensures ∙ flagged_one s (node_place s c.args.node) (node_place s a.holder) (key_part a.last) a.ensures.1)

pub returns-in-None : goal.returns-in-None
returns-in-None c =
    let s = story_tree c.args.self.now in
    let root = c.in-None.ensures in
    (ap (option_map (node_place s)) c.to-in-None.ensures.next ∙ none_after_root s (node_place s c.args.node) (ap length root), c.to-in-None.ensures.flagged ∙ ap (λ p. flagged_above s (reverse p)) (sym root))
