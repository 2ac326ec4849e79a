use Rattle.std.proofs.Common.{◌∙◌, ap, length, option_map, arith, sym}
use Rattle.ink_tree.proofs.Common.{key_part, story_tree, node_place}
use Rattle.ink_tree.proofs.Kept.{next_behind, next_beside}
use Rattle.ink_tree.proofs.tree.Tree.+next.Goals as goal
use Rattle.ink_tree.proofs.Next.{none_after_name, none_after_root}

pub next_of-returns-in-None : goal.next_of-returns-in-None
next_of-returns-in-None t c = let s = story_tree c.args.self.now in none_after_root s (node_place s c.args.node) (ap length c.in-None.ensures)

pub next_in-returns-then-index-width : goal.next_in-returns-then-index-width
next_in-returns-then-index-width t c =
    let s = story_tree c.args.self.now in
    next_beside s (node_place s c.args.node) (node_place s c.args.holder) (key_part c.args.last) c.in-Index.index c.requires.above.1 (ap key_part c.in-Index.is)
    c.child_near.result (omega (arith, c.width.ensures, c.if-index-width.true)) c.child_near.ensures

pub next_in-returns-in-Some : goal.next_in-returns-in-Some
next_in-returns-in-Some t c =
    let s = story_tree c.args.self.now in
    ap (option_map (node_place s)) c.next.ensures
    ∙ (c.requires.linked c.args.holder.number c.in-Some.around.now (sym c.in-Some.ensures)).0
    ∙ next_behind s (node_place s c.args.node) (node_place s c.args.holder) (key_part c.args.last) c.in-Index.index c.requires.above.1 (ap key_part c.in-Index.is)
    (omega (arith, c.width.ensures, c.if-index-width.false))

pub next_in-returns-in-None : goal.next_in-returns-in-None
next_in-returns-in-None t c =
    let s = story_tree c.args.self.now in
    c.next_of.ensures
    ∙ next_behind s (node_place s c.args.node) (node_place s c.args.holder) (key_part c.args.last) c.in-Index.index c.requires.above.1 (ap key_part c.in-Index.is)
    (omega (arith, c.width.ensures, c.if-index-width.false))

pub next_in-returns-in-Name : goal.next_in-returns-in-Name
next_in-returns-in-Name t c =
    let s = story_tree c.args.self.now in
    none_after_name s (node_place s c.args.node) (node_place s c.args.holder) (key_part c.args.last) c.in-Name.field-0.now c.requires.above.1 (ap key_part c.in-Name.is)
