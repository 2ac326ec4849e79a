use Rattle.std.proofs.Common.{◌∙◌, sym, option_map, arith, true, false}
use Rattle.ink_tree.proofs.Common.{at, story_tree, node_place}
use Rattle.ink_tree.proofs.Firsts.{from_end, from_start, from_here}
use Rattle.ink_tree.proofs.tree.Tree.look_through.Goals as goal

pub loop-index-init : goal.loop-index-init
loop-index-init c = let s = story_tree c.args.self.now in from_start c.args.name.now (at s (node_place s c.args.here))

pub returns-then-is_name : goal.returns-then-is_name
returns-then-is_name c =
    let s = story_tree c.args.self.now in
    from_here s (node_place s c.args.here) c.args.name.now c.loop-index.index (omega (arith, c.width-index-end.ensures, c.loop-index-test.true)) (option_map (λ n. n.now) c.name_near.result)
    c.name_near.ensures true (sym c.is_name.ensures ∙ c.if-is_name.true)
    ∙ c.loop-index.invariant

pub loop-index-preserved : goal.loop-index-preserved
loop-index-preserved c =
    let s = story_tree c.args.self.now in
    from_here s (node_place s c.args.here) c.args.name.now c.loop-index.index (omega (arith, c.width-index-end.ensures, c.loop-index-test.true)) (option_map (λ n. n.now) c.name_near.result)
    c.name_near.ensures false (sym c.is_name.ensures ∙ c.if-is_name.false)
    ∙ c.loop-index.invariant

pub returns : goal.returns
returns c =
    let s = story_tree c.args.self.now in
    from_end c.args.name.now c.loop-index.index (at s (node_place s c.args.here)) (omega (arith, c.width-index-end.ensures, c.loop-index-test.false)) ∙ c.loop-index.invariant
