use Rattle.std.proofs.Common.{option_map, arith}
use Rattle.ink_tree.proofs.Common.{at, named_at, story_tree, node_place}
use Rattle.ink_tree.proofs.Firsts.{names_end, names_next, names_start}
use Rattle.ink_tree.proofs.tree.Tree.names_in.Goals as goal

pub loop-index-init : goal.loop-index-init
loop-index-init c = λ name.
    let s = story_tree c.args.self.now in names_start name (named_at name c.none-names.result) (at s (node_place s c.args.holder)) (c.none-names.ensures name)

pub loop-index-preserved : goal.loop-index-preserved
loop-index-preserved c = λ name.
    let s = story_tree c.args.self.now in
    let l = c.loop-index in
    names_next s (node_place s c.args.holder) name l.index (omega (arith, c.width-index-end.ensures, c.loop-index-test.true)) (option_map (λ n. n.now) c.name_near-own.result) c.name_near-own.ensures
    (named_at name l.names) (named_at name c.add.new.self) _ (l.invariant name) (c.in_ok-add.ensures name)

pub returns : goal.returns
returns c = λ name.
    let s = story_tree c.args.self.now in
    let l = c.loop-index in
    names_end name (named_at name l.names) l.index (at s (node_place s c.args.holder)) (l.invariant name) (omega (arith, c.width-index-end.ensures, c.loop-index-test.false))
