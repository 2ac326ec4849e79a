use Rattle.std.proofs.Common.{◌≡◌, ◌∙◌, sym, arith}
use Rattle.ink_tree.proofs.Common.{nat_tests, slice_get_within, story_tree, node_place}
use Rattle.ink_tree.proofs.Down.{leads, leads_not, none_there}
use Rattle.ink_tree.proofs.tree.Tree.part_in.Goals as goal

pub returns-then-holder-own : goal.returns-then-holder-own
returns-then-holder-own c =
    let s = story_tree c.args.self.now in
    let n = c.in-Some.node in
    let got = sym c.in-Some.ensures in
    let within = slice_get_within c.nodes.result.now c.args.number n got in
    let same : n.holder ≡ c.own-own.result.number = grind (arith, nat_tests, c.if-holder-own.true, c.holder.ensures) in
    leads s c.args.number n c.own-own.result (node_place s c.args.holder) c.own-own.ensures.1 (c.nodes.ensures.all c.args.number n got).0 c.last.result c.last.ensures same
    (omega (arith, within, c.nodes.ensures.many))

pub returns-else-holder-own : goal.returns-else-holder-own
returns-else-holder-own c =
    let t = c.args.self.now in
    let s = story_tree t in
    let n = c.in-Some.node in
    let got = sym c.in-Some.ensures in
    leads_not s c.args.number n c.own-own.result (node_place s c.args.holder) c.own-own.ensures.1 (c.nodes.ensures.all c.args.number n got).0 t.rising c.own-own.ensures.0 (λ e. c.if-holder-own.false (c.holder.ensures ∙ e))

pub returns-in-None : goal.returns-in-None
returns-in-None c = λ last within stands. absurd (omega (arith, none_there c.nodes.result.now c.args.number c.in-None.ensures, c.nodes.ensures.many, within))
