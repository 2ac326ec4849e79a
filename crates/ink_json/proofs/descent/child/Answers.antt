use Rattle.std.proofs.Common.{sym, ◌∙◌, arith, rules}
use Rattle.ink_json.proofs.Downward.{own_at, begin, ahead, walk_within, walked}
use Rattle.ink_json.proofs.descent.child.Goals as goal

pub overflow_add-end : goal.overflow_add-end
overflow_add-end c = let own = own_at c.args.nodes.now c.args.number c.at.result c.requires c.at.ensures.node in search rules

pub loop-next-init : goal.loop-next-init
loop-next-init c =
    rw c.size.ensures (begin c.args.nodes.now c.args.number _ c.at.result c.requires c.at.ensures.node)

pub overflow_add-next : goal.overflow_add-next
overflow_add-next c = let own = own_at c.args.nodes.now c.args.number c.at.result c.requires c.at.ensures.node in search rules

pub at-node-requires : goal.at-node-requires
at-node-requires c = walk_within c.args.nodes.now c.loop-next.next _ _ _ _ c.loop-next.invariant c.loop-next-test.true

pub returns-then-is_at-clause-found : goal.returns-then-is_at-clause-found
returns-then-is_at-clause-found c =
    (ahead c.args.nodes.now c.loop-next.next _ _ _ _ c.at-node.result c.loop-next.invariant c.loop-next-test.true c.at-node.ensures.node).hit (sym c.is_at.ensures ∙ c.if-is_at.true)

pub returns-then-is_at-clause-stands : goal.returns-then-is_at-clause-stands
returns-then-is_at-clause-stands c =
    (ahead c.args.nodes.now c.loop-next.next _ _ _ _ c.at-node.result c.loop-next.invariant c.loop-next-test.true c.at-node.ensures.node).stands

pub overflow_add-next-in-loop-next : goal.overflow_add-next-in-loop-next
overflow_add-next-in-loop-next c =
    let own = own_at c.args.nodes.now c.args.number c.at.result c.requires c.at.ensures.node in
    let at = ahead c.args.nodes.now c.loop-next.next _ _ _ _ c.at-node.result c.loop-next.invariant c.loop-next-test.true c.at-node.ensures.node in
    search rules

pub loop-next-smaller : goal.loop-next-smaller
loop-next-smaller c =
    let at = ahead c.args.nodes.now c.loop-next.next _ _ _ _ c.at-node.result c.loop-next.invariant c.loop-next-test.true c.at-node.ensures.node in
    omega (arith, at.some, at.fits, c.size-next.ensures)

pub loop-next-preserved : goal.loop-next-preserved
loop-next-preserved c =
    let at = ahead c.args.nodes.now c.loop-next.next _ _ _ _ c.at-node.result c.loop-next.invariant c.loop-next-test.true c.at-node.ensures.node in
    rw c.size-next.ensures (at.passed (sym c.is_at.ensures ∙ c.if-is_at.false))

pub returns-clause-found : goal.returns-clause-found
returns-clause-found c = walked c.args.nodes.now _ _ _ _ _ c.loop-next.invariant c.loop-next-test.false
