use Rattle.std.proofs.Common.{◌+◌, drop, get_or, inl, inr, subst, sym}
use Rattle.ink_restore.proofs.Making.{Making, built, making_asks, making_done, making_more, making_refused, never}
use Rattle.ink_restore.proofs.Common.{or_else, story_tree}
use Rattle.ink_restore.proofs.building.build_all.Goals as goal

pub loop-item-preserved : goal.loop-item-preserved
loop-item-preserved g c =
    let s = story_tree c.args.tree.now in
    let items = c.args.items.now in
    let i = c.loop-item.item-index in
    let x = c.item-item.result in
    let one = built (g.T.Built.in_story s) (g.T.Built.fits s) x (get_or items i x) c.in_ok-one.field-0 c.in-Some.one c.item-item.is c.in-Some.is c.in_ok-one.ensures.builds in
    subst (λ m. Making (g.T.Built.in_story s) (g.T.Built.fits s) items m (drop (i + 1) items)) (sym c.in_ok-push-in-Some.ensures.items)
    (making_more (g.T.Built.in_story s) (g.T.Built.fits s) items c.loop-item.made.items i x c.loop-item-test.true c.in-Some.one one.0 one.1 c.loop-item.invariant)

pub returns-in-None-clause-builds : goal.returns-in-None-clause-builds
returns-in-None-clause-builds g c =
    let s = story_tree c.args.tree.now in
    let items = c.args.items.now in
    let i = c.loop-item.item-index in
    let x = c.item-item.result in
    making_refused (g.T.Built.in_story s) (g.T.Built.fits s) items c.loop-item.made.items i x c.loop-item-test.true
    (never (g.T.Built.in_story s) (g.T.Built.fits s) x (get_or items i x) c.in_ok-one.field-0 c.item-item.is c.in-None.is c.in_ok-one.ensures.builds) c.loop-item.invariant

pub returns-clause-builds : goal.returns-clause-builds
returns-clause-builds g c =
    let s = story_tree c.args.tree.now in
    making_done (g.T.Built.in_story s) (g.T.Built.fits s) c.args.items.now c.loop-item.made.items c.loop-item.item-index c.loop-item-test.false c.loop-item.invariant

pub returns-in_err-one-clause-memory : goal.returns-in_err-one-clause-memory
returns-in_err-one-clause-memory g c =
    let s = story_tree c.args.tree.now in
    let asks = g.T.Built.asks s in
    or_else _ (making_asks (g.T.Built.in_story s) (g.T.Built.fits s) c.args.items.now c.loop-item.made.items c.loop-item.item-index c.item-item.result c.loop-item-test.true asks
    (inr (subst asks c.item-item.is c.in_err-one.ensures.memory)) c.loop-item.invariant)

pub returns-in_err-push-in-Some-clause-memory : goal.returns-in_err-push-in-Some-clause-memory
returns-in_err-push-in-Some-clause-memory g c =
    let s = story_tree c.args.tree.now in
    let items = c.args.items.now in
    let i = c.loop-item.item-index in
    let x = c.item-item.result in
    let one = built (g.T.Built.in_story s) (g.T.Built.fits s) x (get_or items i x) c.in_ok-one.field-0 c.in-Some.one c.item-item.is c.in-Some.is c.in_ok-one.ensures.builds in
    or_else _ (making_asks (g.T.Built.in_story s) (g.T.Built.fits s) items c.loop-item.made.items i x c.loop-item-test.true (g.T.Built.asks s) (inl one.1) c.loop-item.invariant)
