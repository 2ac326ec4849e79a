use Rattle.std.proofs.Common.{◌≡◌, ◌∙◌, ◌<◌, ◌≤◌, arith, get_or, inl, length, subst, sym}
use Rattle.ink_model.specs.Story.Places.{places}
use Rattle.ink_model.specs.Save.Sound.{RowCounts}
use Rattle.ink_restore.proofs.Common.{MAX_COUNT, story_tree, or_else}
use Rattle.ink_restore.specs.Counted.{flag_of, least_of, row_at, rows_at}
use Rattle.ink_restore.proofs.Making.{never}
use Rattle.ink_restore.proofs.Numbering.{numbers_done, numbers_more, order_refused, row_refused, slots_below}
use Rattle.ink_restore.proofs.Asking.{first_at}
use Rattle.ink_vars.specs.Slots.{rows_from}
use Rattle.ink_restore.proofs.counting.build_rows.Goals as goal

pub returns-then-number-len-clause-rows : goal.returns-then-number-len-clause-rows
returns-then-number-len-clause-rows c =
    let r = c.row-item.result in
    let i = c.loop-row.row-index in
    let lower : c.in-Some.number < length c.loop-row.slots.items = omega (arith, c.if-number-len.true, c.len.ensures) in
    order_refused (story_tree c.args.tree.now) (flag_of c.args.what) (least_of c.args.what) c.args.rows.now c.loop-row.slots.items c.in-Some.number c.in-Some.count i r
    c.loop-row-test.true c.in-Some.ensures.order c.in-Some.ensures.number lower (c.in-Some.ensures.row.0 ∙ c.row-item.is) c.loop-row.invariant

pub loop-row-preserved : goal.loop-row-preserved
loop-row-preserved c =
    let s = story_tree c.args.tree.now in
    let r = c.row-item.result in
    let i = c.loop-row.row-index in
    let is : row_at s (c.in-Some.number, c.in-Some.count) ≡ r = c.in-Some.ensures.row.0 in
    let most : c.in-Some.count ≤ MAX_COUNT = subst (λ x. x.1 ≤ MAX_COUNT) (sym is) c.in-Some.ensures.row.1.most in
    numbers_more s (flag_of c.args.what) (least_of c.args.what) c.args.rows.now c.loop-row.slots.items c.put_last.new.slots.items c.in-Some.number c.in-Some.count i r
    c.loop-row-test.true c.in-Some.ensures.order c.in-Some.ensures.number (is ∙ c.row-item.is)
    (subst (RowCounts s (flag_of c.args.what) (least_of c.args.what)) c.row-item.is c.in-Some.ensures.row.1)
    c.in_ok-put_last.ensures.rows c.in_ok-put_last.ensures.len (c.in_ok-put_last.ensures.counts c.loop-row.invariant.counts most) c.loop-row.invariant

pub returns-clause-rows : goal.returns-clause-rows
returns-clause-rows c =
    numbers_done (story_tree c.args.tree.now) (flag_of c.args.what) (least_of c.args.what) c.args.rows.now c.loop-row.slots.items c.loop-row.row-index c.loop-row-test.false c.loop-row.invariant

pub returns-clause-own : goal.returns-clause-own
returns-clause-own c = slots_below (length (places (story_tree c.args.tree.now))) c.loop-row.slots.items c.loop-row.invariant.few

pub returns-in_err-put_last-clause-memory : goal.returns-in_err-put_last-clause-memory
returns-in_err-put_last-clause-memory c =
    let s = story_tree c.args.tree.now in
    let fits = RowCounts s (flag_of c.args.what) (least_of c.args.what) in
    or_else _ (first_at fits fits c.args.rows.now (rows_at s (rows_from 0 c.loop-row.slots.items)) c.loop-row.row-index c.row-item.result c.loop-row-test.true
    c.loop-row.invariant.joined c.loop-row.invariant.each (inl (subst fits c.row-item.is c.in-Some.ensures.row.1)))

pub returns-in_default-clause-rows : goal.returns-in_default-clause-rows
returns-in_default-clause-rows c =
    let s = story_tree c.args.tree.now in
    let r = c.row-item.result in
    let i = c.loop-row.row-index in
    let counts = RowCounts s (flag_of c.args.what) (least_of c.args.what) in
    row_refused s (flag_of c.args.what) (least_of c.args.what) c.args.rows.now c.loop-row.slots.items i r c.loop-row-test.true
    (never (row_at s) counts r (get_or c.args.rows.now i r) c.build_row.result c.row-item.is c.in_default.is c.build_row.ensures.row) c.loop-row.invariant
