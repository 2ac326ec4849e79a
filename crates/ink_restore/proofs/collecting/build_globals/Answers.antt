use Rattle.std.proofs.Common.{◌∙◌, ◌+◌, ap, drop, get_or, inl, is_some, subst, sym}
use Rattle.ink_model.specs.Variables.Store.{store, stored}
use Rattle.ink_restore.proofs.Common.{Value, story_tree, or_else}
use Rattle.ink_restore.proofs.Limits.{Collects, collects_all, collects_more, name_refused, value_refused}
use Rattle.ink_restore.proofs.Making.{built, never}
use Rattle.ink_model.specs.Save.Sound.{RowFits, ValueFits}
use Rattle.ink_restore.proofs.Asking.{first_at}
use Rattle.ink_restore.proofs.collecting.build_globals.Goals as goal

pub returns-then-contains-clause-builds : goal.returns-then-contains-clause-builds
returns-then-contains-clause-builds c =
    let r = c.row-item.result in
    let made = c.loop-row.made.rows in
    name_refused (story_tree c.args.tree.now) c.args.rows.now made c.loop-row.row-index r c.loop-row-test.true
    (ap (λ n. is_some (stored n made)) (sym (c.as_str.ensures ∙ ap (λ x. x.0) c.row-item.is)) ∙ sym c.contains.ensures ∙ c.if-contains.true) c.loop-row.invariant

pub returns-in-None-clause-builds : goal.returns-in-None-clause-builds
returns-in-None-clause-builds c =
    let s = story_tree c.args.tree.now in
    let r = c.row-item.result in
    value_refused s c.args.rows.now c.loop-row.made.rows c.loop-row.row-index r c.loop-row-test.true
    (never (λ (v : Value). v) (ValueFits s) r.1 (get_or c.args.rows.now c.loop-row.row-index r).1 c.in_ok-value.field-0 (ap (λ x. x.1) c.row-item.is) c.in-None.is c.in_ok-value.ensures.builds)
    c.loop-row.invariant

pub loop-row-preserved : goal.loop-row-preserved
loop-row-preserved c =
    let s = story_tree c.args.tree.now in
    let r = c.row-item.result in
    let rows = c.args.rows.now in
    let i = c.loop-row.row-index in
    let made = c.loop-row.made.rows in
    let b = built (λ (v : Value). v) (ValueFits s) r.1 (get_or rows i r).1 c.in_ok-value.field-0 c.in-Some.value (ap (λ x. x.1) c.row-item.is) c.in-Some.is c.in_ok-value.ensures.builds in
    subst (λ m. Collects s rows m (drop (i + 1) rows))
    (sym (c.in_ok-put-in-Some.ensures.ok ∙ ap (λ n. store n c.in-Some.value made) (c.as_str-in-Some.ensures ∙ ap (λ x. x.0) c.row-item.is) ∙ ap (λ v. store (get_or rows i r).0 v made) b.0))
    (collects_more s rows made i r c.loop-row-test.true
    (ap (λ n. is_some (stored n made)) (sym (c.as_str.ensures ∙ ap (λ x. x.0) c.row-item.is)) ∙ sym c.contains.ensures ∙ c.if-contains.false) b.1 c.loop-row.invariant)

pub returns-clause-builds : goal.returns-clause-builds
returns-clause-builds c = collects_all (story_tree c.args.tree.now) c.args.rows.now c.loop-row.made.rows c.loop-row.row-index c.loop-row-test.false c.len-count.ensures.names c.loop-row.invariant

pub returns-in_err-value-clause-memory : goal.returns-in_err-value-clause-memory
returns-in_err-value-clause-memory c =
    let s = story_tree c.args.tree.now in
    let r = c.row-item.result in
    or_else _ (first_at (RowFits s) (RowFits s) c.args.rows.now c.loop-row.made.rows c.loop-row.row-index r c.loop-row-test.true
    c.loop-row.invariant.joined c.loop-row.invariant.each (inl (subst (RowFits s) c.row-item.is c.in_err-value.ensures.memory)))

pub returns-in_err-put-in-Some-clause-memory : goal.returns-in_err-put-in-Some-clause-memory
returns-in_err-put-in-Some-clause-memory c =
    let s = story_tree c.args.tree.now in
    let r = c.row-item.result in
    let rows = c.args.rows.now in
    let i = c.loop-row.row-index in
    let b = built (λ (v : Value). v) (ValueFits s) r.1 (get_or rows i r).1 c.in_ok-value.field-0 c.in-Some.value (ap (λ x. x.1) c.row-item.is) c.in-Some.is c.in_ok-value.ensures.builds in
    or_else _ (first_at (RowFits s) (RowFits s) rows c.loop-row.made.rows i r c.loop-row-test.true
    c.loop-row.invariant.joined c.loop-row.invariant.each (inl b.1))
