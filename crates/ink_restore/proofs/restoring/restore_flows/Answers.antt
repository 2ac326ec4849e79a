use Rattle.std.proofs.Common.{◌≡◌, ◌∙◌, None, ap, refl, subst, sym, true}
use Rattle.ink_restore.proofs.Common.{AllByRecursion, rows_of, at, aside_but, story_tree, FlowsAsk, or_else}
use Rattle.ink_restore.proofs.Making.{built, never}
use Rattle.ink_restore.proofs.Whole.{Plain, flows_built, flows_found, gather_refused, rows_current}
use Rattle.ink_restore.proofs.Standing.{whether}
use Rattle.ink_restore.specs.Gathered.{FlowsFit, gathered_as, may_be_all}
use Rattle.ink_restore.proofs.restoring.restore_flows.Goals as goal

pub returns-in-Some-clause-builds : goal.returns-in-Some-clause-builds
returns-in-Some-clause-builds c =
    let s = story_tree c.args.tree.now in
    let cur = c.as_str.result.now in
    let xs = c.as_slice-flows.result.now in
    let listed = c.as_slice-flows.ensures ∙ ap (λ x. x.flows) c.saved.view_is in
    let made = built (gathered_as s) (λ p. FlowsFit s xs) (aside_but cur xs, at cur xs) (aside_but cur xs, at cur xs) c.in_ok-gathered.field-0 c.in-Some.gathered refl c.in-Some.is c.in_ok-gathered.ensures.gathers in
    flows_found s c.args.saved.now cur xs (c.as_str.ensures ∙ ap (λ x. x.current) c.saved.view_is) listed c.with_aside.result
    (flows_built s cur xs (rows_of c.in-Some.gathered.rows.entries) c.in-Some.gathered.current c.with_aside.result (subst (AllByRecursion Plain) (sym listed) c.requires)
    (sym c.may_be_all.ensures ∙ c.if-not-may_be_all.false) made c.with_aside.ensures)

pub returns-in-None-clause-builds : goal.returns-in-None-clause-builds
returns-in-None-clause-builds c =
    let s = story_tree c.args.tree.now in
    let cur = c.as_str.result.now in
    let xs = c.as_slice-flows.result.now in
    flows_found s c.args.saved.now cur xs (c.as_str.ensures ∙ ap (λ x. x.current) c.saved.view_is) (c.as_slice-flows.ensures ∙ ap (λ x. x.flows) c.saved.view_is) None
    (gather_refused s cur xs (never (gathered_as s) (λ p. FlowsFit s xs) (aside_but cur xs, at cur xs) (aside_but cur xs, at cur xs) c.in_ok-gathered.field-0 refl c.in-None.is c.in_ok-gathered.ensures.gathers))

-- one name has nothing, where the current flow came
pub with_aside-requires-clause-current : goal.with_aside-requires-clause-current
with_aside-requires-clause-current c =
    let s = story_tree c.args.tree.now in
    let cur = c.as_str.result.now in
    let xs = c.as_slice-flows.result.now in
    rows_current s cur xs (rows_of c.in-Some.gathered.rows.entries) c.in-Some.gathered.current
    (built (gathered_as s) (λ p. FlowsFit s xs) (aside_but cur xs, at cur xs) (aside_but cur xs, at cur xs) c.in_ok-gathered.field-0 c.in-Some.gathered refl c.in-Some.is c.in_ok-gathered.ensures.gathers)

pub returns-in_err-gathered-clause-memory : goal.returns-in_err-gathered-clause-memory
returns-in_err-gathered-clause-memory c =
    let s = story_tree c.args.tree.now in
    or_else _ (subst (λ xs. (may_be_all xs ≡ true) × FlowsAsk s xs) (c.as_slice-flows.ensures ∙ ap (λ x. x.flows) c.saved.view_is)
    (sym c.may_be_all.ensures ∙ c.if-not-may_be_all.false, c.in_err-gathered.ensures.memory))

pub returns-in-Some-clause-all : goal.returns-in-Some-clause-all
returns-in-Some-clause-all c =
    whether _ c.with_aside.result (ap may_be_all (sym (c.as_slice-flows.ensures ∙ ap (λ x. x.flows) c.saved.view_is)) ∙ sym c.may_be_all.ensures ∙ c.if-not-may_be_all.false)
