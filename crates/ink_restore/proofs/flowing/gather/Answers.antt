use Rattle.std.proofs.Common.{◌∙◌, ◌&&◌, ap, get_or, inl, inr, is_none, subst, sym}
use Rattle.ink_restore.proofs.Common.{flow_of, rows_of, at, FlowSound, story_tree, or_else}
use Rattle.ink_model.specs.Run.Flows.{is_flow_name}
use Rattle.ink_restore.proofs.Gathers.{gathers_all, gathers_barred, gathers_more, gathers_refused}
use Rattle.ink_restore.proofs.Making.{built, never}
use Rattle.ink_restore.proofs.Asking.{first_at, list_now, named_asks}
use Rattle.ink_restore.proofs.Standing.{both, none_is}
use Rattle.ink_restore.specs.Asks.{FlowAsks, NamedAsks}
use Rattle.ink_restore.specs.Gathered.{NamedSound}
use Rattle.ink_restore.proofs.flowing.gather.Goals as goal

pub returns-then-not-may_join-clause-gathers : goal.returns-then-not-may_join-clause-gathers
returns-then-not-may_join-clause-gathers c =
    let rows = rows_of c.loop-named.made.rows.entries in
    gathers_barred (story_tree c.args.tree.now) c.args.current.now c.args.flows.now rows c.loop-named.made.current c.loop-named.named-index c.named-item.result c.loop-named-test.true
    (ap (λ n. is_flow_name n && is_none (at n rows)) (sym (c.name-name.ensures ∙ ap (λ r. r.0) c.named-item.is)) ∙ sym c.may_join.ensures ∙ c.if-not-may_join.true) c.loop-named.invariant

pub loop-named-preserved : goal.loop-named-preserved
loop-named-preserved c =
    let s = story_tree c.args.tree.now in
    let made = c.loop-named.made in
    let i = c.loop-named.named-index in
    let r = c.named-item.result in
    gathers_more s c.args.current.now c.args.flows.now (rows_of made.rows.entries) made.current i r c.name-name.result.now c.in-Some.flow _ _ c.loop-named-test.true
    (c.name-name.ensures ∙ ap (λ x. x.0) c.named-item.is)
    (built (flow_of s) (FlowSound s) _ (get_or c.args.flows.now i r).1 c.in_ok-flow.field-0 c.in-Some.flow (c.flow.ensures ∙ ap (λ x. x.1) c.named-item.is) c.in-Some.is c.in_ok-flow.ensures.builds)
    (sym c.may_join.ensures ∙ c.if-not-may_join.false) c.in_ok-join-in-Some.ensures.rows c.in_ok-join-in-Some.ensures.current c.loop-named.invariant

pub returns-clause-gathers : goal.returns-clause-gathers
returns-clause-gathers c =
    gathers_all (story_tree c.args.tree.now) c.args.current.now c.args.flows.now (rows_of c.loop-named.made.rows.entries) c.loop-named.made.current c.loop-named.named-index c.loop-named-test.false
    c.loop-named.invariant

pub returns-in_err-flow-clause-memory : goal.returns-in_err-flow-clause-memory
returns-in_err-flow-clause-memory c =
    let s = story_tree c.args.tree.now in
    let rows = rows_of c.loop-named.made.rows.entries in
    let r = c.named-item.result in
    let name = (both (is_flow_name c.name-name.result.now) (is_none (at c.name-name.result.now rows)) (sym c.may_join.ensures ∙ c.if-not-may_join.false)).0 in
    or_else _ (list_now (NamedSound s) (NamedAsks s) c.args.flows.now ⊥ (named_asks s)
    (first_at (NamedSound s) (NamedAsks s) c.args.flows.now c.loop-named.invariant.taken c.loop-named.named-index r c.loop-named-test.true c.loop-named.invariant.joined c.loop-named.invariant.each
    (inr (ap is_flow_name (sym (c.name-name.ensures ∙ ap (λ y. y.0) c.named-item.is)) ∙ name, subst (FlowAsks s) (c.flow.ensures ∙ ap (λ y. y.1) c.named-item.is) c.in_err-flow.ensures.memory))))

pub returns-in_err-join-in-Some-clause-memory : goal.returns-in_err-join-in-Some-clause-memory
returns-in_err-join-in-Some-clause-memory c =
    let s = story_tree c.args.tree.now in
    let rows = rows_of c.loop-named.made.rows.entries in
    let r = c.named-item.result in
    let name = (both (is_flow_name c.name-name.result.now) (is_none (at c.name-name.result.now rows)) (sym c.may_join.ensures ∙ c.if-not-may_join.false)).0 in
    let x = get_or c.args.flows.now c.loop-named.named-index r in
    let made = built (flow_of s) (FlowSound s) _ x.1 c.in_ok-flow.field-0 c.in-Some.flow (c.flow.ensures ∙ ap (λ y. y.1) c.named-item.is) c.in-Some.is c.in_ok-flow.ensures.builds in
    or_else _ (list_now (NamedSound s) (NamedAsks s) c.args.flows.now ⊥ (named_asks s)
    (first_at (NamedSound s) (NamedAsks s) c.args.flows.now c.loop-named.invariant.taken c.loop-named.named-index r c.loop-named-test.true c.loop-named.invariant.joined c.loop-named.invariant.each
    (inl (ap is_flow_name (sym (c.name-name.ensures ∙ ap (λ y. y.0) c.named-item.is)) ∙ name, made.1))))

pub returns-in-None-clause-gathers : goal.returns-in-None-clause-gathers
returns-in-None-clause-gathers c =
    let s = story_tree c.args.tree.now in
    let i = c.loop-named.named-index in
    let r = c.named-item.result in
    gathers_refused s c.args.current.now c.args.flows.now (rows_of c.loop-named.made.rows.entries) c.loop-named.made.current i r c.loop-named-test.true
    (λ k. never (flow_of s) (FlowSound s) _ (get_or c.args.flows.now i r).1 c.in_ok-flow.field-0 (c.flow.ensures ∙ ap (λ x. x.1) c.named-item.is) c.in-None.is c.in_ok-flow.ensures.builds k.1)
    c.loop-named.invariant

pub join-requires : goal.join-requires
join-requires c =
    let name = c.name-name.result.now in
    let o = at name (rows_of c.loop-named.made.rows.entries) in
    none_is o (both (is_flow_name name) (is_none o) (sym c.may_join.ensures ∙ c.if-not-may_join.false)).1
