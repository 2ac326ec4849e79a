use Rattle.std.proofs.Common.{ap, subst}
use Rattle.ink_restore.proofs.Common.{flow_of, FlowSound, SharedSound, story_tree, shared_as, or_else}
use Rattle.ink_restore.proofs.Making.{built}
use Rattle.ink_restore.proofs.Whole.{alone_built}
use Rattle.ink_restore.proofs.Asking.{flow_asks}
use Rattle.ink_restore.specs.Asks.{FlowAsks}
use Rattle.ink_restore.proofs.restoring.restore_alone.Goals as goal

pub returns-clause-builds : goal.returns-clause-builds
returns-clause-builds c =
    let s = story_tree c.args.tree.now in
    let saved = c.args.saved.now in
    alone_built s saved c.in-Some.flow c.new-aside.result c.in-Some-2.shared c.requires c.new-aside.ensures
    (built (flow_of s) (FlowSound s) c.saved.inside.flow saved.flow c.in_ok-flow.field-0 c.in-Some.flow (ap (λ x. x.flow) c.saved.view_is) c.in-Some.is c.in_ok-flow.ensures.builds)
    (built (shared_as s) (SharedSound s) c.saved.inside.shared saved.shared c.in_ok-shared.field-0 c.in-Some-2.shared (ap (λ x. x.shared) c.saved.view_is) c.in-Some-2.is c.in_ok-shared.ensures.builds)

pub returns-in_err-flow-clause-memory : goal.returns-in_err-flow-clause-memory
returns-in_err-flow-clause-memory c =
    or_else _ (subst (FlowAsks (story_tree c.args.tree.now)) (ap (λ x. x.flow) c.saved.view_is) c.in_err-flow.ensures.memory)

pub returns-in_err-shared-clause-memory : goal.returns-in_err-shared-clause-memory
returns-in_err-shared-clause-memory c =
    let s = story_tree c.args.tree.now in
    let saved = c.args.saved.now in
    or_else _ (flow_asks s saved.flow
    (built (flow_of s) (FlowSound s) c.saved.inside.flow saved.flow c.in_ok-flow.field-0 c.in-Some.flow (ap (λ x. x.flow) c.saved.view_is) c.in-Some.is c.in_ok-flow.ensures.builds).1)
