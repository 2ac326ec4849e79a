use Rattle.std.proofs.Common.{◌≡◌, IfSome, ap, refl, subst, true}
use Rattle.ink_restore.proofs.Common.{at, SharedSound, aside_but, story_tree, shared_as, FlowsAsk, or_else}
use Rattle.ink_restore.proofs.Making.{built, never}
use Rattle.ink_restore.proofs.Whole.{flows_refused, game_built, shared_refused, stand_fit}
use Rattle.ink_restore.specs.Gathered.{AllStand, flows_as, may_be_all}
use Rattle.ink_restore.proofs.Asking.{flows_ask}
use Rattle.ink_restore.proofs.restoring.restore_game.Goals as goal

pub returns-in_default-clause-restores : goal.returns-in_default-clause-restores
returns-in_default-clause-restores c =
    let s = story_tree c.args.tree.now in
    let x = c.args.saved.now in
    flows_refused s x (never (flows_as s) (AllStand s) (at x.current x.flows, aside_but x.current x.flows) (at x.current x.flows, aside_but x.current x.flows) c.in_ok-flows.field-0 refl c.in_default.is c.in_ok-flows.ensures.builds)

pub returns-in_default-2-clause-restores : goal.returns-in_default-2-clause-restores
returns-in_default-2-clause-restores c =
    let s = story_tree c.args.tree.now in
    let x = c.args.saved.now in
    shared_refused s x (never (shared_as s) (SharedSound s) c.saved.inside.shared x.shared c.in_ok-shared.field-0 (ap (λ y. y.shared) c.saved.view_is) c.in_default-2.is c.in_ok-shared.ensures.builds)

pub returns-clause-restores : goal.returns-clause-restores
returns-clause-restores c =
    let s = story_tree c.args.tree.now in
    let x = c.args.saved.now in
    game_built s x c.in-Some.flows.flow c.in-Some.flows.aside c.in-Some-2.shared c.requires
    (built (flows_as s) (AllStand s) (at x.current x.flows, aside_but x.current x.flows) (at x.current x.flows, aside_but x.current x.flows) c.in_ok-flows.field-0 c.in-Some.flows refl c.in-Some.is c.in_ok-flows.ensures.builds)
    (built (shared_as s) (SharedSound s) c.saved.inside.shared x.shared c.in_ok-shared.field-0 c.in-Some-2.shared (ap (λ y. y.shared) c.saved.view_is) c.in-Some-2.is c.in_ok-shared.ensures.builds)

pub returns-in_err-shared-clause-memory : goal.returns-in_err-shared-clause-memory
returns-in_err-shared-clause-memory c =
    let s = story_tree c.args.tree.now in
    let x = c.args.saved.now in
    let all : may_be_all x.flows ≡ true = subst (λ o. IfSome o (λ f. may_be_all x.flows ≡ true)) c.in-Some.is c.in_ok-flows.ensures.all in
    let flows = built (flows_as s) (AllStand s) (at x.current x.flows, aside_but x.current x.flows) (at x.current x.flows, aside_but x.current x.flows) c.in_ok-flows.field-0 c.in-Some.flows refl c.in-Some.is c.in_ok-flows.ensures.builds in
    let asks : (may_be_all x.flows ≡ true) × FlowsAsk s x.flows = (all, flows_ask s x.flows all (stand_fit s x.current x.flows flows.1)) in
    or_else _ asks
