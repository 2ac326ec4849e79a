use Rattle.std.proofs.Common.{rules, Err, ◌≡◌, ◌∙◌, ap, refl, subst, sym}
use Rattle.ink_model.specs.Flow.Frames.{map_threads}
use Rattle.ink_model.specs.Flow.Transfers.{moved_on}
use Rattle.ink_model.specs.Memory.Moves.{moved_asks}
use Rattle.ink_model.specs.Run.Place.{next_place}
use Rattle.ink_model.specs.declared.frame.FrameKind.TheVariants.{Function}
use Rattle.ink_moves.proofs.Turns.{OnTheWay, function_broke, function_ended, more_asks}
use Rattle.ink_moves.proofs.flow.move_off.Goals as goal
use Rattle.ink_moves.specs.Reaches.{ReachesAs, written}
use Rattle.ink_tree.specs.Nodes.{place_of, story_tree}

pub returns-in_ok-end_function-in-Function-clause-flow : goal.returns-in_ok-end_function-in-Function-clause-flow
returns-in_ok-end_function-in-Function-clause-flow c =
    let s = story_tree c.args.tree.now in
    let ts = map_threads (place_of s) c.args.threads.now.threads in
    let w = written c.args.stack.now c.args.output.now in
    let us = map_threads (place_of s) c.end_function.new.threads.threads in
    let v = written c.end_function.new.stack c.end_function.new.output in
    let kind : c.args.threads.now.threads.thread.frame.kind ≡ Function = ap (λ t. t.frame.kind) (sym c.top.ensures) ∙ sym c.in-Function.ensures in
    let way : OnTheWay (next_place s) ts w us v = function_ended (place_of s) (next_place s) ts w w c.args.threads.now.threads (record { same = refl; asks = λ h. h }) c.requires.last kind us v c.in_ok-end_function-in-Function.field-0 (c.in_ok-end_function-in-Function.ensures.flow s) in
    subst (λ m. ReachesAs (moved_asks (next_place s) ts w) m (map_threads (place_of s) c.move_on.new.threads.threads) (written c.move_on.new.stack c.move_on.new.output) c.move_on.result) way.same
    (more_asks (moved_asks (next_place s) us v) (moved_asks (next_place s) ts w) way.asks (moved_on (next_place s) us v) _ _ c.move_on.result c.move_on.ensures.flow)

pub returns-in_err-end_function-in-Function-clause-flow : goal.returns-in_err-end_function-in-Function-clause-flow
returns-in_err-end_function-in-Function-clause-flow c =
    let s = story_tree c.args.tree.now in
    let ts = map_threads (place_of s) c.args.threads.now.threads in
    let w = written c.args.stack.now c.args.output.now in
    let us = map_threads (place_of s) c.end_function.new.threads.threads in
    let v = written c.end_function.new.stack c.end_function.new.output in
    let kind : c.args.threads.now.threads.thread.frame.kind ≡ Function = ap (λ t. t.frame.kind) (sym c.top.ensures) ∙ sym c.in-Function.ensures in
    let is : c.from_residual.result ≡ Err c.in_err-end_function-in-Function.field-0.0 = search rules in
    rw is (function_broke (place_of s) (next_place s) ts w w c.args.threads.now.threads (record { same = refl; asks = λ h. h }) c.requires.last kind us v c.in_err-end_function-in-Function.field-0.0 us v (c.in_err-end_function-in-Function.ensures.flow s))
