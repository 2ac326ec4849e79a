use Rattle.std.proofs.Common.{arith, rules, Err, ◌≡◌, ◌≤◌, ◌∙◌, ap, sym, Ok}
use Rattle.ink_model.specs.Run.Place.{next_place}
use Rattle.ink_model.specs.declared.frame.FrameKind.TheVariants.{Function}
use Rattle.ink_stack.specs.Undo.{threads_spare}
use Rattle.ink_moves.proofs.Turns.{function_broke, function_ended, reached}
use Rattle.ink_moves.proofs.flow.move_out.Goals as goal
use Rattle.ink_moves.specs.declared.flow.TheConstants.{MOVING}
use Rattle.ink_moves.specs.Reaches.{written}
use Rattle.ink_tree.specs.Nodes.{place_of, story_tree}

pub returns-in-Some-clause-flow : goal.returns-in-Some-clause-flow
returns-in-Some-clause-flow c =
    let s = story_tree c.args.tree.now in
    let w = written c.loop-place.stack c.loop-place.output in
    reached (place_of s) (next_place s) _ _ w c.loop-place.threads.threads c.loop-place.invariant.way _ (place_of s c.in-Some.place) (sym c.in-Some.ensures) _ (Ok c.land.result) (c.land.ensures.flow s w)

pub loop-place-preserved-in-Continue-1 : goal.loop-place-preserved-in-Continue-1
loop-place-preserved-in-Continue-1 c =
    let s = story_tree c.args.tree.now in
    let w = written c.loop-place.stack c.loop-place.output in
    let kind : c.loop-place.threads.threads.thread.frame.kind ≡ Function = ap (λ t. t.frame.kind) (sym c.top.ensures) ∙ sym c.in-Function.ensures in
    let room : MOVING ≤ threads_spare c.end_function.new.threads = c.in_ok-end_function-in-Function.ensures.enough in
    record {
      way = function_ended (place_of s) (next_place s) _ _ w c.loop-place.threads.threads c.loop-place.invariant.way (sym c.in_default.ensures) kind _ _ c.in_ok-end_function-in-Function.field-0 (c.in_ok-end_function-in-Function.ensures.flow s);
      room = omega arith;
      ends = λ few. omega arith;
      threads_mark = cc;
      stack_mark = cc;
      output_mark = cc;
    }

pub returns-in_err-end_function-in-Function-clause-flow : goal.returns-in_err-end_function-in-Function-clause-flow
returns-in_err-end_function-in-Function-clause-flow c =
    let s = story_tree c.args.tree.now in
    let w = written c.loop-place.stack c.loop-place.output in
    let kind : c.loop-place.threads.threads.thread.frame.kind ≡ Function = ap (λ t. t.frame.kind) (sym c.top.ensures) ∙ sym c.in-Function.ensures in
    let is : c.from_residual.result ≡ Err c.in_err-end_function-in-Function.field-0.0 = search rules in
    rw is (function_broke (place_of s) (next_place s) _ _ w c.loop-place.threads.threads c.loop-place.invariant.way (sym c.in_default.ensures) kind _ _ c.in_err-end_function-in-Function.field-0.0 _ _ (c.in_err-end_function-in-Function.ensures.flow s))

pub returns-in-Some-clause-threads_mark : goal.returns-in-Some-clause-threads_mark
returns-in-Some-clause-threads_mark c = cc
