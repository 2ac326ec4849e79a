use Rattle.std.proofs.Common.{◌≡◌, List, rules, Ok, Err}
use Rattle.ink_model.specs.Flow.Transfers.{Written, depth_of}
use Rattle.ink_model.specs.Flow.Frames.{is_function, map_threads}
use Rattle.ink_model.specs.Flow.Threads.{frame_pushed, top_result}
use Rattle.ink_model.specs.declared.value.Value.{Value}
use Rattle.ink_stack.specs.Calls.{frame_kind}
use Rattle.ink_stack.specs.Outcomes.{Grows}
use Rattle.ink_moves.proofs.Calling.{call_breaks, call_lands}
use Rattle.ink_moves.proofs.Passing.{pushes}
use Rattle.ink_moves.proofs.flow.call.Goals as goal
use Rattle.ink_moves.proofs.flow.call.Goals.{In_ok-push_frame}
use Rattle.ink_tree.specs.Nodes.{place_of}

-- the frame that was pushed
pushing : (c : In_ok-push_frame) (values : List Value) → let w : Written = record { stack = values; page = c.args.output.now.page } in let old = c.args.threads.now.threads in
    Grows (top_result (frame_pushed (frame_kind c.args.kind) (depth_of w) old.thread) old) old c.push_frame.new.self.threads (Ok c.in_ok-push_frame.field-0)
pushing c values = rw c.depth.ensures at c.in_ok-push_frame.ensures.threads

pub returns-clause-flow : goal.returns-clause-flow
returns-clause-flow c s values =
    let f = place_of s in
    let w : Written = record { stack = values; page = c.args.output.now.page } in
    let v : Written = record { stack = values; page = c.enter.new.output.page } in
    let old = c.args.threads.now.threads in
    call_lands (frame_kind c.args.kind) (f c.args.place) (map_threads f old) (map_threads f c.push_frame.new.self.threads) w c.in_ok-push_frame.field-0 (pushes f (frame_kind c.args.kind) (depth_of w) old _ c.in_ok-push_frame.field-0 (pushing (goal.at.returns-clause-flow c).In_ok-push_frame values))
    (is_function (frame_kind c.args.kind)) (map_threads f c.enter.new.threads.threads) v c.in_ok-enter.field-0 (c.in_ok-enter.ensures.flow s values) _ (Ok c.land.result) (c.land.ensures.flow s v)

pub returns-in_err-enter-clause-flow : goal.returns-in_err-enter-clause-flow
returns-in_err-enter-clause-flow c s values =
    let f = place_of s in
    let w : Written = record { stack = values; page = c.args.output.now.page } in
    let v : Written = record { stack = values; page = c.enter.new.output.page } in
    let old = c.args.threads.now.threads in
    let is : c.from_residual-in_err-enter.result ≡ Err c.in_err-enter.field-0.0 = search rules in
    rw is (call_breaks (frame_kind c.args.kind) (f c.args.place) (map_threads f old) (map_threads f c.push_frame.new.self.threads) w c.in_ok-push_frame.field-0 (pushes f (frame_kind c.args.kind) (depth_of w) old _ c.in_ok-push_frame.field-0 (pushing (goal.at.returns-in_err-enter-clause-flow c).In_ok-push_frame values))
    (is_function (frame_kind c.args.kind)) (map_threads f c.enter.new.threads.threads) v c.in_err-enter.field-0.0 (c.in_err-enter.ensures.flow s values))

pub returns-clause-threads_mark : goal.returns-clause-threads_mark
returns-clause-threads_mark c = cc

pub returns-clause-output_mark : goal.returns-clause-output_mark
returns-clause-output_mark c = cc
