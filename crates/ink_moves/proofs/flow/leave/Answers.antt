use Rattle.std.proofs.Common.{◌≡◌, ◌∙◌, ap, inl, inr, rules, Ok, Err, IfErr}
use Rattle.ink_model.specs.Flow.Transfers.{Written, depth_of}
use Rattle.ink_model.specs.Flow.Frames.{map_threads}
use Rattle.ink_model.specs.Memory.Refusals.{Gives, leaving}
use Rattle.ink_model.specs.Text.Output.{ends_function}
use Rattle.ink_model.specs.Flow.Threads.{frame_popped, top_result}
use Rattle.ink_model.specs.declared.frame.FrameKind.TheVariants as kind
use Rattle.ink_stack.specs.Outcomes.{Changes}
use Rattle.ink_moves.proofs.Passing.{gives_page, left_marked, left_unmarked, not_left, pops}
use Rattle.ink_moves.proofs.flow.leave.Goals as goal
use Rattle.ink_tree.specs.Nodes.{place_of}

pub returns-in-Function-clause-flow : goal.returns-in-Function-clause-flow
returns-in-Function-clause-flow c s values =
    let f = place_of s in
    let old = c.args.threads.now.threads in
    let w : Written = record { stack = values; page = c.args.output.now.page } in
    let number : c.number-number.result ≡ old.thread.frame.enter = c.number-number.ensures ∙ ap (λ t. t.frame.enter) c.top.ensures in
    let writes : Gives (leaving c.leave.new.self.page c.leave.result) (ends_function old.thread.frame.enter w.page) = rw number at c.leave.ensures.page.0 in
    let pops_one : Changes (top_result (frame_popped kind.Function (depth_of w) old.thread) old) old c.pop_frame.new.self.threads (Ok c.in_ok-pop_frame.field-0) = rw (c.in-Function.is, c.depth.ensures) at c.in_ok-pop_frame.ensures.threads in
    let limit : IfErr (ends_function old.thread.frame.enter w.page) (λ e. c.leave.result ≡ Err e) = rw number at c.leave.ensures.limit in
    rw c.in-Function.is (left_marked (map_threads f old) (map_threads f c.pop_frame.new.self.threads) w _ _ c.in_ok-pop_frame.field-0 c.leave.result (pops f kind.Function (depth_of w) old c.pop_frame.new.self.threads (Ok c.in_ok-pop_frame.field-0) pops_one)
    (gives_page w _ _ _ writes) limit)

pub returns-in-Base-clause-flow : goal.returns-in-Base-clause-flow
returns-in-Base-clause-flow c s values =
    let f = place_of s in
    let old = c.args.threads.now.threads in
    let w : Written = record { stack = values; page = c.args.output.now.page } in
    let pops_one : Changes (top_result (frame_popped c.args.kind (depth_of w) old.thread) old) old c.pop_frame.new.self.threads (Ok c.in_ok-pop_frame.field-0) = rw c.depth.ensures at c.in_ok-pop_frame.ensures.threads in
    let pops_there = pops f c.args.kind (depth_of w) old c.pop_frame.new.self.threads (Ok c.in_ok-pop_frame.field-0) pops_one in
    elim c.in-Base.is [
      | inl base ↦ rw base (left_unmarked _ (map_threads f old) _ w _ c.in_ok-pop_frame.field-0 (rw base at pops_there))
      | inr tunnel ↦ rw tunnel (left_unmarked _ (map_threads f old) _ w _ c.in_ok-pop_frame.field-0 (rw tunnel at pops_there))
    ]

pub returns-in_err-pop_frame-clause-flow : goal.returns-in_err-pop_frame-clause-flow
returns-in_err-pop_frame-clause-flow c s values =
    let f = place_of s in
    let old = c.args.threads.now.threads in
    let w : Written = record { stack = values; page = c.args.output.now.page } in
    let is : c.from_residual.result ≡ Err c.in_err-pop_frame.field-0.0 = search rules in
    let pops_none : Changes {U = Unit {0}} (top_result (frame_popped c.args.kind (depth_of w) old.thread) old) old c.pop_frame.new.self.threads (Err c.in_err-pop_frame.field-0.0) = rw c.depth.ensures at c.in_err-pop_frame.ensures.threads in
    rw is (not_left c.args.kind (map_threads f old) (map_threads f c.pop_frame.new.self.threads) w _ _ c.in_err-pop_frame.field-0.0 (pops f c.args.kind (depth_of w) old c.pop_frame.new.self.threads (Err c.in_err-pop_frame.field-0.0) pops_none))
