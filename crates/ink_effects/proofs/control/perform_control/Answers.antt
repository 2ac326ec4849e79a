use Rattle.std.proofs.Common.{◌∙◌, ap, subst, sym}
use Rattle.ink_effects.proofs.Common.{story_tree, place_of}
use Rattle.ink_model.specs.Flow.Frames.{fresh_depth, mode_in, on_top}
use Rattle.ink_model.specs.Memory.Refusals.{control_asks}
use Rattle.ink_model.specs.Run.Step.{control_effect}
use Rattle.ink_effects.specs.Flows.{fields_of_flow, seen_in}
use Rattle.ink_effects.specs.Performs.{Performs, fields, fields_in, leading}
use Rattle.ink_effects.proofs.control.perform_control.Goals as goal

pub returns-clause-effect : goal.returns-clause-effect
returns-clause-effect c globals =
    let s = story_tree c.args.story.now in
    let p = place_of s c.args.here in
    let before = c.args.flow.now in
    let seen = seen_in s before c.args.shared.now in
    let fresh = fresh_depth before.threads.threads.thread.frame in
    let o = c.args.control in
    let page = c.args.output.now.page in
    let done = c.perform_in_mode-outcome.new in
    let led = leading c.perform_in_mode-outcome.result done.transfer in
    let performs = subst (λ b. let f = fields b fresh before.stack.items page globals in
    Performs s (control_asks s p seen o f) (control_effect s p seen o f) (fields done.evaluating fresh done.flow.stack.items done.output.page globals) led) c.is_evaluating-evaluating.ensures (c.perform_in_mode-outcome.ensures.effect globals) in
    let old = fields_of_flow before page globals in
    let after = c.set_mode.ensures.threads ∙ ap (λ f. on_top (mode_in done.evaluating) f.threads.threads) c.perform_in_mode-outcome.ensures.same in
    subst (λ ts. Performs s (control_asks s p seen o old) (control_effect s p seen o old) (fields_in ts.thread.frame done.flow.stack.items done.output.page globals) led) (sym after) performs
