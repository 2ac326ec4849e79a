use Rattle.std.proofs.Common.{Result, false, refl}
use Rattle.ink_effects.proofs.Common.{story_tree, Effect, Fields, led_to, Fault, fields, frame_kind, seen_by, place_of}
use Rattle.ink_effects.specs.Standing.{Rest}
use Rattle.ink_model.specs.Run.Effect.{Calls, Landing as Goal, Lands}
use Rattle.ink_model.specs.Run.Step.Calls.{call_to}
use Rattle.ink_model.specs.Run.Step.Diverts.{divert_to}
use Rattle.ink_effects.proofs.Leading.{calls_there, lands_there, leads_nowhere, passed, performed}
use Rattle.ink_effects.specs.declared.transfer.Transfer.TheVariants as transfer
use Rattle.ink_stack.specs.declared.frame.CallKind.{CallKind}
use Rattle.ink_effects.proofs.diverts.wanted_landing.Goals as goal
use Rattle.ink_effects.proofs.diverts.wanted_landing.Goals.{Start}

-- what is done where the condition is true
module _ (c : Start) (rest : Rest) where
  abbrev diverts : Fields → Effect
  diverts =
      let s = story_tree c.args.story.now in
      divert_to s (place_of s c.args.here) (seen_by s c.args.threads.now.threads rest) c.args.to.now

  abbrev calls : CallKind → Fields → Effect
  calls kind =
      let s = story_tree c.args.story.now in
      call_to (frame_kind kind) s (place_of s c.args.here) (seen_by s c.args.threads.now.threads rest) c.args.to.now

  abbrev led : Result Goal Fault
  led =
      let s = story_tree c.args.story.now in
      led_to s (place_of s c.args.here) (seen_by s c.args.threads.now.threads rest) c.args.to.now c.args.globals.now.rows

-- ---- flow is led

pub returns-in-Ok-clause-divert : goal.returns-in-Ok-clause-divert
returns-in-Ok-clause-divert c evaluating fresh page rest =
    let s = story_tree c.args.story.now in
    let globals = c.args.globals.now.rows in
    let new = fields evaluating fresh c.is_wanted.new.stack.items page globals in
    let w = (goal.at.returns-in-Ok-clause-divert c).Start in
    performed s _ new _ (diverts w rest) _ _ c.in-Ok-true.field-0-test (c.in-Ok-true.ensures.wanted evaluating fresh page globals) (lands_there s false new c.in-Ok.landing (led w rest) (c.in-Ok.ensures rest))

pub returns-in-Ok-clause-call : goal.returns-in-Ok-clause-call
returns-in-Ok-clause-call c kind evaluating fresh page rest =
    let s = story_tree c.args.story.now in
    let globals = c.args.globals.now.rows in
    let new = fields evaluating fresh c.is_wanted.new.stack.items page globals in
    let w = (goal.at.returns-in-Ok-clause-call c).Start in
    performed s _ new _ (calls w rest kind) _ _ c.in-Ok-true.field-0-test (c.in-Ok-true.ensures.wanted evaluating fresh page globals) (calls_there s false new kind c.in-Ok.landing (led w rest) (c.in-Ok.ensures rest))

-- ---- it leads nowhere

pub returns-in-Err-landing_to-clause-divert : goal.returns-in-Err-landing_to-clause-divert
returns-in-Err-landing_to-clause-divert c evaluating fresh page rest =
    let s = story_tree c.args.story.now in
    let globals = c.args.globals.now.rows in
    let new = fields evaluating fresh c.is_wanted.new.stack.items page globals in
    let w = (goal.at.returns-in-Err-landing_to-clause-divert c).Start in
    performed s _ new _ (diverts w rest) _ _ c.in-Ok-true.field-0-test (c.in-Ok-true.ensures.wanted evaluating fresh page globals) (leads_nowhere s false new _ (led w rest) (λ l. Lands l new) (c.in-Err-landing_to.ensures rest))

pub returns-in-Err-landing_to-clause-call : goal.returns-in-Err-landing_to-clause-call
returns-in-Err-landing_to-clause-call c kind evaluating fresh page rest =
    let s = story_tree c.args.story.now in
    let globals = c.args.globals.now.rows in
    let new = fields evaluating fresh c.is_wanted.new.stack.items page globals in
    let w = (goal.at.returns-in-Err-landing_to-clause-call c).Start in
    performed s _ new _ (calls w rest kind) _ _ c.in-Ok-true.field-0-test (c.in-Ok-true.ensures.wanted evaluating fresh page globals) (leads_nowhere s false new _ (led w rest) (λ l. Calls (frame_kind kind) l new) (c.in-Err-landing_to.ensures rest))

-- ---- flow goes on

pub returns-in-Ok-false-clause-divert : goal.returns-in-Ok-false-clause-divert
returns-in-Ok-false-clause-divert c evaluating fresh page rest =
    let s = story_tree c.args.story.now in
    let globals = c.args.globals.now.rows in
    let new = fields evaluating fresh c.is_wanted.new.stack.items page globals in
    let w = (goal.at.returns-in-Ok-false-clause-divert c).Start in
    passed s _ new _ (diverts w rest) _ transfer.Next refl c.in-Ok-false.field-0-test (c.in-Ok-false.ensures.wanted evaluating fresh page globals)

pub returns-in-Ok-false-clause-call : goal.returns-in-Ok-false-clause-call
returns-in-Ok-false-clause-call c kind evaluating fresh page rest =
    let s = story_tree c.args.story.now in
    let globals = c.args.globals.now.rows in
    let new = fields evaluating fresh c.is_wanted.new.stack.items page globals in
    let w = (goal.at.returns-in-Ok-false-clause-call c).Start in
    passed s _ new _ (calls w rest kind) _ transfer.Next refl c.in-Ok-false.field-0-test (c.in-Ok-false.ensures.wanted evaluating fresh page globals)
