use Rattle.std.proofs.Common.{◌≡◌, ◌||◌, ◌∙◌, Err, Ok, rules, subst, sym}
use Rattle.ink_step.proofs.Common.{story_tree, default_asks, default_choice, following, following_asks, stopped_by, move, move_asks, pressed, unstored, StepEnds, config_of}
use Rattle.ink_step.proofs.Follows.{ends_any, never_wants, or_assoc}
use Rattle.ink_step.proofs.Stopping.{broke, stopped_so, went_on}
use Rattle.ink_moves.specs.declared.flow.StepEnd.TheVariants as ends
use Rattle.ink_step.proofs.Owned.{own_behind}
use Rattle.ink_step.proofs.machine.Machine.go.Goals as goal

pub returns-in_err-follow-clause-ends : goal.returns-in_err-follow-clause-ends
returns-in_err-follow-clause-ends c asks e performs has offers =
    let s = story_tree c.args.story.now in
    let machine = c.args.self.now in
    let m = pressed s c.follow.new.self in
    let old = config_of s machine in
    let new = config_of s c.follow.new.self in
    let o = move s (unstored machine.shared.globals.rows e) old in
    let f = c.in_err-follow.field-0.0 in
    let is : c.from_residual.result ≡ Err f = search rules in
    subst (λ r. StepEnds (m || ((asks || move_asks s e old) || following_asks s o)) (following s o) machine.shared.globals.rows new r) (sym is)
    (subst (λ b. StepEnds b (following s o) machine.shared.globals.rows new (Err f)) (or_assoc m (asks || move_asks s e old) (following_asks s o))
    (broke s _ o machine.shared.globals.rows new f (c.in_err-follow.ensures.ends asks e performs has offers)))

pub returns-in-Stopped-clause-ends : goal.returns-in-Stopped-clause-ends
returns-in-Stopped-clause-ends c asks e performs has offers =
    let s = story_tree c.args.story.now in
    let machine = c.args.self.now in
    let m = pressed s c.follow_default.new.self in
    let old = config_of s machine in
    let mid = config_of s c.follow.new.self in
    let new = config_of s c.follow_default.new.self in
    let choice = default_choice mid.flow.choices in
    let o = move s (unstored machine.shared.globals.rows e) old in
    let asking = m || (asks || move_asks s e old) in
    let stops = ends_any _ asking o machine.shared.globals.rows mid _ (c.in_ok-follow.ensures.ends asks e performs has offers) in
    let went = subst (λ end. StepEnds asking o machine.shared.globals.rows mid (Ok end)) c.in-Stopped.is stops in
    let follows = subst (λ vs. StepEnds (m || default_asks s choice mid) (stopped_by s choice mid) vs new c.follow_default.result) c.follow.ensures.globals c.follow_default.ensures.ends in
    stopped_so s m (asks || move_asks s e old) o machine.shared.globals.rows machine.shared.globals.rows mid new c.follow_default.result went follows

pub returns-in-Went-clause-ends : goal.returns-in-Went-clause-ends
returns-in-Went-clause-ends c asks e performs has offers =
    let s = story_tree c.args.story.now in
    let rows = c.args.self.now.shared.globals.rows in
    let old = config_of s c.args.self.now in
    let new = config_of s c.follow.new.self in
    let o = move s (unstored rows e) old in
    let asking = pressed s c.follow.new.self || (asks || move_asks s e old) in
    let went = subst (λ end. StepEnds asking o rows new (Ok end)) c.in-Went.is (c.in_ok-follow.ensures.ends asks e performs has offers) in
    ends_any _ _ (following s o) rows new ends.Went (went_on s asking o rows new went)

pub returns-in-WantsCall-clause-ends : goal.returns-in-WantsCall-clause-ends
returns-in-WantsCall-clause-ends c asks e performs has offers =
    let s = story_tree c.args.story.now in
    let rows = c.args.self.now.shared.globals.rows in
    let old = config_of s c.args.self.now in
    let new = config_of s c.follow.new.self in
    let o = move s (unstored rows e) old in
    let asking = pressed s c.follow.new.self || (asks || move_asks s e old) in
    absurd (never_wants asking o rows new (subst (λ end. StepEnds asking o rows new (Ok end)) c.in-WantsCall.is (c.in_ok-follow.ensures.ends asks e performs has offers)))

pub returns-in-Stopped-clause-mark : goal.returns-in-Stopped-clause-mark
returns-in-Stopped-clause-mark c = c.follow_default.ensures.mark ∙ c.follow.ensures.mark

pub returns-in-Stopped-clause-aside : goal.returns-in-Stopped-clause-aside
returns-in-Stopped-clause-aside c = c.follow_default.ensures.aside ∙ c.follow.ensures.aside

pub returns-in-Stopped-clause-start : goal.returns-in-Stopped-clause-start
returns-in-Stopped-clause-start c = c.follow_default.ensures.start ∙ c.follow.ensures.start

-- ---- the own fields

pub returns-in-Stopped-clause-own : goal.returns-in-Stopped-clause-own
returns-in-Stopped-clause-own c = own_behind c.follow_default.ensures.own c.follow.ensures.own
