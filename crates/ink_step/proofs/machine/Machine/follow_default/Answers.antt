use Rattle.std.proofs.Common.{◌≡◌, ◌∙◌, ◌||◌, Err, Ok, Some, ap, is_some, map, refl, rules, subst, sym, true}
use Rattle.ink_step.proofs.Common.{story_tree, Takes, default_asks, default_choice, stopped_by, map_choice, landing_lacks, pressed, stood_of, StepEnds, config_of, place_of, Machine}
use Rattle.ink_model.specs.Choices.Making.{only_invisible, choice_gone}
use Rattle.ink_model.specs.Run.Visits.{entering_around, entering_asks}
use Rattle.ink_step.proofs.Marks.{pressed_choices, pressed_default, pressed_landing}
use Rattle.ink_step.proofs.Chosen.{follows_default, is_default, no_default, short_of_default, short_pressed, stays_stopped}
use Rattle.ink_step.proofs.Follows.{or_where}
use Rattle.ink_step.proofs.machine.Machine.follow_default.Goals as goal
use Rattle.ink_step.proofs.machine.Machine.follow_default.Goals.{In-Some}

-- the choice that was taken is followed
is_first : (c : In-Some) → let s = story_tree c.args.story.now in default_choice (map (map_choice (place_of s)) c.args.self.now.flow.choices.items) ≡ Some (map_choice (place_of s) c.in-Some.choice)
is_first c =
    let cs = c.args.self.now.flow.choices.items in
    is_default (place_of (story_tree c.args.story.now)) cs c.take.new.self.items c.in-Some.choice (sym c.only_invisible.ensures ∙ c.if-not-only_invisible.false)
    (subst (λ o. Takes (choice_gone 0 cs) cs c.take.new.self.items (Ok o)) c.in-Some.is c.in_ok-choice.ensures.items)

pub returns-then-not-only_invisible-clause-ends : goal.returns-then-not-only_invisible-clause-ends
returns-then-not-only_invisible-clause-ends c =
    let s = story_tree c.args.story.now in
    let old = config_of s c.args.self.now in
    stays_stopped s (pressed s c.args.self.now) old old _ (no_default (place_of s) c.args.self.now.flow.choices.items (sym c.only_invisible.ensures ∙ c.if-not-only_invisible.true)) refl

-- memory for the copy of the choice was refused
pub returns-in_err-choice-clause-ends : goal.returns-in_err-choice-clause-ends
returns-in_err-choice-clause-ends c =
    let s = story_tree c.args.story.now in
    let machine = c.args.self.now in
    let cs = machine.flow.choices.items in
    let left = record machine { flow = record machine.flow { choices = c.take.new.self } } in
    let f = c.in_err-choice.field-0.0 in
    let kept = c.in_err-choice.ensures.items in
    let all = ap only_invisible kept.1 ∙ sym c.only_invisible.ensures ∙ c.if-not-only_invisible.false in
    let pressing = pressed_default s left (ap is_some c.in_err-choice.ensures.stood ∙ c.in_err-choice.ensures.memory) all in
    let is : c.from_residual.result ≡ Err f = search rules in
    let choice = default_choice (config_of s machine).flow.choices in
    subst (λ r. StepEnds (pressed s left || default_asks s choice (config_of s machine)) (stopped_by s choice (config_of s machine)) machine.shared.globals.rows (config_of s left) r) (sym is)
    (short_pressed s (pressed s left) (config_of s machine) (config_of s left) choice f kept.0.0 pressing refl)

pub returns-in_err-ready_choices-in-Some-clause-ends : goal.returns-in_err-ready_choices-in-Some-clause-ends
returns-in_err-ready_choices-in-Some-clause-ends c =
    let s = story_tree c.args.story.now in
    let machine = c.args.self.now in
    let left = record machine { flow = record machine.flow { choices = c.ready_choices.new.choices } } in
    let f = c.in_err-ready_choices-in-Some.field-0.0 in
    let short = c.in_err-ready_choices-in-Some.ensures in
    let r = c.from_residual-in_err-ready_choices-in-Some.result in
    let is : r ≡ Err f = search rules in
    let choice = default_choice (config_of s machine).flow.choices in
    subst (λ r. StepEnds (pressed s left || default_asks s choice (config_of s machine)) (stopped_by s choice (config_of s machine)) machine.shared.globals.rows (config_of s left) r) (sym is)
    (short_pressed s (pressed s left) (config_of s machine) (config_of s left) choice f short.fault (pressed_choices s left short.memory) refl)

pub returns-in-Ok-clause-ends : goal.returns-in-Ok-clause-ends
returns-in-Ok-clause-ends c =
    let s = story_tree c.args.story.now in
    let machine = c.args.self.now in
    let x = map_choice (place_of s) c.in-Some.choice in
    let entered = subst (λ t. config_of t c.enter_around.new.self ≡ entering_around t (config_of t c.take_up.new.self)) c.tree.ensures.tree c.in-Ok.ensures.ok in
    follows_default s (pressed s c.enter_around.new.self) (config_of s machine) (config_of s c.enter_around.new.self) _ x (is_first (goal.at.returns-in-Ok-clause-ends c).In-Some) (entered ∙ ap (entering_around s) (c.take_up.ensures.taken s))

pub returns-in-Err-clause-ends : goal.returns-in-Err-clause-ends
returns-in-Err-clause-ends c =
    let s = story_tree c.args.story.now in
    let machine = c.args.self.now in
    let left = c.enter_around.new.self in
    let x = map_choice (place_of s) c.in-Some.choice in
    let lacks = subst (λ t. (landing_lacks t left || entering_asks t (config_of t c.take_up.new.self)) ≡ true) c.tree.ensures.tree c.in-Err.ensures.memory in
    let adds = or_where (landing_lacks s left) (pressed s left) _ (pressed_landing s left) lacks in
    short_of_default s (pressed s left) (config_of s machine) (config_of s left) _ x (is_first (goal.at.returns-in-Err-clause-ends c).In-Some) c.in-Err.fault c.in-Err.ensures.fault
    (subst (λ d. (pressed s left || entering_asks s d) ≡ true) (c.take_up.ensures.taken s) adds)
    (c.in-Err.ensures.globals ∙ ap (λ d. d.shared.globals) (c.take_up.ensures.taken s))

-- ---- what stays

pub returns-in-Ok-clause-globals : goal.returns-in-Ok-clause-globals
returns-in-Ok-clause-globals c = c.in-Ok.ensures.globals ∙ c.take_up.ensures.globals

pub returns-in-Ok-clause-start : goal.returns-in-Ok-clause-start
returns-in-Ok-clause-start c = c.in-Ok.ensures.start ∙ c.take_up.ensures.start

pub returns-in-Ok-clause-aside : goal.returns-in-Ok-clause-aside
returns-in-Ok-clause-aside c = c.in-Ok.ensures.aside ∙ c.take_up.ensures.aside

pub returns-in-Ok-clause-mark : goal.returns-in-Ok-clause-mark
returns-in-Ok-clause-mark c =
    c.in-Ok.ensures.mark ∙ c.take_up.ensures.mark ∙ ap (λ o. record (stood_of c.args.self.now) { choices = o }) (c.ready_choices.ensures.stood ∙ c.in_ok-choice.ensures.stood)

pub returns-in-Err-clause-globals : goal.returns-in-Err-clause-globals
returns-in-Err-clause-globals c = c.in-Err.ensures.globals ∙ c.take_up.ensures.globals

pub returns-in-Err-clause-start : goal.returns-in-Err-clause-start
returns-in-Err-clause-start c = c.in-Err.ensures.start ∙ c.take_up.ensures.start

pub returns-in-Err-clause-aside : goal.returns-in-Err-clause-aside
returns-in-Err-clause-aside c = c.in-Err.ensures.aside ∙ c.take_up.ensures.aside

pub returns-in-Err-clause-mark : goal.returns-in-Err-clause-mark
returns-in-Err-clause-mark c =
    c.in-Err.ensures.mark ∙ c.take_up.ensures.mark ∙ ap (λ o. record (stood_of c.args.self.now) { choices = o }) (c.ready_choices.ensures.stood ∙ c.in_ok-choice.ensures.stood)

pub returns-in-None-clause-mark : goal.returns-in-None-clause-mark
returns-in-None-clause-mark c = ap (λ o. record (stood_of c.args.self.now) { choices = o }) c.in_ok-choice.ensures.stood

-- ---- the own fields

pub returns-in-Ok-clause-own : goal.returns-in-Ok-clause-own
returns-in-Ok-clause-own c = c.in-Ok.ensures.own ∙ ap (λ (m : Machine). m.trail) c.take_up.ensures.alone

pub returns-in-Err-clause-own : goal.returns-in-Err-clause-own
returns-in-Err-clause-own c = c.in-Err.ensures.own ∙ ap (λ (m : Machine). m.trail) c.take_up.ensures.alone
