use Rattle.std.proofs.Common.{◌≡◌, ◌∙◌, refl, ap, subst, is_some, rules, sym, Err}
use Rattle.ink_step.proofs.Common.{stood_of, story_tree, popped, config_of, context_of, fields_of, acted, OutOfMemory, StepEnds, or_first, or_more, stack_stood}
use Rattle.ink_effects.specs.Stacks.{Pops}
use Rattle.ink_step.proofs.AtOnce.{assigns_at_once, declares_at_once, none_there}
use Rattle.ink_model.specs.Run.Step.Variables.{assign, declare}
use Rattle.ink_model.specs.declared.scope.Scope.TheVariants.{Global}
use Rattle.ink_step.proofs.Follows.{ends_short}
use Rattle.ink_step.proofs.machine.Machine.store_marked.Goals as goal

pub returns-in_err-put_there-clause-mark : goal.returns-in_err-put_there-clause-mark
returns-in_err-put_there-clause-mark c = rw (c.take.ensures.mark, c.put_there.ensures.stood) refl

pub returns-clause-mark : goal.returns-clause-mark
returns-clause-mark c =
    let machine = c.args.self.now in
    let here : stood_of (record machine { flow = record machine.flow { stack = c.take.new.stack }; shared = record machine.shared { globals = c.put_there.new.self } }) ≡ stood_of machine =
    rw (c.take.ensures.mark, c.put_there.ensures.stood) refl in
    c.go_to_next.ensures.mark ∙ here

pub returns-clause-assigned : goal.returns-clause-assigned
returns-clause-assigned c asks marked =
    let s = story_tree c.args.story.now in
    let machine = c.args.self.now in
    let can = c.requires.can in
    assigns_at_once s asks (config_of s machine) (config_of s c.go_to_next.new.self) c.args.name.now c.in-Some.value c.take.new.stack.items
    (subst (Pops machine.flow.stack.items c.take.new.stack.items) c.in-Some.is c.in_ok-value.ensures.pops) c.put_there.new.self.rows (rw c.as_str.ensures at c.in_ok-put_there.ensures.ok) can.there can.plain _ c.go_to_next.ensures.ends

pub returns-in_default-clause-assigned : goal.returns-in_default-clause-assigned
returns-in_default-clause-assigned c asks marked =
    let items = c.args.self.now.flow.stack.items in
    absurd (none_there (popped items) (subst (Pops items c.take.new.stack.items) c.in_default.is c.in_ok-value.ensures.pops).0 c.requires.can.value)

pub returns-clause-declared : goal.returns-clause-declared
returns-clause-declared c asks marked =
    let s = story_tree c.args.story.now in
    let machine = c.args.self.now in
    let can = c.requires.can in
    declares_at_once s asks (config_of s machine) (config_of s c.go_to_next.new.self) c.args.name.now c.in-Some.value c.take.new.stack.items
    (subst (Pops machine.flow.stack.items c.take.new.stack.items) c.in-Some.is c.in_ok-value.ensures.pops) c.put_there.new.self.rows (rw c.as_str.ensures at c.in_ok-put_there.ensures.ok) can.kept _ c.go_to_next.ensures.ends

pub returns-in_default-clause-declared : goal.returns-in_default-clause-declared
returns-in_default-clause-declared c asks marked =
    let items = c.args.self.now.flow.stack.items in
    absurd (none_there (popped items) (subst (Pops items c.take.new.stack.items) c.in_default.is c.in_ok-value.ensures.pops).0 c.requires.can.value)

pub returns-in_default-clause-mark : goal.returns-in_default-clause-mark
returns-in_default-clause-mark c = ap (λ o. record (stood_of c.args.self.now) { stack = o }) c.take.ensures.mark

pub returns-in_err-value-clause-assigned : goal.returns-in_err-value-clause-assigned
returns-in_err-value-clause-assigned c asks marked =
    let s = story_tree c.args.story.now in
    let machine = c.args.self.now in
    let old = config_of s machine in
    let f = c.in_err-value.field-0.0 in
    let is : c.from_residual.result ≡ Err f = search rules in
    let o = acted s (assign c.args.name.now (context_of old) (fields_of old)) old in
    let left = record machine { flow = record machine.flow { stack = c.take.new.stack } } in
    subst (StepEnds asks o machine.shared.globals.rows (config_of s left)) (sym is)
    (ends_short asks o machine.shared.globals.rows (config_of s left) f (c.in_err-value.ensures.fault, marked (or_first _ _ c.in_err-value.ensures.memory)) refl)

pub returns-in_err-put_there-clause-assigned : goal.returns-in_err-put_there-clause-assigned
returns-in_err-put_there-clause-assigned c asks marked =
    let s = story_tree c.args.story.now in
    let machine = c.args.self.now in
    let old = config_of s machine in
    let is : c.from_residual-in_err-put_there.result ≡ Err OutOfMemory = search rules in
    let o = acted s (assign c.args.name.now (context_of old) (fields_of old)) old in
    let left = record machine { flow = record machine.flow { stack = c.take.new.stack }; shared = record machine.shared { globals = c.put_there.new.self } } in
    subst (StepEnds asks o machine.shared.globals.rows (config_of s left)) (sym is)
    (ends_short asks o machine.shared.globals.rows (config_of s left) OutOfMemory (refl, marked (or_more (is_some (stack_stood machine.flow.stack)) _ c.in_err-put_there.ensures.memory)) c.in_err-put_there.ensures.err)

pub returns-in_err-value-clause-declared : goal.returns-in_err-value-clause-declared
returns-in_err-value-clause-declared c asks marked =
    let s = story_tree c.args.story.now in
    let machine = c.args.self.now in
    let old = config_of s machine in
    let f = c.in_err-value.field-0.0 in
    let is : c.from_residual.result ≡ Err f = search rules in
    let o = acted s (declare Global c.args.name.now (context_of old) (fields_of old)) old in
    let left = record machine { flow = record machine.flow { stack = c.take.new.stack } } in
    subst (StepEnds asks o machine.shared.globals.rows (config_of s left)) (sym is)
    (ends_short asks o machine.shared.globals.rows (config_of s left) f (c.in_err-value.ensures.fault, marked (or_first _ _ c.in_err-value.ensures.memory)) refl)

pub returns-in_err-put_there-clause-declared : goal.returns-in_err-put_there-clause-declared
returns-in_err-put_there-clause-declared c asks marked =
    let s = story_tree c.args.story.now in
    let machine = c.args.self.now in
    let old = config_of s machine in
    let is : c.from_residual-in_err-put_there.result ≡ Err OutOfMemory = search rules in
    let o = acted s (declare Global c.args.name.now (context_of old) (fields_of old)) old in
    let left = record machine { flow = record machine.flow { stack = c.take.new.stack }; shared = record machine.shared { globals = c.put_there.new.self } } in
    subst (StepEnds asks o machine.shared.globals.rows (config_of s left)) (sym is)
    (ends_short asks o machine.shared.globals.rows (config_of s left) OutOfMemory (refl, marked (or_more (is_some (stack_stood machine.flow.stack)) _ c.in_err-put_there.ensures.memory)) c.in_err-put_there.ensures.err)
