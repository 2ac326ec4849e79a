use Rattle.std.proofs.Common.{ap, subst}
use Rattle.ink_step.proofs.Common.{story_tree, popped, stood_of, config_of}
use Rattle.ink_effects.specs.Stacks.{Pops}
use Rattle.ink_step.proofs.AtOnce.{assigns_at_once, declares_at_once, none_there}
use Rattle.ink_step.proofs.machine.Machine.store_at_once.Goals as goal

pub returns-clause-assigned : goal.returns-clause-assigned
returns-clause-assigned c asks marked =
    let s = story_tree c.args.story.now in
    let machine = c.args.self.now in
    let can = c.requires.can in
    assigns_at_once s asks (config_of s machine) (config_of s c.go_to_next.new.self) c.args.name.now c.in-Some.value c.take.new.stack.items
    (subst (Pops machine.flow.stack.items c.take.new.stack.items) c.in-Some.is c.in_ok-value.ensures.pops) c.put_at.new.self.rows (rw c.as_str.ensures at c.put_at.ensures.rows) can.there can.plain _ c.go_to_next.ensures.ends

pub returns-in_default-clause-assigned : goal.returns-in_default-clause-assigned
returns-in_default-clause-assigned c asks marked =
    let items = c.args.self.now.flow.stack.items in
    absurd (none_there (popped items) (subst (Pops items c.take.new.stack.items) c.in_default.is c.in_ok-value.ensures.pops).0 c.requires.can.value)

pub returns-clause-declared : goal.returns-clause-declared
returns-clause-declared c asks marked =
    let s = story_tree c.args.story.now in
    let machine = c.args.self.now in
    let can = c.requires.can in
    declares_at_once s asks (config_of s machine) (config_of s c.go_to_next.new.self) c.args.name.now c.in-Some.value c.take.new.stack.items
    (subst (Pops machine.flow.stack.items c.take.new.stack.items) c.in-Some.is c.in_ok-value.ensures.pops) c.put_at.new.self.rows (rw c.as_str.ensures at c.put_at.ensures.rows) can.kept _ c.go_to_next.ensures.ends

pub returns-in_default-clause-declared : goal.returns-in_default-clause-declared
returns-in_default-clause-declared c asks marked =
    let items = c.args.self.now.flow.stack.items in
    absurd (none_there (popped items) (subst (Pops items c.take.new.stack.items) c.in_default.is c.in_ok-value.ensures.pops).0 c.requires.can.value)

pub returns-in_default-clause-mark : goal.returns-in_default-clause-mark
returns-in_default-clause-mark c = ap (λ o. record (stood_of c.args.self.now) { stack = o }) c.take.ensures.mark
