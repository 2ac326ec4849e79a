use Rattle.std.proofs.Common.{◌≡◌, Some, is_some, subst}
use Rattle.ink_effects.proofs.Common.{popped, stack_stood, fields, leading}
use Rattle.ink_effects.specs.Stacks.{Pops}
use Rattle.ink_effects.proofs.Effects.{performs_or}
use Rattle.ink_effects.proofs.Stored.{assigns_keeping, assigns_nowhere, assigns_there, led}
use Rattle.ink_effects.proofs.variables.assign.Goals as goal

pub returns-in-Ok-clause-effect : goal.returns-in-Ok-clause-effect
returns-in-Ok-clause-effect c s rest evaluating fresh page =
    let pops : popped c.args.stack.now.items ≡ Some (c.in-Some.value, c.take.new.stack.items) = subst (Pops c.args.stack.now.items c.take.new.stack.items) c.in-Some.is c.in_ok-value.ensures.pops in
    let f = fields evaluating fresh c.args.stack.now.items page c.args.globals.now.rows in
    performs_or s (is_some (stack_stood c.args.stack.now)) _ _ _ _ (assigns_there s c.args.threads.now.threads rest f c.args.name.now c.take.new.stack.items c.in-Some.value pops c.in-Ok.variable (leading c.store.result c.store.new.transfer) c.in-Ok.ensures.leads
    (c.store.ensures.effect s (record f { stack = c.take.new.stack.items })))

pub returns-in-Ok-clause-threads : goal.returns-in-Ok-clause-threads
returns-in-Ok-clause-threads c s rest evaluating fresh page =
    let pops : popped c.args.stack.now.items ≡ Some (c.in-Some.value, c.take.new.stack.items) = subst (Pops c.args.stack.now.items c.take.new.stack.items) c.in-Some.is c.in_ok-value.ensures.pops in
    let f = fields evaluating fresh c.args.stack.now.items page c.args.globals.now.rows in
    assigns_keeping s c.args.threads.now.threads rest f c.args.name.now c.take.new.stack.items c.in-Some.value pops c.in-Ok.variable c.store.new.threads.threads c.store.result
    c.in-Ok.ensures.leads (c.store.ensures.threads c.args.globals.now.rows)

pub returns-in-Err-clause-effect : goal.returns-in-Err-clause-effect
returns-in-Err-clause-effect c s rest evaluating fresh page =
    let pops : popped c.args.stack.now.items ≡ Some (c.in-Some.value, c.take.new.stack.items) = subst (Pops c.args.stack.now.items c.take.new.stack.items) c.in-Some.is c.in_ok-value.ensures.pops in
    let f = fields evaluating fresh c.args.stack.now.items page c.args.globals.now.rows in
    performs_or s (is_some (stack_stood c.args.stack.now)) _ _ _ _ (assigns_nowhere s c.args.threads.now.threads rest f c.args.name.now c.take.new.stack.items c.in-Some.value pops c.in-Err.fault c.in-Err.ensures.leads)

pub store-requires-clause-within : goal.store-requires-clause-within
store-requires-clause-within c = (led c.args.globals.now.rows c.args.threads.now.threads.thread _ c.in-Some.value _ c.in-Ok.variable (c.in-Ok.ensures.leads c.in-Some.value)).0
