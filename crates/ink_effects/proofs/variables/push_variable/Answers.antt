use Rattle.std.proofs.Common.{◌∙◌, Ok, ap, pos, sym}
use Rattle.ink_model.specs.declared.value.Value.TheVariants.{Int}
use Rattle.ink_effects.specs.Performs.{fields}
use Rattle.ink_effects.proofs.Stored.{pushes_read, reads_nothing}
use Rattle.ink_effects.proofs.variables.push_variable.Goals as goal
use Rattle.ink_vars.specs.Outcomes.{looked}

pub returns-in-Ok-Some-clause-effect : goal.returns-in-Ok-Some-clause-effect
returns-in-Ok-Some-clause-effect c s rest evaluating fresh page =
    pushes_read s c.args.threads.now.threads rest (fields evaluating fresh c.args.stack.now.items page c.args.globals.now.rows) c.args.name.now c.in-Ok-Some.value.now c.push_copy.new.stack.items c.push_copy.result
    (sym (ap (λ o. looked (Ok o)) c.in-Ok-Some.field-0-is) ∙ rw c.as_str.ensures at c.in-Ok-Some.ensures.read) c.push_copy.ensures.stack c.push_copy.ensures.memory

pub returns-in-Ok-None-clause-effect : goal.returns-in-Ok-None-clause-effect
returns-in-Ok-None-clause-effect c s rest evaluating fresh page =
    pushes_read s c.args.threads.now.threads rest (fields evaluating fresh c.args.stack.now.items page c.args.globals.now.rows) c.args.name.now (Int (pos 0)) c.push.new.stack.items c.push.result
    (sym (ap (λ o. looked (Ok o)) c.in-Ok-None.field-0-is) ∙ rw c.as_str.ensures at c.in-Ok-None.ensures.read) c.push.ensures.stack c.push.ensures.memory

pub returns-in-Err-clause-effect : goal.returns-in-Err-clause-effect
returns-in-Err-clause-effect c s rest evaluating fresh page =
    reads_nothing s c.args.threads.now.threads rest (fields evaluating fresh c.args.stack.now.items page c.args.globals.now.rows) c.args.name.now c.in-Err.fault (rw c.as_str.ensures at c.in-Err.ensures.read)
