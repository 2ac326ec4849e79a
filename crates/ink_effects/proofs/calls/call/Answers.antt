use Rattle.ink_effects.proofs.calls.call.Goals as goal

pub returns-in-Ok-Some-clause-effect : goal.returns-in-Ok-Some-clause-effect
returns-in-Ok-Some-clause-effect c evaluating fresh page rest = rw c.in-Ok-Some.field-0-is at (c.in-Ok-Some.ensures.call c.args.kind evaluating fresh page rest)

pub returns-in-Ok-None-clause-effect : goal.returns-in-Ok-None-clause-effect
returns-in-Ok-None-clause-effect c evaluating fresh page rest = rw c.requires.on (rw c.in-Ok-None.field-0-is at (c.in-Ok-None.ensures.call c.args.kind evaluating fresh page rest))

pub returns-in-Err-clause-effect : goal.returns-in-Err-clause-effect
returns-in-Err-clause-effect c evaluating fresh page rest = c.in-Err.ensures.call c.args.kind evaluating fresh page rest
