use Rattle.ink_look.proofs.looking.step_on.Goals as goal

pub look-requires : goal.look-requires
look-requires g c = record { waits = rw c.in-Some.is at c.requires.waits }

pub seek-requires : goal.seek-requires
seek-requires g c = record { unmarked = rw c.in-None.is at c.requires.waits }

pub returns-in-Some-clause-steps : goal.returns-in-Some-clause-steps
returns-in-Some-clause-steps g c = rw c.in-Some.is c.look.ensures.steps

pub returns-in-None-clause-steps : goal.returns-in-None-clause-steps
returns-in-None-clause-steps g c = rw c.in-None.is c.seek.ensures.steps
