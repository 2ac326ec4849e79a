use Rattle.ink_moves.proofs.flow.end_function.Goals as goal

pub returns-clause-threads_mark : goal.returns-clause-threads_mark
returns-clause-threads_mark c = cc

pub returns-clause-stack_mark : goal.returns-clause-stack_mark
returns-clause-stack_mark c = cc

pub returns-clause-output_mark : goal.returns-clause-output_mark
returns-clause-output_mark c = cc
