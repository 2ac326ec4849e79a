use Rattle.ink_moves.proofs.flow.done.Goals as goal

pub returns-clause-threads_mark : goal.returns-clause-threads_mark
returns-clause-threads_mark c = cc

pub returns-then-pop_thread-clause-threads_mark : goal.returns-then-pop_thread-clause-threads_mark
returns-then-pop_thread-clause-threads_mark c = cc
