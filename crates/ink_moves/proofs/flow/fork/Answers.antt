use Rattle.ink_moves.proofs.flow.fork.Goals as goal

pub returns-in_ok-push_thread-clause-threads_mark : goal.returns-in_ok-push_thread-clause-threads_mark
returns-in_ok-push_thread-clause-threads_mark c = cc
