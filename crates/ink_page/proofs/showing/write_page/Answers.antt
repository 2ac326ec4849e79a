use Rattle.ink_page.proofs.Writing.{written_or_not}
use Rattle.ink_page.proofs.showing.write_page.Goals as goal

pub returns-clause-fault : goal.returns-clause-fault
returns-clause-fault g c = written_or_not _ _ _ _ c.write_answer.ensures.written
