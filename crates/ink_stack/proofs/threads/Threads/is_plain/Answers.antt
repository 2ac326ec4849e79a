use Rattle.std.proofs.lemmas.Bool.{OnTrue_from}
use Rattle.ink_stack.proofs.Common.{OnTrue_at}
use Rattle.ink_stack.proofs.Plain.{plain_fork}
use Rattle.ink_stack.proofs.threads.Threads.is_plain.Goals as goal

pub returns : goal.returns
returns g c = rw (← c.self.view_is) (OnTrue_from c.is_plain.result _ (λ is. plain_fork c.self.inside.running.thread (OnTrue_at is c.is_plain.ensures)))
