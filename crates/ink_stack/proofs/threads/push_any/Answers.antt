use Rattle.std.proofs.Common.{arith}
use Rattle.ink_stack.proofs.Common.{length-reverse, threads_in}
use Rattle.ink_stack.proofs.Tops.{doubled_refused, doubled_done}
use Rattle.ink_stack.proofs.threads.push_any.Goals as goal

pub returns-in_default-clause-threads : goal.returns-in_default-clause-threads
returns-in_default-clause-threads g c =
    let items = c.args.below.now.items in
    doubled_refused (threads_in c.args.running.now items) (omega (arith, length-reverse items, c.requires.few))

pub returns-clause-threads : goal.returns-clause-threads
returns-clause-threads g c =
    let items = c.args.below.now.items in
    doubled_done c.args.running.now.thread c.with_fork.result.thread items c.push_reserved.new.self.items tt (omega (arith, length-reverse items, c.requires.few)) c.push_reserved.ensures.items c.with_fork.ensures
