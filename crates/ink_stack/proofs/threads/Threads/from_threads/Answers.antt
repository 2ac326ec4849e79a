use Rattle.std.proofs.Common.{◌≤◌, ◌∙◌, length, subst, ◌<◌}
use Rattle.ink_model.specs.declared.limits.TheConstants.{MAX_THREADS}
use Rattle.ink_stack.proofs.Given.{threads_given, many_threads}
use Rattle.ink_stack.proofs.threads.Threads.from_threads.Goals as goal

pub returns-then-len-le-MAX_THREADS-clause-threads : goal.returns-then-len-le-MAX_THREADS-clause-threads
returns-then-len-le-MAX_THREADS-clause-threads g c =
    let few : length c.args.threads.items ≤ MAX_THREADS = subst (λ n. n ≤ MAX_THREADS) (c.len.ensures ∙ c.args.threads.ok.0) c.if-len-le-MAX_THREADS.true in
    c.with.ensures.threads ∙ threads_given c.args.threads.items few

pub returns-else-len-le-MAX_THREADS-clause-threads : goal.returns-else-len-le-MAX_THREADS-clause-threads
returns-else-len-le-MAX_THREADS-clause-threads g c = many_threads c.args.threads.items (subst (λ n. MAX_THREADS < n) (c.len.ensures ∙ c.args.threads.ok.0) c.if-len-le-MAX_THREADS.false)
