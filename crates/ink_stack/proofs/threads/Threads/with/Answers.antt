use Rattle.ink_trail.proofs.Undoing.{stood-none}
use Rattle.ink_stack.proofs.Common.{threads_back, threads_stood, length-append, length-reverse, reverse-append, MAX_THREADS}
use Rattle.std.proofs.Common.{◌≡◌, ◌∙◌, ◌<◌, ◌++◌, [], ◌∷◌, Some, ap, arith, length, reverse, sym}
use Rattle.ink_stack.specs.Saving.{threads_with}
use Rattle.ink_stack.proofs.threads.Threads.with.Goals as goal

pub returns-clause-stood : goal.returns-clause-stood
unfolding threads_stood
returns-clause-stood g c = stood-none threads_back _ _ c.new.ensures

pub invariant_of-result : goal.invariant_of-result
invariant_of-result g c =
    let below = c.pop.new.self.items in
    let whole : c.args.threads.items ≡ below ++ c.in_ok-thread.thread ∷ [] = c.in_ok-thread.ensures.items in
    let few : length below < MAX_THREADS = omega (arith, ap length whole ∙ length-append below (c.in_ok-thread.thread ∷ []), c.requires) in
    rw c.new.ensures (
      few,
      record {
        thread = c.run-running.ensures.within;
        few = omega (arith, few, length-reverse below);
        fit = omega (arith, length-reverse below, c.pop.new.self.ok.0, c.pop.new.self.ok.1);
      },
    )

pub returns-clause-threads : goal.returns-clause-threads
returns-clause-threads g c =
    let below = c.pop.new.self.items in
    ap (λ t. Some (record { thread = t; below = reverse below })) c.run-running.ensures.thread
    ∙ sym (ap (λ ts. threads_with (reverse ts)) c.in_ok-thread.ensures.items ∙ ap threads_with (reverse-append below (c.in_ok-thread.thread ∷ [])))
