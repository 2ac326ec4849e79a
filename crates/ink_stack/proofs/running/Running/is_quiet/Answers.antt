use Rattle.std.proofs.Common.{◌≤◌, IfSome, arith, reverse, subst}
use Rattle.std.proofs.lemmas.Bool.{OnTrue_from}
use Rattle.ink_stack.proofs.Common.{nat_tests, IsQuiet}
use Rattle.ink_stack.proofs.Quietness.{quiet_weaker}
use Rattle.ink_stack.proofs.running.Running.is_quiet.Goals as goal

pub returns-in-Some : goal.returns-in-Some
returns-in-Some g c =
    let below = reverse c.self.inside.below.items in
    let held = subst (λ q. IfSome q (λ n. IsQuiet n below)) c.in-Some.is c.self.invariant.1 in
    rw (← c.self.view_is)
    (OnTrue_from _ _
    (λ e. let within : c.in-Some.bound ≤ c.args.depth = grind (arith, nat_tests) in quiet_weaker c.in-Some.bound c.args.depth below within held))
