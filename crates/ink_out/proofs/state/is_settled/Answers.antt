use Rattle.std.proofs.Common.{length, refl, sym, ◌∙◌, arith}
use Rattle.std.proofs.lemmas.List.{take_all}
use Rattle.ink_out.proofs.Standing.{among_here}
use Rattle.ink_out.proofs.state.is_settled.Goals as goal

pub loop-end-init : goal.loop-end-init
loop-end-init c = (omega arith, λ n falls. rw (take_all (length c.args.settled.now) c.args.settled.now (omega arith)) (n, falls, refl))

pub returns-then-at-index : goal.returns-then-at-index
returns-then-at-index c n falls =
    let (k, fall, same) = c.loop-end.invariant.1 n falls in
    among_here c.args.settled.now c.loop-end.end c.args.index k (omega arith) c.loop-end.invariant.0 fall (omega arith) ∙ sym same
