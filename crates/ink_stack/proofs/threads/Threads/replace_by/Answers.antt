use Rattle.std.proofs.Common.{◌∙◌, [], ap, arith, sym}
use Rattle.ink_stack.specs.Running.{threads_in}
use Rattle.ink_stack.proofs.Backs.{spare-of, stood-of}
use Rattle.ink_stack.proofs.Holding.{held-unmarked}
use Rattle.ink_stack.proofs.Unmarked.{free}
use Rattle.ink_stack.proofs.threads.Threads.replace_by.Goals as goal

pub invariant_of-self : goal.invariant_of-self
invariant_of-self g c =
    rw c.clear.ensures.items (
      omega arith,
      held-unmarked c.self.inside.trail.undo _ (threads_in c.args.running []) (sym c.is_marked.ensures ∙ c.if-is_marked.false)
          (record { thread = c.within.ensures; few = omega arith; fit = omega arith }),
    )

pub returns : goal.returns
returns g c =
    let trail = free 1 _ _ c.self.inside.trail (sym c.is_marked.ensures ∙ c.if-is_marked.false) in
    rw (← c.self.view_is) (record { threads = ap (λ items. threads_in c.args.running items) c.clear.ensures.items; trail = trail; stood = stood-of 1 _ _ trail; spare = spare-of 1 _ _ trail })
