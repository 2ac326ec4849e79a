use Rattle.std.proofs.Common.{arith, subst, sym, vec_capacity}
use Rattle.ink_trail.proofs.Parting.{stays-last}
use Rattle.ink_trail.specs.Undo.{trail_of}
use Rattle.ink_value.specs.Undo.{Held, StaysHeld, same_room, stack_back}
use Rattle.ink_value.proofs.Undoing.{held-more, held-now}
use Rattle.ink_value.proofs.undo.EvalStackUndo.undo_last.Goals as goal

pub put_one_back-requires : goal.put_one_back-requires
put_one_back-requires c =
    let room = vec_capacity c.self.inside.items in
    let old = c.self.inside.items.items in
    let left = trail_of c.take_last.new.self.undo in
    held-now room left (stack_back c.in-Some.pair old) (stays-last stack_back same_room Held c.in-Some.pair room _ left old c.in-Some.ensures.pair c.self.invariant.1)

pub invariant_of-self-2 : goal.invariant_of-self-2
invariant_of-self-2 c =
    let room = vec_capacity c.self.inside.items in
    let old = c.self.inside.items.items in
    let new = c.put_one_back.new.items in
    let left = trail_of c.take_last.new.self.undo in
    let held : StaysHeld (vec_capacity new) left new.items =
    subst (λ vs. StaysHeld (vec_capacity new) left vs) (sym c.put_one_back.ensures.items) (held-more room (vec_capacity new) left (stack_back c.in-Some.pair old) c.put_one_back.ensures.capacity
    (stays-last stack_back same_room Held c.in-Some.pair room _ left old c.in-Some.ensures.pair c.self.invariant.1)) in
    (omega (arith, new.ok.0, (held-now (vec_capacity new) left new.items held).0), held)
