use Rattle.std.proofs.Common.{arith, refl, ◌∙◌, ap}
use Rattle.ink_stack.proofs.Common.{length-reverse, threads_in}
use Rattle.ink_trail.proofs.Parting.{stays-last}
use Rattle.ink_trail.specs.Undo.{trail_of, writes_of}
use Rattle.ink_stack.specs.Undo.{Held, rooms_of, threads_back}
use Rattle.ink_stack.proofs.Holding.{held-as, held-now}
use Rattle.ink_stack.proofs.threads.Threads.undo_other.Goals as goal

pub put_one_back-requires : goal.put_one_back-requires
put_one_back-requires g c =
    let left = trail_of c.take_last.new.self.undo in
    held-now _ left _ (stays-last threads_back rooms_of Held c.in-Some.pair _ _ left _ c.in-Some.ensures.pair c.self.invariant.1)

pub invariant_of-self-2 : goal.invariant_of-self-2
invariant_of-self-2 g c =
    let u = c.take_last.new.self.undo in
    let us = threads_in c.put_one_back.new.running c.put_one_back.new.below.items in
    let was = stays-last threads_back rooms_of Held c.in-Some.pair _ _ (trail_of u) _ c.in-Some.ensures.pair c.self.invariant.1 in
    let held = held-as u u _ _ _ us refl c.put_one_back.ensures.threads c.put_one_back.ensures.room was in
    (omega (arith, length-reverse c.put_one_back.new.below.items, (held-now _ (trail_of u) us held).few), held)

pub returns-clause-writes : goal.returns-clause-writes
returns-clause-writes g c = c.take_last.ensures.writes ∙ ap (λ v. writes_of v.trail.undo) c.self.view_is

pub returns-in_default-clause-writes : goal.returns-in_default-clause-writes
returns-in_default-clause-writes g c = c.take_last.ensures.writes ∙ ap (λ v. writes_of v.trail.undo) c.self.view_is
