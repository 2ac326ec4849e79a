use Rattle.std.proofs.Common.{◌≡◌, ◌∙◌, ◌-◌, ◌+◌, [], ◌∷◌, ◌++◌, ap, arith, length, sym, take, vec_capacity, vec_len}
use Rattle.std.proofs.lemmas.List.{length-append, take-take}
use Rattle.ink_trail.proofs.Undoing.{trails-one, trails-trails}
use Rattle.ink_trail.specs.Undo.{trail_of}
use Rattle.ink_value.specs.Undo.{Held, stack_back}
use Rattle.ink_value.specs.declared.undo.StackPair.TheVariants.{Popped}
use Rattle.ink_value.proofs.Undoing.{held-now, held-with}
use Rattle.ink_value.proofs.undo.drop_noted.Goals as goal

pub loop-preserved : goal.loop-preserved
loop-preserved c =
    let k = c.loop.counter in
    let all = c.args.items.now in
    let old = c.loop.items in
    let new = c.pop.new.self in
    let inv = c.loop.invariant in
    let was : old.items ≡ new.items ++ c.in-Some.value ∷ [] = c.in-Some.ensures.items in
    let more : length old.items ≡ length new.items + 1 = ap length was ∙ length-append new.items (c.in-Some.value ∷ []) in
    let held : Held (vec_capacity old) old.items = held-now (vec_capacity old) (trail_of c.loop.trail.undo) old.items inv.held in
    let few : vec_len old - 1 ≡ vec_len all - (k + 1) = omega (arith, inv.len) in
    record {
      items = c.pop.ensures.rest ∙ ap (λ n. take n old.items) few ∙ ap (take (vec_len all - (k + 1))) inv.items
          ∙ take-take (vec_len all - (k + 1)) (vec_len all - k) all.items (omega arith);
      len = omega (arith, inv.len, more, old.ok.0, new.ok.0);
      spare = omega (arith, inv.spare, c.note.ensures.spare);
      trail = trails-trails stack_back k 1 _ old.items _ _ c.loop.trail _ inv.trail
          (trails-one stack_back (Popped c.in-Some.value) 1 _ _ _ _ (omega arith) (sym was) c.note.ensures.undo c.note.ensures.room);
      held = rw c.note.ensures.undo (held-with (Popped c.in-Some.value) 1 old.items new.items c.loop.trail.undo (vec_capacity old) (vec_capacity new) (sym was)
          (omega (arith, more, held.0), omega (arith, more, held.1, c.pop.ensures.capacity)) (omega (arith, c.pop.ensures.capacity)) inv.held);
    }

pub returns-clause-items : goal.returns-clause-items
returns-clause-items c =
    let done : c.loop.counter ≡ c.args.count = omega (arith, c.loop.auto.counter-end, c.loop-test.false) in
    c.loop.invariant.items ∙ ap (λ n. take (vec_len c.args.items.now - n) c.args.items.now.items) done

pub returns-clause-trail : goal.returns-clause-trail
returns-clause-trail c =
    let done : c.loop.counter ≡ c.args.count = omega (arith, c.loop.auto.counter-end, c.loop-test.false) in
    rw (← done) c.loop.invariant.trail
