use Rattle.std.proofs.Common.{◌≡◌, ◌∙◌, Some, ap, arith, inl, inr, sym, vec_capacity}
use Rattle.ink_model.specs.Memory.Refusals.{holds_memory}
use Rattle.ink_model.specs.Values.Stack.{popped}
use Rattle.ink_model.specs.Memory.Variables.{on_popped}
use Rattle.ink_trail.proofs.Undoing.{spare-kept, spare-trails, stood-kept, stood-trails, trails-after, trails-one}
use Rattle.ink_trail.specs.Undo.{with_pair}
use Rattle.ink_value.specs.Undo.{stack_back, stack_spare, stack_stood}
use Rattle.ink_value.specs.declared.undo.StackPair.TheVariants.{Popped}
use Rattle.ink_value.proofs.Tops.{top_of}
use Rattle.ink_value.proofs.Undoing.{held-as, is_held, is_popped, succeeded}
use Rattle.ink_value.proofs.stack.EvalStack.pop_marked.Goals as goal

pub returns-in-Ok-clause-trail : goal.returns-in-Ok-clause-trail
returns-in-Ok-clause-trail c =
    rw (← c.self.view_is) (trails-after stack_back 1 _ _ _ c.copied.new.trail _ c.copied.ensures.kept
    (trails-one stack_back (Popped c.in-Some.value) 1 _ _ _ _ (omega arith) (sym c.in-Some.ensures.items) c.note.ensures.undo c.note.ensures.room))

pub returns-in-Err-clause-memory : goal.returns-in-Err-clause-memory
unfolding stack_spare
returns-in-Err-clause-memory c short =
    let below = c.pop.new.self.items in
    let top : popped c.args.self.now.items ≡ Some (c.in-Some.value, below) = ap popped (ap (λ s. s.items) (sym c.self.view_is) ∙ c.in-Some.ensures.items) ∙ top_of below c.in-Some.value in
    elim c.in-Err.ensures.memory [
      | inl holds ↦ inl (ap (λ r. on_popped r holds_memory) top ∙ holds)
      | inr few ↦ inr (rw (← c.self.view_is) few)
    ]

pub returns-in-Ok-clause-stood : goal.returns-in-Ok-clause-stood
unfolding stack_stood
returns-in-Ok-clause-stood c = stood-trails stack_back (returns-in-Ok-clause-trail c)

pub returns-in-Ok-clause-spare : goal.returns-in-Ok-clause-spare
unfolding stack_spare
returns-in-Ok-clause-spare c = spare-trails stack_back (returns-in-Ok-clause-trail c)

pub returns-in-Ok-clause-memory : goal.returns-in-Ok-clause-memory
returns-in-Ok-clause-memory c short = absurd (succeeded _ _ short)

pub invariant_of-self-in-Ok : goal.invariant_of-self-in-Ok
invariant_of-self-in-Ok c =
    is_popped c.self.inside.items c.pop.new.self c.in-Some.value c.self.inside.trail.undo c.note.new.self.undo c.in-Some.ensures.items c.pop.ensures.capacity
    (c.note.ensures.undo ∙ ap (with_pair (Popped c.in-Some.value) 1) c.copied.ensures.kept.0) c.self.invariant.1

pub invariant_of-self-in-Err : goal.invariant_of-self-in-Err
invariant_of-self-in-Err c =
    let old = c.self.inside.items in
    let new = c.push_reserved.new.self in
    let room : vec_capacity new ≡ vec_capacity old = c.push_reserved.ensures.capacity ∙ c.pop.ensures.capacity in
    is_held new _ (held-as (vec_capacity old) (vec_capacity new) c.self.inside.trail.undo c.copied.new.trail.undo old.items new.items c.copied.ensures.kept.0
    (c.push_reserved.ensures.items ∙ sym c.in-Some.ensures.items) (omega (arith, room)) c.self.invariant.1)

pub returns-in-Err-clause-trail : goal.returns-in-Err-clause-trail
returns-in-Err-clause-trail c = rw (← c.self.view_is) (c.push_reserved.ensures.items ∙ sym c.in-Some.ensures.items, c.copied.ensures.kept)

pub returns-in-Err-clause-stood : goal.returns-in-Err-clause-stood
unfolding stack_stood
returns-in-Err-clause-stood c = let kept = returns-in-Err-clause-trail c in stood-kept stack_back _ _ _ _ kept.0 kept.1

pub returns-in-Err-clause-spare : goal.returns-in-Err-clause-spare
unfolding stack_spare
returns-in-Err-clause-spare c = let kept = returns-in-Err-clause-trail c in omega (arith, spare-kept _ _ kept.1)
