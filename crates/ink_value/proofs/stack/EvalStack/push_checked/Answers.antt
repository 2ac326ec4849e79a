use Rattle.std.proofs.Common.{◌≡◌, ◌∙◌, ◌∷◌, ◌++◌, [], ap, arith}
use Rattle.ink_trail.proofs.Undoing.{spare-trails, stood-trails, trails-after, trails-one}
use Rattle.ink_trail.specs.Undo.{with_pair}
use Rattle.ink_value.specs.Undo.{stack_back, stack_spare, stack_stood}
use Rattle.ink_value.specs.declared.undo.StackPair.TheVariants.{Pushed}
use Rattle.ink_value.proofs.Undoing.{held-as, is_held, is_pushed, pushed_back}
use Rattle.ink_value.proofs.stack.EvalStack.push_checked.Goals as goal

pub invariant_of-self : goal.invariant_of-self
invariant_of-self c =
    let ready = c.make_ready.ensures in
    is_held c.make_ready.new.items _ (held-as _ _ c.self.inside.trail.undo c.make_ready.new.trail.undo c.self.inside.items.items c.make_ready.new.items.items ready.kept.0 ready.items ready.more c.self.invariant.1)

pub invariant_of-self-2 : goal.invariant_of-self-2
invariant_of-self-2 c =
    let ready = c.in_ok-make_ready.ensures in
    is_pushed c.self.inside.items c.make_ready.new.items c.push_reserved.new.self c.args.value c.self.inside.trail.undo c.note.new.self.undo c.make_ready.ensures.items c.make_ready.ensures.more
    ready.few ready.room c.push_reserved.ensures.items c.push_reserved.ensures.capacity (c.note.ensures.undo ∙ ap (with_pair Pushed 1) c.make_ready.ensures.kept.0) c.self.invariant.1

pub returns-clause-trail : goal.returns-clause-trail
returns-clause-trail c =
    let items : c.push_reserved.new.self.items ≡ c.self.inside.items.items ++ c.args.value ∷ [] =
    c.push_reserved.ensures.items ∙ ap (λ vs. vs ++ c.args.value ∷ []) c.make_ready.ensures.items in
    rw (← c.self.view_is) (trails-after stack_back 1 _ _ _ c.make_ready.new.trail _ c.make_ready.ensures.kept
    (trails-one stack_back Pushed 1 _ _ _ _ (omega arith) (pushed_back _ _ c.args.value items) c.note.ensures.undo c.note.ensures.room))

pub returns-clause-stood : goal.returns-clause-stood
unfolding stack_stood
returns-clause-stood c = stood-trails stack_back (returns-clause-trail c)

pub returns-clause-spare : goal.returns-clause-spare
unfolding stack_spare
returns-clause-spare c = spare-trails stack_back (returns-clause-trail c)
