use Rattle.std.proofs.Common.{◌+◌, ◌-◌, ◌<◌, ◌≤◌, ap, arith, length, rules}
use Rattle.ink_trail.proofs.Undoing.{spare-trails, stood-trails, trails-after, trails-more, trails-trails}
use Rattle.ink_value.specs.Undo.{stack_back, stack_spare, stack_stood}
use Rattle.ink_value.proofs.Undoing.{another_on, is_held}
use Rattle.ink_value.proofs.stack.EvalStack.leave_marked.Goals as goal

pub returns-clause-trail : goal.returns-clause-trail
returns-clause-trail c =
    let few : c.len.result - c.args.below - 1 + 1 ≤ 2 = search (rules, arith) in
    rw (← c.self.view_is) (trails-after stack_back 2 _ _ _ c.ready.new.self _ c.ready.ensures.kept
    (trails-more stack_back (c.len.result - c.args.below - 1 + 1) 2 _ _ _ _ few
    (trails-trails stack_back (c.len.result - c.args.below - 1) 1 _ c.drop_noted.new.items.items _ _ c.drop_noted.new.trail _ c.drop_noted.ensures.trail c.replace_noted.ensures.trail)))

pub returns-clause-stood : goal.returns-clause-stood
unfolding stack_stood
returns-clause-stood c = stood-trails stack_back (returns-clause-trail c)

pub returns-clause-spare : goal.returns-clause-spare
unfolding stack_spare
returns-clause-spare c = spare-trails stack_back (returns-clause-trail c)

pub invariant_of-self-2 : goal.invariant_of-self-2
invariant_of-self-2 c = is_held c.replace_noted.new.items _ c.replace_noted.ensures.held

pub returns-clause-items : goal.returns-clause-items
returns-clause-items c =
    let old = c.self.inside.items in
    let dropped = c.drop_noted.new.items in
    let there : c.args.below < length old.items = omega (arith, c.requires.there, ap (λ s. length s.items) c.self.view_is) in
    rw (← c.self.view_is) (another_on old.items dropped.items _ c.args.value _ _ _ c.args.below old.ok.0 c.len.ensures dropped.ok.0 there c.drop_noted.ensures.items c.replace_noted.ensures.items)
