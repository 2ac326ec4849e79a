use Rattle.std.proofs.Common.{◌≡◌, ◌∙◌, ◌-◌, ◌<◌, ◌∷◌, ◌++◌, [], Some, ap, arith, length, rules, take, vec_capacity}
use Rattle.ink_value.proofs.Tops.{none_of, some_of, top_put}
use Rattle.ink_trail.proofs.Undoing.{spare-trails, stood-trails}
use Rattle.ink_value.specs.Undo.{stack_back, stack_spare, stack_stood}
use Rattle.ink_value.proofs.Undoing.{held-now, is_held}
use Rattle.ink_value.proofs.stack.EvalStack.replace_marked.Goals as goal

pub returns-clause-ok : goal.returns-clause-ok
returns-clause-ok c =
    let vs = c.args.self.now.items in
    let some : 0 < length vs = some_of c.is_empty.result c.self.inside.items vs c.is_empty.ensures c.if-is_empty.false (ap (λ s. s.items) c.self.view_is) in
    let items : c.replace_noted.new.items.items ≡ take (length vs - 1) vs ++ c.args.value ∷ [] = search (rules, arith) in
    ap Some items ∙ top_put vs c.args.value some

pub returns-clause-stood : goal.returns-clause-stood
unfolding stack_stood
returns-clause-stood c = rw (← c.self.view_is) (stood-trails stack_back c.replace_noted.ensures.trail)

pub invariant_of-self : goal.invariant_of-self
invariant_of-self c = is_held c.replace_noted.new.items _ c.replace_noted.ensures.held

pub returns-clause-within : goal.returns-clause-within
returns-clause-within c = (held-now (vec_capacity c.replace_noted.new.items) _ c.replace_noted.new.items.items c.replace_noted.ensures.held).0

pub returns-clause-trail : goal.returns-clause-trail
returns-clause-trail c = rw (← c.self.view_is) c.replace_noted.ensures.trail

pub returns-clause-spare : goal.returns-clause-spare
unfolding stack_spare
returns-clause-spare c = spare-trails stack_back (returns-clause-trail c)

pub returns-then-is_empty-clause-err : goal.returns-then-is_empty-clause-err
returns-then-is_empty-clause-err c = none_of c.is_empty.result c.self.inside.items c.args.self.now.items c.is_empty.ensures c.if-is_empty.true (ap (λ s. s.items) c.self.view_is)
