use Rattle.std.proofs.Common.{◌∙◌, Some, ap, is_some, sym}
use Rattle.ink_trail.proofs.Undoing.{spare-trails, stood-trails, trails-unmarked}
use Rattle.ink_value.specs.Undo.{stack_back, stack_spare, stack_stood}
use Rattle.ink_value.proofs.Tops.{none_of, some_of, top_put}
use Rattle.ink_value.proofs.Undoing.{same_trail}
use Rattle.ink_value.proofs.stack.EvalStack.replace_top.Goals as goal

pub set_top-requires-clause-there : goal.set_top-requires-clause-there
set_top-requires-clause-there c = some_of c.is_empty.result c.self.inside.items c.args.self.now.items c.is_empty.ensures c.if-is_empty.false (ap (λ s. s.items) c.self.view_is)

pub returns-clause-ok : goal.returns-clause-ok
returns-clause-ok c =
    let vs = c.args.self.now.items in
    ap Some c.set_top.ensures.items ∙ top_put vs c.args.value (some_of c.is_empty.result c.self.inside.items vs c.is_empty.ensures c.if-is_empty.false (ap (λ s. s.items) c.self.view_is))

pub returns-then-is_empty-clause-err : goal.returns-then-is_empty-clause-err
returns-then-is_empty-clause-err c = none_of c.is_empty.result c.self.inside.items c.args.self.now.items c.is_empty.ensures c.if-is_empty.true (ap (λ s. s.items) c.self.view_is)

pub returns-clause-trail : goal.returns-clause-trail
returns-clause-trail c =
    trails-unmarked stack_back 1 _ _ _ _ (ap (λ s. is_some s.trail.undo) (sym c.self.view_is) ∙ sym c.is_marked.ensures ∙ c.if-is_marked.false)
    (same_trail c.args.self.now.trail c.set_top.new.self.trail c.set_top.ensures.trail)

pub returns-clause-stood : goal.returns-clause-stood
unfolding stack_stood
returns-clause-stood c = stood-trails stack_back (returns-clause-trail c)

pub returns-clause-spare : goal.returns-clause-spare
unfolding stack_spare
returns-clause-spare c = spare-trails stack_back (returns-clause-trail c)
