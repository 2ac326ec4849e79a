use Rattle.std.proofs.Common.{◌∙◌, ap, sym}
use Rattle.ink_value.proofs.Tops.{pop_gives}
use Rattle.ink_value.proofs.stack.EvalStack.pop.Goals as goal

pub returns-clause-items : goal.returns-clause-items
returns-clause-items c =
    (pop_gives c.pop.result c.ok_or.result c.args.self.now.items c.pop.new.self.items c.ok_or.ensures.value (ap (λ s. s.items) (sym c.self.view_is) ∙ c.pop.ensures.items)).0

pub returns-clause-err : goal.returns-clause-err
returns-clause-err c =
    (pop_gives c.pop.result c.ok_or.result c.args.self.now.items c.pop.new.self.items c.ok_or.ensures.value (ap (λ s. s.items) (sym c.self.view_is) ∙ c.pop.ensures.items)).1

pub returns-clause-faults : goal.returns-clause-faults
returns-clause-faults c =
    (pop_gives c.pop.result c.ok_or.result c.args.self.now.items c.pop.new.self.items c.ok_or.ensures.value (ap (λ s. s.items) (sym c.self.view_is) ∙ c.pop.ensures.items)).2

pub returns-clause-asks : goal.returns-clause-asks
returns-clause-asks c short =
    absurd ((pop_gives c.pop.result c.ok_or.result c.args.self.now.items c.pop.new.self.items c.ok_or.ensures.value (ap (λ s. s.items) (sym c.self.view_is) ∙ c.pop.ensures.items)).3 short)
