use Rattle.ink_choice.proofs.Depths.{dropped_count, dropped_some}
use Rattle.ink_choice.proofs.operands.pop_ready.Goals as goal

pub returns-clause-items : goal.returns-clause-items
returns-clause-items c = dropped_some c.args.stack.now.items c.drop_top.new.self.items c.args.count c.requires.there c.drop_top.ensures.items

pub returns-clause-count : goal.returns-clause-count
returns-clause-count c = dropped_count c.args.stack.now.items c.drop_top.new.self.items c.args.count c.requires.there (returns-clause-items c)
