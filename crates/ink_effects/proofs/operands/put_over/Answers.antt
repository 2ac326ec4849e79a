use Rattle.ink_effects.proofs.Puts.{put_over_it, top_there}
use Rattle.ink_effects.proofs.operands.put_over.Goals as goal

pub unreachable-requires : goal.unreachable-requires
unreachable-requires c =
    top_there c.args.count c.in-Some.below c.args.stack.now.items c.drop_top.new.self.items c.requires.there c.in-Some.ensures c.drop_top.ensures.items c.in-Err.ensures.err

pub returns-clause-stack : goal.returns-clause-stack
returns-clause-stack c over left there =
    put_over_it c.args.count c.in-Some.below c.args.stack.now.items over left c.drop_top.new.self.items c.replace_top.new.self.items c.args.value _ c.requires.there c.in-Some.ensures c.drop_top.ensures.items
    c.in-Ok.ensures.ok c.replace_top.ensures.within there
