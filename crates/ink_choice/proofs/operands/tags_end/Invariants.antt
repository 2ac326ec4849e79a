use Rattle.std.proofs.Common.{◌≡◌, drop, reverse}
use Rattle.ink_model.specs.Choices.Making.{after_tags}
use Rattle.ink_choice.proofs.operands.tags_end.Given as goal

abbrev pub invariant-loop-depth : goal.invariant-loop-depth
invariant-loop-depth l = after_tags (drop l.depth (reverse l.stack.items)) ≡ after_tags (drop l.from (reverse l.stack.items))
