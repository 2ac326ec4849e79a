use Rattle.std.proofs.Common.{◌≡◌, ◌≤◌, ◌++◌, drop, length, reverse}
use Rattle.ink_model.specs.Choices.Making.{tags_first}
use Rattle.ink_choice.proofs.operands.push_tags.Given as goal

abbrev pub invariant-loop-depth : goal.invariant-loop-depth
invariant-loop-depth l =
    (length l.initial.tags.items ≤ length l.tags.items)
    × (l.tags.items ++ tags_first (drop l.depth (reverse l.stack.items)) ≡ l.initial.tags.items ++ tags_first (drop l.from (reverse l.stack.items)))
