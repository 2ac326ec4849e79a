use Rattle.std.proofs.Common.{◌≡◌, length, vec_capacity}
use Rattle.ink_choice.proofs.choices.end_all.Given as goal

abbrev pub invariant-loop-choice : goal.invariant-loop-choice
invariant-loop-choice g l = vec_capacity l.items ≡ vec_capacity l.initial.items

abbrev pub decreases-loop-choice : goal.decreases-loop-choice
decreases-loop-choice g l = length l.items.items
