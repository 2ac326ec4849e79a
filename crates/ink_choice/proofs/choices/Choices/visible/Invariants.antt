use Rattle.std.proofs.Common.{◌≡◌, ◌++◌, drop}
use Rattle.ink_model.specs.Choices.Making.{shown}
use Rattle.ink_choice.proofs.choices.Choices.visible.Given as goal

abbrev pub invariant-loop-choice : goal.invariant-loop-choice
invariant-loop-choice g l = l.shown.items ++ shown (drop l.choice-index l.choice-items) ≡ shown l.choice-items
