use Rattle.std.proofs.Common.{◌≡◌, ◌++◌, drop, map, take}
use Rattle.ink_model.specs.Run.Configuration.{unnumbered_choice}
use Rattle.ink_choice.proofs.choices.clear_numbers_of.Given as goal

abbrev pub invariant-loop-choice : goal.invariant-loop-choice
invariant-loop-choice g l =
    take l.choice-index l.choice-items ++ map unnumbered_choice (drop l.choice-index l.choice-items) ≡ map unnumbered_choice l.initial.choice-items
