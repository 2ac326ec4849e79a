use Rattle.std.proofs.Common.{◌||◌, not}
use Rattle.ink_choice.proofs.Lists.{Passed}
use Rattle.ink_choice.proofs.choices.index_of.Given as goal

abbrev pub invariant-loop-index : goal.invariant-loop-index
invariant-loop-index g l = Passed (λ c. l.any || not c.hidden) l.number l.left l.index l.choices
