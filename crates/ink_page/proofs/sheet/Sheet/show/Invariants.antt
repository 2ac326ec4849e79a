use Rattle.std.proofs.Common.{◌≡◌}
use Rattle.ink_page.specs.Sheet.{laid}
use Rattle.ink_page.proofs.sheet.Sheet.show.Given as goal

abbrev pub invariant-loop-letter : goal.invariant-loop-letter
invariant-loop-letter l = l.self ≡ laid l.yielded l.initial.self
