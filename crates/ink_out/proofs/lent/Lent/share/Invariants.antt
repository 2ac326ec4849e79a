use Rattle.std.proofs.Common.{◌≡◌}
use Rattle.ink_out.proofs.lent.Lent.share.Given as goal

abbrev pub invariant-loop-shared : goal.invariant-loop-shared
invariant-loop-shared l = l.text ≡ l.fn.text
