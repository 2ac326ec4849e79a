use Rattle.std.proofs.Common.{true, false, sym}
use Rattle.ink_protocol.proofs.Spelling.{same_bytes, given_truth_of}
use Rattle.ink_protocol.proofs.given.plain_given.Goals as goal

pub returns-then-eq-clause-given : goal.returns-then-eq-clause-given
returns-then-eq-clause-given c = same_bytes _ _ _ (sym c.if-eq.ensures) (given_truth_of true)

pub returns-then-eq-2-clause-given : goal.returns-then-eq-2-clause-given
returns-then-eq-2-clause-given c = same_bytes _ _ _ (sym c.if-eq-2.ensures) (given_truth_of false)
