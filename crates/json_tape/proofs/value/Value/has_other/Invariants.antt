use Rattle.std.proofs.Common.{length}
use Rattle.json_tape.proofs.Common.{json_data, members_of}
use Rattle.json_tape.proofs.Others.{NoneYet}
use Rattle.json_tape.proofs.value.Value.has_other.Given as goal

abbrev pub invariant-loop-name : goal.invariant-loop-name
invariant-loop-name l = NoneYet l.first l.second l.members (members_of (json_data l.self))

abbrev pub decreases-loop-name : goal.decreases-loop-name
decreases-loop-name l = length l.members
