use Rattle.std.proofs.Common.{length}
use Rattle.json_tape.proofs.Common.{json_data, members_of, members_data}
use Rattle.json_tape.proofs.Shapes.{AreLeft}
use Rattle.json_tape.proofs.value.Value.members.Given as goal

abbrev pub invariant-loop-name : goal.invariant-loop-name
invariant-loop-name l = AreLeft l.members (members_data l.found.entries) (members_of (json_data l.self))

abbrev pub decreases-loop-name : goal.decreases-loop-name
decreases-loop-name l = length l.members
