use Rattle.std.proofs.Common.{ℕ, ◌+◌, ◌*◌, length}
use Rattle.json_tape.proofs.Moves.{Items, Members}
use Rattle.json_tape.proofs.tape.+tape.Given as goal

abbrev pub decreases-value : goal.decreases-value
decreases-value l = 2 * l.depth

abbrev pub decreases-items : goal.decreases-items
decreases-items l = 2 * l.depth + 1

abbrev pub decreases-members : goal.decreases-members
decreases-members l = 2 * l.depth + 1

abbrev pub invariant-items-loop-reader : goal.invariant-items-loop-reader
invariant-items-loop-reader l = (n : ℕ) × Items l.depth n l.initial.nodes l.initial.reader l.nodes l.reader

abbrev pub decreases-items-loop-reader : goal.decreases-items-loop-reader
decreases-items-loop-reader l = length l.reader

abbrev pub invariant-members-loop-key : goal.invariant-members-loop-key
invariant-members-loop-key l = (n : ℕ) × Members l.depth n l.initial.nodes l.initial.reader l.nodes l.reader

abbrev pub decreases-members-loop-key : goal.decreases-members-loop-key
decreases-members-loop-key l = length l.reader
