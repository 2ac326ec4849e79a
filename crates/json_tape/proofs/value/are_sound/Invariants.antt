use Rattle.std.proofs.Common.{◌≡◌, drop}
use Rattle.json_tape.proofs.Common.{are_sound}
use Rattle.json_tape.proofs.value.are_sound.Given as goal

-- all are sound where those that are left are
abbrev pub invariant-loop-at : goal.invariant-loop-at
invariant-loop-at l = are_sound 0 l.tape ≡ are_sound l.levels (drop l.at l.tape)
