use Rattle.std.proofs.Common.{◌≡◌, ◌-◌, drop, length}
use Rattle.ink_json.specs.Reading.{number_before}
use Rattle.ink_json.proofs.names.ending.Given as goal

abbrev pub invariant-loop-byte : goal.invariant-loop-byte
invariant-loop-byte l = number_before l.number (drop l.byte-index l.byte-items) ≡ number_before 0 (drop (length l.fn.name - 8) l.fn.name)
