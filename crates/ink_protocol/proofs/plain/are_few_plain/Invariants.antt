use Rattle.json.specs.Written.{PlainBetween}
use Rattle.ink_protocol.proofs.plain.are_few_plain.Given as goal

abbrev pub invariant-loop-byte : goal.invariant-loop-byte
invariant-loop-byte l = PlainBetween l.bytes 0 l.byte-index
