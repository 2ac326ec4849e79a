use Rattle.std.proofs.Common.{◌≡◌, not, drop}
use Rattle.ink_out.proofs.Common.{list_any, is_blank}
use Rattle.ink_out.proofs.cutting.has_words.Given as goal

abbrev pub invariant-loop-byte : goal.invariant-loop-byte
invariant-loop-byte l = list_any (λ byte. not (is_blank byte)) (drop l.byte-index l.text) ≡ list_any (λ byte. not (is_blank byte)) l.text
