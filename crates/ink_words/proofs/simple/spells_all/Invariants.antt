use Rattle.std.proofs.Common.{◌≡◌, bytes_eq, false}
use Rattle.ink_words.proofs.Spelled.{left_of}
use Rattle.ink_words.proofs.simple.spells_all.Given as goal

-- what is left of the text spells the values that are left, where the text spells all
abbrev pub invariant-loop-value : goal.invariant-loop-value
invariant-loop-value l = bytes_eq (left_of l.follows l.value-index l.values) l.left ≡ bytes_eq (left_of false 0 l.values) l.fn.text
