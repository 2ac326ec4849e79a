use Rattle.std.proofs.Common.{◌≡◌, ◌++◌, drop, string_bytes}
use Rattle.ink_out.specs.Joined.{texts_of}
use Rattle.ink_out.proofs.joining.push_texts.Given as goal

abbrev pub invariant-loop-mark : goal.invariant-loop-mark
invariant-loop-mark l = string_bytes l.line ++ texts_of (drop l.mark-index l.texts) ≡ string_bytes l.fn.line ++ texts_of l.texts
