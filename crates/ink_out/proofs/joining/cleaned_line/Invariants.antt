use Rattle.std.proofs.Common.{◌≡◌, ◌++◌, ℕ, List, drop, true}
use Rattle.ink_out.proofs.Common.{Holds, texts_of}
use Rattle.ink_out.proofs.joining.cleaned_line.Given as goal

-- what was written
abbrev pub invariant-loop-mark : goal.invariant-loop-mark
invariant-loop-mark l = (written : List ℕ) × Holds true l.shown written × (written ++ texts_of (drop l.mark-index l.texts) ≡ texts_of l.texts)
