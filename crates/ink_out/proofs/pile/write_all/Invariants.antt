use Rattle.std.proofs.Common.{ℕ, Bool, List, ◌++◌, reverse, take}
use Rattle.ink_out.proofs.Common.{Holds, pile_now}
use Rattle.ink_out.proofs.pile.write_all.Given as goal

abbrev pub invariant-loop-held : goal.invariant-loop-held
invariant-loop-held l =
    (cleans : Bool) (written : List ℕ) → Holds cleans l.fn.shown written → Holds cleans l.shown (written ++ pile_now l.newline l.glue (reverse (take l.held-index l.items)))
