-- Room for changes where no mark stands.
use Rattle.std.proofs.Common.{◌≡◌, ◌≤◌, ◌^◌, Option, None, arith, subst, sym}
use Rattle.ink_vars.proofs.Common.{none-stood, CountPair}
use Rattle.ink_trail.specs.Undo.{Undo, spare, spare_of}
use Rattle.ink_vars.specs.Undo.{counts_back, counts_spare, counts_stood}
use Rattle.ink_vars.specs.Views.{CountsView}

-- any number of changes of counts can be noted where no mark stands
pub counts_free : (v : CountsView) → counts_stood v ≡ None → 2 ^ 64 ≤ counts_spare v
unfolding counts_spare counts_stood spare
counts_free v unmarked =
    subst (λ (u : Option (Undo CountPair)). 2 ^ 64 ≤ spare_of u v.trail.room) (sym (none-stood counts_back v.trail v.rows unmarked)) (omega arith)
