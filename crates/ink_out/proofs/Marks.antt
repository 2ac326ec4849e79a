-- Room for changes where no mark stands, and what stood at the mark after a call.
use Rattle.std.proofs.Common.{◌≡◌, ℕ, ◌+◌, ◌≤◌, ◌^◌, Option, None, Result, arith, subst, sym}
use Rattle.ink_out.specs.Undo.{output_back, output_spare, output_stood}
use Rattle.ink_out.specs.Writing.{Writing}
use Rattle.ink_out.specs.declared.undo.OutputPair.{OutputPair}
use Rattle.ink_trail.proofs.Undoing.{none-stood, spare-or-kept, stood-or-kept}
use Rattle.ink_trail.specs.Undo.{TrailsOrKeeps, Undo, spare, spare_of}

-- any number of changes of the text can be noted where no mark stands
pub output_free : (v : Writing) → output_stood v ≡ None → 2 ^ 64 ≤ output_spare v
unfolding output_spare output_stood spare
output_free v unmarked =
    subst (λ (u : Option (Undo OutputPair)). 2 ^ 64 ≤ spare_of u v.trail.room) (sym (none-stood output_back v.trail v.page unmarked)) (omega arith)

-- what stood at the mark, and the room, after a call that leaves a trail, or changes nothing where it fails
module _ {A F : Type 0} (r : Result A F) (n : ℕ) (old new : Writing) (trail : TrailsOrKeeps output_back n old.page old.trail new.page new.trail r) where
  pub stood_after : output_stood new ≡ output_stood old
  unfolding output_stood
  stood_after = stood-or-kept output_back r n old.page new.page old.trail new.trail trail

  pub spare_after : output_spare old ≤ output_spare new + n
  unfolding output_spare
  spare_after = spare-or-kept output_back r n old.page new.page old.trail new.trail trail
