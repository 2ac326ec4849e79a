-- A part that keeps a trail of its cells.
use Rattle.std.specs.Prelude.{◌≡◌, ◌≤◌, [], ◌∷◌, Bool, true, false}
use Rattle.ink_trail.specs.Undo.{TrailView, trail_of}

module _ {E D : Type 0} (back : E → D → D) where
  -- The last pair is put back, and taken out of the trail. Where there is none the cells have not changed.
  abbrev pub PutsBack : Bool → D → TrailView E → D → TrailView E → Type 0
  PutsBack true was old is new = (e : E) × (trail_of old.undo ≡ e ∷ trail_of new.undo) × (is ≡ back e was) × (old.room ≤ new.room)
  PutsBack false was old is new = (trail_of old.undo ≡ []) × (is ≡ was) × (trail_of new.undo ≡ []) × (old.room ≤ new.room)
