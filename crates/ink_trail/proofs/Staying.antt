-- What is true of data at each moment while a trail is put back.
use Rattle.std.proofs.Common.{◌≡◌, ℕ, List, [], ◌∷◌, Option, Some, None, subst, sym}
use Rattle.ink_trail.specs.Stays.{Stays}
use Rattle.ink_trail.specs.Undo.{Undo, trail_of, with_pair}

module _ {E D R : Type 0} (back : E → D → D) (room_of : E → R → R) (Holds : R → D → Type 0) where
  -- it is true now
  pub stays-now : (room : R) (es : List E) (d : D) → Stays back room_of Holds room es d → Holds room d
  stays-now room [] d h = h
  stays-now room (e ∷ es) d h = h.0

  -- with a pair more
  pub stays-with : (e : E) (n : ℕ) (was is : D) (u : Option (Undo E)) (room : R) → back e is ≡ was → Holds room is
      → Stays back room_of Holds (room_of e room) (trail_of u) was → Stays back room_of Holds room (trail_of (with_pair e n u)) is
  stays-with e n was is None room same now h = now
  stays-with e n was is (Some u) room same now h = (now, subst (λ d. Stays back room_of Holds (room_of e room) u.trail d) (sym same) h)

  -- with more room
  pub stays-more : (More : R → R → Type 0) → ((r s : R) (d : D) → More r s → Holds r d → Holds s d) → ((e : E) (r s : R) → More r s → More (room_of e r) (room_of e s))
      → (r s : R) (es : List E) (d : D) → More r s → Stays back room_of Holds r es d → Stays back room_of Holds s es d
  stays-more More holds rooms r s [] d more h = holds r s d more h
  stays-more More holds rooms r s (e ∷ es) d more h =
      (holds r s d more h.0, stays-more More holds rooms (room_of e r) (room_of e s) es (back e d) (rooms e r s more) h.1)
