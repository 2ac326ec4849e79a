-- What is true of data at each moment while a trail is put back.
use Rattle.std.specs.Prelude.{List, [], ◌∷◌}

module _ {E D R : Type 0} (back : E → D → D) (room_of : E → R → R) (Holds : R → D → Type 0) where
  -- the data are held by the room that there is; a pair that brings a list back brings its room
  abbrev pub Stays : R → List E → D → Type 0
  Stays room [] d = Holds room d
  Stays room (e ∷ es) d = Holds room d × Stays (room_of e room) es (back e d)
