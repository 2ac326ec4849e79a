-- What cells held before they were changed, and how it is put back.
use Rattle.std.specs.Prelude.{◌≡◌, ◌≤◌, ◌<◌, ◌+◌, ◌-◌, ◌^◌, ℕ, min, List, [], ◌∷◌, ◌++◌, length, true, is_some, IsSome, Option, Some, None, Result, Ok, Err}

-- the pairs of a cell and what it held, the last first, and the changes of single cells that were counted, which stay at the most
pub record Undo (E : Type 0) : Type 0 where
  pub trail : List E
  pub writes : ℕ

-- what is put back at the end of a mark, where one stands, and how many pairs more fit without memory
pub record TrailView (E : Type 0) : Type 0 where
  pub undo : Option (Undo E)
  pub room : ℕ

module _ {E : Type 0} where
  abbrev pub trail_of : Option (Undo E) → List E
  trail_of None = []
  trail_of (Some u) = u.trail

  abbrev pub writes_of : Option (Undo E) → ℕ
  writes_of None = 0
  writes_of (Some u) = u.writes

  -- a pair more, by a call that counts n changes
  abbrev pub with_pair : E → ℕ → Option (Undo E) → Option (Undo E)
  with_pair e n None = None
  with_pair e n (Some u) = Some (record { trail = e ∷ u.trail; writes = min (u.writes + n) (2 ^ 64 - 1) })

  -- no pair more, by a call that counts n changes
  abbrev pub with_count : ℕ → Option (Undo E) → Option (Undo E)
  with_count n None = None
  with_count n (Some u) = Some (record u { writes = min (u.writes + n) (2 ^ 64 - 1) })

  -- ---- room

  -- the room of a trail, and where no mark stands more than a call can count
  abbrev pub spare_of : Option (Undo E) → ℕ → ℕ
  spare_of None room = 2 ^ 64
  spare_of (Some u) room = room

  -- how many pairs more fit without memory, and 2^64 where no mark stands
  unfoldable pub spare : TrailView E → ℕ
  spare t = spare_of t.undo t.room

  -- while a mark stands, n pairs more fit without memory
  abbrev pub HasRoom : ℕ → TrailView E → Type 0
  HasRoom n t = IsSome t.undo → n ≤ t.room

  -- a mark stands, and n pairs more do not fit without memory
  abbrev pub LacksRoom : ℕ → TrailView E → Type 0
  LacksRoom n t = IsSome t.undo × (t.room < n)

  -- ---- what becomes of a trail

  -- nothing is noted, and there is no less room
  abbrev pub KeepsTrail : TrailView E → TrailView E → Type 0
  KeepsTrail old new = (new.undo ≡ old.undo) × (old.room ≤ new.room)

  -- a mark begins, with nothing noted
  abbrev pub Begins : TrailView E → TrailView E → Type 0
  Begins old new = (new.undo ≡ Some (record { trail = []; writes = 0 })) × (old.room ≤ new.room)

  -- no mark stands any more
  abbrev pub Ends : TrailView E → TrailView E → Type 0
  Ends old new = (new.undo ≡ None) × (old.room ≤ new.room)

-- ---- what is put back

-- the data after each pair was put back, the last first
abbrev pub undone : {E D : Type 0} → (E → D → D) → List E → D → D
undone back [] d = d
undone back (e ∷ es) d = undone back es (back e d)

module _ {E D : Type 0} (back : E → D → D) where
  -- the data as they stood at the mark
  abbrev pub stood : TrailView E → D → D
  stood t d = undone back (trail_of t.undo) d

  -- the same where a mark stands
  abbrev pub stood_of : Option (Undo E) → D → Option D
  stood_of None d = None
  stood_of (Some u) d = Some (undone back u.trail d)

  unfoldable pub stood_at : TrailView E → D → Option D
  stood_at t d = stood_of t.undo d

  -- A call changes the data, and leaves a trail of it while a mark stands: pairs that put it back, behind all that was noted
  -- before. It counts n changes of single cells at the most, as many as there are pairs at the least.
  pub record Trails (n : ℕ) (was : D) (old : TrailView E) (is : D) (new : TrailView E) : Type 0 where
    pub marked : is_some new.undo ≡ is_some old.undo
    pub pairs : List E
    pub trail : trail_of new.undo ≡ pairs ++ trail_of old.undo
    pub undone : is_some old.undo ≡ true → undone back pairs is ≡ was
    pub few : length pairs ≤ n
    pub most : writes_of new.undo ≤ writes_of old.undo + n
    pub least : min (writes_of old.undo + length pairs) (2 ^ 64 - 1) ≤ writes_of new.undo
    pub room : old.room ≤ new.room + n

  -- The same of a call that notes nothing where the pairs that were noted last put its cells back already: the data at the mark stay
  -- what they were.
  pub record Notes (n : ℕ) (was : D) (old : TrailView E) (is : D) (new : TrailView E) : Type 0 where
    pub marked : is_some new.undo ≡ is_some old.undo
    pub pairs : List E
    pub trail : trail_of new.undo ≡ pairs ++ trail_of old.undo
    pub stood : is_some old.undo ≡ true → stood new is ≡ stood old was
    pub few : length pairs ≤ n
    pub most : writes_of new.undo ≤ writes_of old.undo + n
    pub least : min (writes_of old.undo + length pairs) (2 ^ 64 - 1) ≤ writes_of new.undo
    pub room : old.room ≤ new.room + n

  -- As `Trails`, of a call that may fail, and changes nothing then.
  abbrev pub TrailsOrKeeps : {A F : Type 0} → ℕ → D → TrailView E → D → TrailView E → Result A F → Type 0
  TrailsOrKeeps n was old is new (Ok x) = Trails n was old is new
  TrailsOrKeeps n was old is new (Err f) = (is ≡ was) × KeepsTrail old new

-- ---- lists that grow at their end

-- without the last
abbrev pub but_last : {A : Type 0} → List A → List A
but_last [] = []
but_last (x ∷ []) = []
but_last (x ∷ y ∷ xs) = x ∷ but_last (y ∷ xs)
