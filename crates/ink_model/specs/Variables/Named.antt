-- Rows by name, in the order in which the names came.
use Rattle.std.specs.Prelude.{ℕ, List, [], ◌∷◌, map, Bool, true, ◌&&◌, bytes_eq, Option, Some, None, is_none, if◌then◌else◌}

abbrev pub Rows : Type 0 → Type 0
Rows X = List (List ℕ × X)

module _ {X : Type 0} where
  -- what stands at a name
  abbrev pub at : List ℕ → Rows X → Option X
  at name [] = None
  at name (r ∷ rows) = if bytes_eq name r.0 then Some r.1 else at name rows

  -- with this at a name; a name that is there already keeps its place
  abbrev pub put : List ℕ → X → Rows X → Rows X
  put name x [] = (name, x) ∷ []
  put name x (r ∷ rows) = if bytes_eq name r.0 then (r.0, x) ∷ rows else r ∷ put name x rows

  -- without what stands at a name
  abbrev pub without : List ℕ → Rows X → Rows X
  without name [] = []
  without name (r ∷ rows) = if bytes_eq name r.0 then rows else r ∷ without name rows

  abbrev pub names : Rows X → List (List ℕ)
  names rows = map (λ r. r.0) rows

  -- no name stands twice
  abbrev pub once : Rows X → Bool
  once [] = true
  once (r ∷ rows) = is_none (at r.0 rows) && once rows

-- what stands at each name, changed
abbrev pub each : {X Y : Type 0} → (X → Y) → Rows X → Rows Y
each change [] = []
each change (r ∷ rows) = (r.0, change r.1) ∷ each change rows
