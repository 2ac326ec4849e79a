-- Rows that rise by their key: temporaries by name, visits and turns by place. So no two lists of rows stand for the same
-- (docs/RUNNING.md, "Configurations").
use Rattle.std.specs.Prelude.{ℕ, List, [], ◌∷◌, map, Bool, true, ◌&&◌, Option, Some, None}
use Rattle.std.specs.Cmp.Lexicographic.{slice_cmp}
use Rattle.std.specs.Ordering.{nat_cmp, match_ordering, is_lt}
use Rattle.std.specs.declared.cmp.Ordering.{Ordering}
use Rattle.std.specs.declared.cmp.Ordering.TheVariants.{Less, Greater}
use Rattle.ink_model.specs.declared.place.Part.{Part}
use Rattle.ink_model.specs.declared.place.Part.TheVariants.{Index, Name}

module _ {K V : Type 0} (compare : K → K → Ordering) where
  -- the value at a key
  abbrev pub row : K → List (K × V) → Option V
  row k [] = None
  row k (r ∷ rs) = match_ordering (compare k r.0) None (Some r.1) (row k rs)

  -- with this value at a key
  abbrev pub with_row : K → V → List (K × V) → List (K × V)
  with_row k v [] = (k, v) ∷ []
  with_row k v (r ∷ rs) = match_ordering (compare k r.0) ((k, v) ∷ r ∷ rs) ((k, v) ∷ rs) (r ∷ with_row k v rs)

  -- a key comes before all of these
  abbrev pub is_before : K → List (K × V) → Bool
  is_before k [] = true
  is_before k (r ∷ rs) = is_lt (compare k r.0) && is_before k rs

  abbrev pub rows_rise : List (K × V) → Bool
  rows_rise [] = true
  rows_rise (r ∷ rs) = is_before r.0 rs && rows_rise rs

-- the same rows under other keys
abbrev pub map_keys : {K L V : Type 0} → (K → L) → List (K × V) → List (L × V)
map_keys f rows = map (λ r. (f r.0, r.1)) rows

-- ---- keys

-- names by their bytes
abbrev pub name_order : List ℕ → List ℕ → Ordering
name_order = slice_cmp nat_cmp

-- indexes by their number, names by their bytes, and an index before a name
abbrev pub part_order : Part → Part → Ordering
part_order (Index i) (Index j) = nat_cmp i j
part_order (Index i) (Name n) = Less
part_order (Name m) (Index j) = Greater
part_order (Name m) (Name n) = name_order m n

-- places in reading order: part by part, and a place before those inside it
abbrev pub place_order : List Part → List Part → Ordering
place_order = slice_cmp part_order
