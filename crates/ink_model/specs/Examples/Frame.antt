-- Small worked examples of frames, rows and places in a configuration, each proved by computation.
use Rattle.std.specs.Prelude.{◌≡◌, ℕ, pos, List, [], ◌∷◌, refl, codes, true, Some, None}
use Rattle.ink_model.specs.Flow.Frames.{FrameOf, base_frame, base_threads, frame_numbered, gone, map_threads, on_top}
use Rattle.ink_model.specs.Run.Configuration.{ConfigurationOf, fresh_at, map_configuration}
use Rattle.ink_model.specs.Variables.Rows.{map_keys, name_order, place_order, row, rows_rise, with_row}
use Rattle.ink_model.specs.declared.place.Part.{Part}
use Rattle.ink_model.specs.declared.place.Part.TheVariants.{Index, Name}
use Rattle.ink_model.specs.declared.value.Value.{Value}
use Rattle.ink_model.specs.declared.value.Value.TheVariants as value

-- ---- rows

abbrev two : List (List ℕ × Value)
two = (codes "a", value.Int (pos 1)) ∷ (codes "c", value.Int (pos 3)) ∷ []

-- a new row stands where its key belongs, and one that is there keeps its place
inserted : with_row name_order (codes "b") (value.Int (pos 2)) two
    ≡ (codes "a", value.Int (pos 1)) ∷ (codes "b", value.Int (pos 2)) ∷ (codes "c", value.Int (pos 3)) ∷ []
inserted = refl

replaced : with_row name_order (codes "c") (value.Int (pos 4)) two ≡ (codes "a", value.Int (pos 1)) ∷ (codes "c", value.Int (pos 4)) ∷ []
replaced = refl

found : row name_order (codes "c") two ≡ Some (value.Int (pos 3))
found = refl

not_found : row name_order (codes "b") two ≡ None
not_found = refl

-- the order in which rows are written makes no difference
either_order : with_row name_order (codes "a") (value.Int (pos 1)) (with_row name_order (codes "c") (value.Int (pos 3)) []) ≡ two
either_order = refl

-- places in reading order: what holds others first, an index before a name
places_rise : rows_rise {V = ℕ} place_order (([], 1) ∷ (Index 2 ∷ [], 1) ∷ (Index 2 ∷ Index 0 ∷ [], 1) ∷ (Index 10 ∷ [], 1) ∷ (Name (codes "k") ∷ [], 1) ∷ []) ≡ true
places_rise = refl

-- ---- frames

abbrev at_number : ℕ → FrameOf ℕ
at_number p = base_frame (Some p)

-- the bottom frame has number 1
numbered_from_the_bottom : frame_numbered 1 (at_number 7 ∷ at_number 8 ∷ []) ≡ Some (at_number 8)
numbered_from_the_bottom = refl

numbered_at_the_top : frame_numbered 2 (at_number 7 ∷ at_number 8 ∷ []) ≡ Some (at_number 7)
numbered_at_the_top = refl

no_such_number : frame_numbered 3 (at_number 7 ∷ at_number 8 ∷ []) ≡ None
no_such_number = refl

-- ---- places for numbers

abbrev place_numbered : ℕ → List Part
place_numbered n = Index n ∷ []

-- flow goes the same way among numbers as among the places that they stand for
goes_alike : map_threads place_numbered (on_top (gone (Some 5)) (base_threads (Some 4))) ≡ on_top (gone (Some (Index 5 ∷ []))) (base_threads (Some (Index 4 ∷ [])))
goes_alike = refl

abbrev numbers : ConfigurationOf ℕ
numbers = fresh_at 3

begins_alike : map_configuration place_numbered numbers ≡ fresh_at (Index 3 ∷ [])
unfolding fresh_at
begins_alike = refl

counts_alike : map_keys {V = ℕ} place_numbered ((1, 4) ∷ (2, 6) ∷ []) ≡ (Index 1 ∷ [], 4) ∷ (Index 2 ∷ [], 6) ∷ []
counts_alike = refl
