-- Rows of counts by number.
use Rattle.std.specs.Prelude.{ℕ, List, [], ◌∷◌, Option, Some, None}
use Rattle.ink_model.specs.Variables.Rows.{map_keys}
use Rattle.ink_model.specs.Story.Tree.{StoryTree}
use Rattle.ink_model.specs.declared.place.Part.{Part}
use Rattle.ink_tree.specs.Nodes.{node_place}

-- the row of a slot
abbrev pub slot_row : ℕ → Option ℕ → List (ℕ × ℕ)
slot_row n None = []
slot_row n (Some v) = (n, v) ∷ []

abbrev pub place_at : StoryTree → ℕ → List Part
place_at s n = node_place s (record { number = n })

-- rows over the places that their numbers stand for
abbrev pub rows_at : StoryTree → List (ℕ × ℕ) → List (List Part × ℕ)
rows_at s rows = map_keys (place_at s) rows

abbrev pub row_at : StoryTree → ℕ × ℕ → List Part × ℕ
row_at s r = (place_at s r.0, r.1)
