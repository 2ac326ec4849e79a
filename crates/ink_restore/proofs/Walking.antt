-- The parts of a place as a save spells it, one after another.
use Rattle.std.proofs.Common.{◌≡◌, ◌∙◌, sym, ℕ, ◌<◌, length, List, get_or, map, arith}
use Rattle.std.proofs.lemmas.List.{get_or-map, length-map}
use Rattle.ink_model.specs.declared.place.Part.{Part}
use Rattle.ink_spelling.specs.Readings.{part_as}
use Rattle.ink_spelling.specs.declared.rows.SavedPart.{SavedPart}

module _ (ps : List SavedPart) (i : ℕ) (lt : i < length ps) where
  pub part_within : i < length (map part_as ps)
  part_within = omega (arith, length-map ps part_as, lt)

  pub part_there : (d : SavedPart) (x : Part) → x ≡ part_as (get_or ps i d) → x ≡ get_or (map part_as ps) i x
  part_there d x e = e ∙ sym (get_or-map part_as ps i d x lt)
