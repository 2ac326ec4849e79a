-- What is printed of a place: its first part, and each other one behind a dot.
use Rattle.std.proofs.Common.{◌≡◌, ℕ, List, [], ◌∷◌, ◌++◌, flat_map, take, length, append-nil, ap}
use Rattle.std.proofs.Math.Seq.{take-length}
use Rattle.ink_model.specs.Story.Path.{part_text, place_text}
use Rattle.ink_model.specs.declared.place.Part.{Part}

abbrev pub dotted : Part → List ℕ
dotted part = 46 ∷ part_text part

pub place_text_is : (part : Part) (parts : List Part) → part_text part ++ flat_map dotted parts ≡ place_text (part ∷ parts)
place_text_is part [] = append-nil (part_text part)
place_text_is part (next ∷ rest) = ap (λ text. part_text part ++ 46 ∷ text) (place_text_is next rest)

-- once all parts behind the first one are written
pub all_written : (parts : List Part) (first : Part) (rest : List Part) (i : ℕ) → parts ≡ first ∷ rest → i ≡ length rest → part_text first ++ flat_map dotted (take i rest) ≡ place_text parts
all_written parts first rest i is end = rw (is, end, take-length rest) (place_text_is first rest)
