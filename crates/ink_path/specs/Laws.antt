-- What reading and writing a path keep, beside the definitions.
use Rattle.std.specs.Prelude.{◌≡◌, ℕ, ◌^◌, List, [], ◌∷◌, Option, Some, None, if◌then◌else◌, nat_lt}
use Rattle.ink_model.specs.Story.Path.{read_path, path_text}
use Rattle.ink_model.specs.Text.Bytes.{number_from}
use Rattle.ink_model.specs.declared.place.Path.{Path}

-- a path that was read reads the same from its written form
abbrev pub ReadsBack : Path → Type 0
ReadsBack path = (text : List ℕ) → read_path text ≡ Some path → read_path (path_text path) ≡ Some path

-- the index that digits are
abbrev pub index_of : List ℕ → Option ℕ
index_of cs = if nat_lt (number_from 0 cs) (2 ^ 31) then Some (number_from 0 cs) else None

-- what stands in front of the component at an index
abbrev pub dot_before : ℕ → List ℕ
dot_before i = if nat_lt 0 i then 46 ∷ [] else []
