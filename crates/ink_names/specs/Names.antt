-- Names in the order in which they came, and their numbers (docs/VARIABLES.md).
use Rattle.std.specs.Prelude.{◌≡◌, ⊤, ℕ, suc, List, [], ◌∷◌, Option, None, Some, bytes_eq, if◌then◌else◌, map, option_map, String, string_bytes}
use Rattle.std.specs.declared.alloc.Global.{Global}

-- the number of a name: its index among these
abbrev pub number_of : List (List ℕ) → List ℕ → Option ℕ
number_of [] name = None
number_of (n ∷ ns) name = if bytes_eq name n then Some 0 else option_map suc (number_of ns name)

-- no two are the same
abbrev pub Differ : List (List ℕ) → Type 0
Differ [] = ⊤
Differ (n ∷ ns) = (number_of ns n ≡ None) × Differ ns

abbrev pub names_of : List (String Global) → List (List ℕ)
names_of list = map string_bytes list

-- names without the last
abbrev pub without_last : List (List ℕ) → List (List ℕ)
without_last [] = []
without_last (n ∷ []) = []
without_last (n ∷ m ∷ ns) = n ∷ without_last (m ∷ ns)
