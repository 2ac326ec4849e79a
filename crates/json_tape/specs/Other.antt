-- Members of other names than two.
use Rattle.std.specs.Prelude.{ℕ, List, Bool, false, not, ◌||◌, bytes_eq}
use Rattle.serde_json.specs.Data.{Members, no_members, member}

-- a name is another than these two
abbrev pub is_other : List ℕ → List ℕ → List ℕ → Bool
is_other a b k = not (bytes_eq k a || bytes_eq k b)

-- a member has another name than these two
abbrev pub has_other : List ℕ → List ℕ → Members → Bool
has_other a b no_members = false
has_other a b (member k d ms) = is_other a b k || has_other a b ms
