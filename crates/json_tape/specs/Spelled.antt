-- The data that tokens spell.
use Rattle.std.specs.Prelude.{◌≡◌, ℕ, suc, ◌-◌, List, [], ◌∷◌, length, Bool, true, ◌&&◌, nat_lt, is_some, Option, Some, None, option_and_then, unwrap_or, if◌then◌else◌}
use Rattle.json.specs.Token.{Token}
use Rattle.json.specs.Json as json
use Rattle.json.specs.Find.{BeginsWith}
use Rattle.serde_json.specs.Data.{Data, null}
use Rattle.serde_json.specs.Read.{number_of, of_json, max_depth}

-- the tokens begin with a value that is the data d
abbrev pub Spells : List Token → Data → Type 0
Spells ts d = (j : json.Json) × BeginsWith ts j × (of_json j ≡ Some d)

-- the data that the tokens begin with, where they begin with a value of such
abbrev pub spelled : List Token → Option Data
spelled ts = option_and_then (λ p. of_json p.0) (json.value (length ts) ts)

abbrev pub is_readable : List Token → Bool
is_readable ts = is_some (spelled ts)

unfoldable pub data_of : List Token → Data
data_of ts = unwrap_or (spelled ts) null

-- Nothing nests too deeply, below so many levels, and each number has a value.
abbrev pub are_sound : ℕ → List Token → Bool
are_sound levels [] = true
are_sound levels (Token.begin_object ∷ ts) = nat_lt levels max_depth && are_sound (suc levels) ts
are_sound levels (Token.end_object ∷ ts) = are_sound (levels - 1) ts
are_sound levels (Token.begin_array ∷ ts) = nat_lt levels max_depth && are_sound (suc levels) ts
are_sound levels (Token.end_array ∷ ts) = are_sound (levels - 1) ts
are_sound levels (Token.key s ∷ ts) = are_sound levels ts
are_sound levels (Token.string s ∷ ts) = are_sound levels ts
are_sound levels (Token.number s ∷ ts) = is_some (number_of s) && are_sound levels ts
are_sound levels (Token.boolean b ∷ ts) = are_sound levels ts
are_sound levels (Token.null ∷ ts) = are_sound levels ts
are_sound levels (Token.bad ∷ ts) = are_sound levels ts

-- the data of the value that a tape's tokens are, where they are sound
abbrev pub held : List Token → Option Data
held ts = if are_sound 0 ts then Some (data_of ts) else None
