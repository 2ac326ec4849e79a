-- Values in which the names of each object rise, so that its members stand in the order of their names, each once.
use Rattle.std.specs.Prelude.{ℕ, List, [], ◌∷◌, length, Bool, true, ◌&&◌, Option, Some, None, option_map, option_and_then, unwrap_or}
use Rattle.std.specs.Cmp.Lexicographic.{slice_cmp}
use Rattle.std.specs.Ordering.{nat_cmp, is_lt}
use Rattle.json.specs.Token.{Token}
use Rattle.json.specs.Json.{Json, null, boolean, number, string, array, object, Items, no_items, item, Members, no_members, member, value}
use Rattle.json.specs.Find.{as_object}

-- ---- of a value

-- a name comes behind another, where one stands before it
abbrev pub is_behind : Option (List ℕ) → List ℕ → Bool
is_behind None k = true
is_behind (Some l) k = is_lt (slice_cmp nat_cmp l k)

-- the names of members rise, behind the one before them
abbrev pub names_rise : Option (List ℕ) → Members → Bool
names_rise before no_members = true
names_rise before (member k j ms) = is_behind before k && names_rise (Some k) ms

-- in each object the names rise
abbrev mutual
  pub is_ordered : Json → Bool
  is_ordered null = true
  is_ordered (boolean b) = true
  is_ordered (number s) = true
  is_ordered (string s) = true
  is_ordered (array js) = are_items_ordered js
  is_ordered (object ms) = names_rise None ms && are_members_ordered ms

  pub are_items_ordered : Items → Bool
  are_items_ordered no_items = true
  are_items_ordered (item j js) = is_ordered j && are_items_ordered js

  pub are_members_ordered : Members → Bool
  are_members_ordered no_members = true
  are_members_ordered (member k j ms) = is_ordered j && are_members_ordered ms

-- ---- of tokens

-- the value that the tokens begin with is ordered
abbrev pub begins_ordered : List Token → Bool
begins_ordered ts = unwrap_or (option_map (λ p. is_ordered p.0) (value (length ts) ts)) true

-- the names of the object that the tokens begin with rise
abbrev pub first_rises : List Token → Bool
first_rises ts = unwrap_or (option_map (names_rise None) (option_and_then (λ p. as_object p.0) (value (length ts) ts))) true

-- in each object that begins among the tokens the names rise
abbrev pub objects_rise : List Token → Bool
objects_rise [] = true
objects_rise (Token.begin_object ∷ ts) = first_rises (Token.begin_object ∷ ts) && objects_rise ts
objects_rise (Token.end_object ∷ ts) = objects_rise ts
objects_rise (Token.begin_array ∷ ts) = objects_rise ts
objects_rise (Token.end_array ∷ ts) = objects_rise ts
objects_rise (Token.key s ∷ ts) = objects_rise ts
objects_rise (Token.string s ∷ ts) = objects_rise ts
objects_rise (Token.number s ∷ ts) = objects_rise ts
objects_rise (Token.boolean b ∷ ts) = objects_rise ts
objects_rise (Token.null ∷ ts) = objects_rise ts
objects_rise (Token.bad ∷ ts) = objects_rise ts
