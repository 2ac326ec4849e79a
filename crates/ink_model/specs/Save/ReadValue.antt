-- Values that JSON spells: what Protocol/ValueJson.antt says of how they are spelled, read back.
use Rattle.std.specs.Prelude.{ℕ, pos, negsuc, ℤ, List, bytes_eq, codes, if◌then◌else◌, Option, Some, None, option_and_then}
use Rattle.std.specs.Option.{option_map, option_or}
use Rattle.serde_json.specs.Data.{Num, unsigned, negative, float, Data, null, boolean, number, string, array, object, Members, no_members, member}
use Rattle.ink_model.specs.Story.Leaves.{is_small}
use Rattle.ink_model.specs.Story.Path.{path_text, read_path}
use Rattle.ink_model.specs.declared.place.Path.{Path}
use Rattle.ink_model.specs.declared.value.Value.{Value}
use Rattle.ink_model.specs.declared.value.Value.TheVariants as value

-- ---- members, one after another

-- the first member's value and the members after it, where it has this key
abbrev pub next_named : List ℕ → Members → Option (Data × Members)
next_named k no_members = None
next_named k (member l d ms) = if bytes_eq k l then Some (d, ms) else None

-- the first member has this key and is read so; what comes of it and of the members after it
abbrev pub take : {A B : Type 0} → List ℕ → (Data → Option A) → (A → Members → Option B) → Members → Option B
take k f so ms = option_and_then (λ (x : Data × Members). option_and_then (λ y. so y x.1) (f x.0)) (next_named k ms)

-- there is no further member
abbrev pub closed : {B : Type 0} → B → Members → Option B
closed y no_members = Some y
closed y (member l d ms) = None

-- ---- integers and texts

abbrev pub integer_of : Num → Option ℤ
integer_of (unsigned n) = Some (pos n)
integer_of (negative (negsuc n)) = Some (negsuc n)
integer_of (negative (pos n)) = None
integer_of (float x) = None

abbrev pub small : ℤ → Option ℤ
small z = if is_small z then Some z else None

-- an integer of 32 bits
abbrev pub number_integer : Num → Option ℤ
number_integer n = option_and_then small (integer_of n)

abbrev pub int_of : Data → Option ℤ
int_of (number n) = number_integer n
int_of j = None

abbrev pub text_of : Data → Option (List ℕ)
text_of (string t) = Some t
text_of j = None

-- ---- values

-- a path whose text this is
abbrev pub path_if : List ℕ → Path → Option Path
path_if t p = if bytes_eq (path_text p) t then Some p else None

-- a path as it is spelled, and no other spelling of it
abbrev pub path_in : Data → Option Path
path_in (string t) = option_and_then (path_if t) (read_path t)
path_in j = None

abbrev pub target_in : Members → Option Value
target_in = take (codes "->") path_in (λ p. closed (value.Target p))

abbrev pub pointer_in : Members → Option Value
pointer_in = take (codes "ci") int_of (λ i. take (codes "var") text_of (λ n. closed (value.Pointer i n)))

abbrev pub tag_in : Members → Option Value
tag_in = take (codes "tag") text_of (λ t. closed (value.Tag t))

abbrev pub value_of : Data → Option Value
value_of null = Some value.Void
value_of (boolean b) = Some (value.Bool b)
value_of (number n) = option_map (λ z. value.Int z) (number_integer n)
value_of (string t) = Some (value.Text t)
value_of (array ds) = None
value_of (object ms) = option_or (target_in ms) (option_or (pointer_in ms) (tag_in ms))
