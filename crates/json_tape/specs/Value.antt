-- The data of values that stand in a tape.
use Rattle.std.specs.Prelude.{◌≡◌, ℕ, suc, List, [], ◌∷◌, Bool, true, false}
use Rattle.std.specs.Borrow.{Bor}
use Rattle.json.specs.Token.{Token}
use Rattle.serde_json.specs.Data.{Data, null, boolean, number, string, array, object, Items, no_items, item, Members, no_members, member}
use Rattle.json_tape.specs.declared.value.Kind.{Kind}
use Rattle.json_tape.specs.declared.value.Kind.TheVariants as kinds
use Rattle.json_tape.specs.declared.value.Items.{Items as ItemsLeft}
use Rattle.json_tape.specs.declared.value.Value.{Value}
use Rattle.json_tape.specs.Number.{num}
use Rattle.json_tape.specs.Spelled.{data_of}

abbrev pub json_data : Value → Data
json_data v = data_of v.element

abbrev pub items_of : Data → Items
items_of null = no_items
items_of (boolean b) = no_items
items_of (number n) = no_items
items_of (string s) = no_items
items_of (array ds) = ds
items_of (object ms) = no_items

abbrev pub items_count : Items → ℕ
items_count no_items = 0
items_count (item d ds) = suc (items_count ds)

-- the items that the tokens begin with, up to a closing bracket
abbrev pub items_at : List Token → Items
items_at ts = items_of (data_of (Token.begin_array ∷ ts))

abbrev pub items_left : ItemsLeft → Items
items_left x = items_at x.rest

abbrev pub members_of : Data → Members
members_of null = no_members
members_of (boolean b) = no_members
members_of (number n) = no_members
members_of (string s) = no_members
members_of (array ds) = no_members
members_of (object ms) = ms

-- the members that the tokens begin with, up to a closing bracket
abbrev pub members_at : List Token → Members
members_at ts = members_of (data_of (Token.begin_object ∷ ts))

-- an object without members
abbrev pub is_blank : Data → Bool
is_blank null = false
is_blank (boolean b) = false
is_blank (number n) = false
is_blank (string s) = false
is_blank (array ds) = false
is_blank (object no_members) = true
is_blank (object (member k d ms)) = false

abbrev pub IsObject : Data → Type 0
IsObject d = (ms : Members) × (d ≡ object ms)

-- what kind of data it is
abbrev pub IsKind : Kind → Data → Type 0
IsKind kinds.Null d = d ≡ null
IsKind (kinds.Bool b) d = d ≡ boolean b
IsKind (kinds.Number n) d = d ≡ number (num n)
IsKind (kinds.String s) d = d ≡ string s.now
IsKind (kinds.Array items) d = d ≡ array (items_left items)
IsKind kinds.Object d = IsObject d

abbrev pub Entry : Type 0
Entry = Bor (List ℕ) × Value

abbrev pub members_data : List Entry → Members
members_data [] = no_members
members_data (m ∷ ms) = member m.0.now (json_data m.1) (members_data ms)
