-- What a JSON value is, as it is read.
use Rattle.std.specs.Prelude.{◌≡◌, ℕ, List, Option, Some, None}
use Rattle.serde_json.specs.Data.{Data, null, boolean, number, string, array, object, Items, no_items, item, Members, no_members, member}
use Rattle.json_tape.specs.Number.{num}
use Rattle.json_tape.specs.declared.shape.Kind.{Kind}
use Rattle.json_tape.specs.declared.shape.Kind.TheVariants as kinds

-- the first element, and those after it
abbrev pub first_item : Items → Option (Data × Items)
first_item no_items = None
first_item (item d ds) = Some (d, ds)

-- the first member, and those after it
abbrev pub first_member : Members → Option (List ℕ × (Data × Members))
first_member no_members = None
first_member (member k d ms) = Some (k, (d, ms))

-- by what the elements and the members are that are left
abbrev pub IsKind : {I M : Type 0} → (I → Items) → (M → Members) → Kind I M → Data → Type 0
IsKind elements members kinds.Null d = d ≡ null
IsKind elements members (kinds.Bool b) d = d ≡ boolean b
IsKind elements members (kinds.Number n) d = d ≡ number (num n)
IsKind elements members (kinds.String t) d = d ≡ string t.now
IsKind elements members (kinds.Array left) d = d ≡ array (elements left)
IsKind elements members (kinds.Object left) d = d ≡ object (members left)
