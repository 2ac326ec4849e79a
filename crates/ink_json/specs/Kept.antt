-- How the nodes of a story are kept in few bytes: the part that leads to a content is a number, and names stand apart.
use Rattle.std.specs.Prelude.{◌≡◌, ⊤, ℕ, ◌+◌, ◌-◌, ◌<◌, ◌≤◌, List, [], ◌∷◌, map, nat_lt, ◌==◌, get_or, if◌then◌else◌, Option, Some, None}
use Rattle.ink_model.specs.declared.content.Content.{Content}
use Rattle.ink_model.specs.declared.content.Content.TheVariants as contents
use Rattle.ink_model.specs.declared.place.Part.{Part}
use Rattle.ink_model.specs.declared.place.Part.TheVariants.{Index, Name}
use Rattle.ink_json.specs.Node.{Node}
use Rattle.ink_json.specs.declared.kept.Kept.{Kept}
use Rattle.ink_json.specs.declared.kept.TheConstants.{FIRST_NAME, NO_PART}

-- An index stands for itself, and behind all indexes comes a number for each name; the last number stands for no part.
abbrev pub part_at : List (List ℕ) → ℕ → Option Part
part_at names code =
    if nat_lt code FIRST_NAME then Some (Index code) else (if code == NO_PART then None else Some (Name (get_or names (code - FIRST_NAME) [])))

abbrev pub node_of : List (List ℕ) → Kept → Node
node_of names k = record { content = k.content; holder = k.holder; last = part_at names k.last }

abbrev pub nodes_kept : List (List ℕ) → List Kept → List Node
nodes_kept names ks = map (node_of names) ks

-- the number is that of an index or of no part
abbrev pub IsNoName : ℕ → Type 0
IsNoName code = FIRST_NAME ≤ code → code ≡ NO_PART

-- the number is such, or that of one of so many names
abbrev pub IsKnown : ℕ → ℕ → Type 0
IsKnown names code = FIRST_NAME ≤ code → (code ≡ NO_PART → ⊥) → code < FIRST_NAME + names

abbrev pub AreKnown : ℕ → List Kept → Type 0
AreKnown names [] = ⊤
AreKnown names (k ∷ ks) = IsKnown names k.last × AreKnown names ks

-- content of which it is known now what is in it
abbrev pub filled : ℕ → ℕ → ℕ → Content → Content
filled width keys size (contents.Leaf l) = contents.Leaf l
filled width keys size (contents.Container c) = contents.Container (record { name = c.name; width = width; keys = keys; size = size; flags = c.flags })

abbrev pub filled_at : ℕ → ℕ → ℕ → Kept → Kept
filled_at width keys size k = record { content = filled width keys size k.content; holder = k.holder; last = k.last }
