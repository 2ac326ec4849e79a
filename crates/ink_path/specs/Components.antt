-- The components of a path, as they stand in its text.
use Rattle.std.specs.Prelude.{◌≡◌, ℕ, List, [], ◌∷◌, Bool, false, if◌then◌else◌, Option, Some, None}
use Rattle.std.specs.Borrow.{Bor}
use Rattle.std.specs.Option.{option_map}
use Rattle.ink_model.specs.Text.Bytes.{pieces, is_dot}
use Rattle.ink_model.specs.Story.Path.{components}
use Rattle.ink_model.specs.declared.place.Part.{Part}
use Rattle.ink_model.specs.declared.place.Part.TheVariants as parts
use Rattle.ink_model.specs.declared.place.Path.{Path}
use Rattle.ink_path.specs.declared.components.Component.{Component}
use Rattle.ink_path.specs.declared.components.Component.TheVariants.{Index, Name}

abbrev pub part_of : Component → Part
part_of (Index i) = parts.Index i
part_of (Name name) = parts.Name name.now

-- the texts between the dots of one
abbrev pub texts_of : Option (Bor (List ℕ)) → List (List ℕ)
texts_of None = []
texts_of (Some text) = pieces is_dot text.now

-- whether a text spells a relative path: a dot stands in front
abbrev pub is_relative : List ℕ → Bool
is_relative [] = false
is_relative (c ∷ cs) = is_dot c

-- the text without that dot
abbrev pub behind_dot : List ℕ → List ℕ
behind_dot [] = []
behind_dot (c ∷ cs) = if is_dot c then cs else c ∷ cs

-- the path that texts spell
abbrev pub path_of : Bool → List (List ℕ) → Option Path
path_of relative texts = option_map (λ ps. record { relative = relative; parts = ps }) (components texts)

-- the first of these is taken, where there is one
abbrev pub TakesFirst : List (List ℕ) → Option (Bor (List ℕ)) → List (List ℕ) → Type 0
TakesFirst old None new = (old ≡ []) × (new ≡ [])
TakesFirst old (Some first) new = old ≡ first.now ∷ new
