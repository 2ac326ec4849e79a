-- The story that bytes spell, and what is wrong with them, first things first (docs/STORY_FORMAT.md).
use Rattle.std.specs.Prelude.{ℕ, ◌+◌, List, [], ◌∷◌, ◌++◌, map, length, Bool, true, false, not, ◌||◌, ◌&&◌, ◌==◌, bytes_eq, codes, nat_lt, if◌then◌else◌, Option, Some, None, option_and_then, is_some, unwrap_or, Result, Ok, Err, ◌≡◌}
use Rattle.std.specs.List.{list_any}
use Rattle.std.specs.Str.{is_utf8}
use Rattle.std.specs.Result.{result_unwrap_or}
use Rattle.serde_json.specs.Data.{Data, null, boolean, number, string, array, object, Items, no_items, item, Members, no_members, member}
use Rattle.serde_json.specs.Read.{read}
use Rattle.serde_json.specs.Find.{get, as_str, as_array}
use Rattle.ink_model.specs.Story.Leaves.{leaf_of, whole}
use Rattle.ink_model.specs.Story.Tree.{StoryTree, leaf, container, Trees, no_trees, tree, Keyed, no_keys, key}
use Rattle.ink_model.specs.declared.content.Leaf.{Leaf}
use Rattle.ink_model.specs.declared.content.Leaf.TheVariants as leaves
use Rattle.ink_model.specs.declared.fault.Cause.{Cause}
use Rattle.ink_model.specs.declared.fault.Cause.TheVariants.{NotJson, Version, Shape, Unsupported, Limit}
use Rattle.ink_model.specs.declared.fault.ReadRefusal.{ReadRefusal}
use Rattle.ink_model.specs.declared.limits.TheConstants.{MAX_STORY, MAX_NESTING}
use Rattle.ink_model.specs.declared.place.Part.{Part}
use Rattle.ink_model.specs.declared.place.Part.TheVariants.{Index, Name}
use Rattle.ink_model.specs.declared.version.InkVersion.{InkVersion}
use Rattle.ink_model.specs.declared.version.InkVersion.TheVariants.{V20, V21}

-- ---- refusals

-- a refusal at the very place
abbrev pub here : Cause → ReadRefusal
here c = record { cause = c; place = [] }

-- a refusal found one part further down
abbrev pub under : Part → ReadRefusal → ReadRefusal
under p r = record { cause = r.cause; place = p ∷ r.place }

abbrev pub when : Bool → Cause → List ReadRefusal
when b c = if b then here c ∷ [] else []

-- the first refusal, or what there is without one
abbrev pub first : {A : Type 0} → List ReadRefusal → A → Result A ReadRefusal
first [] a = Ok a
first (r ∷ rs) a = Err r

-- ---- leaves

-- what is wrong with a leaf
abbrev pub leaf_faults : Result Leaf Cause → List ReadRefusal
leaf_faults (Ok l) = []
leaf_faults (Err c) = here c ∷ []

-- ---- the object at a container's end

abbrev pub name_key : List ℕ
name_key = codes "#n"

abbrev pub flags_key : List ℕ
flags_key = codes "#f"

-- the keys that are no names of containers
abbrev pub is_own : List ℕ → Bool
is_own k = bytes_eq k name_key || bytes_eq k flags_key

abbrev pub is_empty : Items → Bool
is_empty no_items = true
is_empty (item d ds) = false

-- the last element, `null` where there is none
abbrev pub own_after : Data → Items → Data
own_after d no_items = d
own_after d (item e ds) = own_after e ds

-- the last element, where there is one
abbrev pub own : Items → Option Data
own no_items = None
own (item d ds) = Some (own_after d ds)

abbrev pub is_last : Option Data → Bool
is_last None = false
is_last (Some null) = true
is_last (Some (boolean b)) = false
is_last (Some (number n)) = false
is_last (Some (string s)) = false
is_last (Some (array ds)) = false
is_last (Some (object ms)) = true

abbrev pub member_of : List ℕ → Option Data → Option Data
member_of k last = option_and_then (get k) last

-- flags are a whole number below 8
abbrev pub are_flags : Option Data → Bool
are_flags None = true
are_flags (Some d) = nat_lt (unwrap_or (whole (Some d)) 8) 8

abbrev pub is_name : Option Data → Bool
is_name None = true
is_name (Some d) = is_some (as_str d)

abbrev pub flags_of : Option Data → ℕ
flags_of last = unwrap_or (whole (member_of flags_key last)) 0

abbrev pub name_in : Option Data → Option (List ℕ)
name_in last = option_and_then as_str (member_of name_key last)

-- the last element of an array, which is no array's at all else
abbrev pub own_of : Data → Option Data
own_of d = option_and_then own (as_array d)

-- the name that an element of a list gives itself
abbrev pub name_of : Data → Option (List ℕ)
name_of d = name_in (own_of d)

abbrev pub is_taken : List (List ℕ) → Option (List ℕ) → Bool
is_taken taken None = false
is_taken taken (Some n) = list_any (λ m. bytes_eq n m) taken

abbrev pub with_name : List (List ℕ) → Option (List ℕ) → List (List ℕ)
with_name taken None = taken
with_name taken (Some n) = taken ++ n ∷ []

-- an element of a list that may not stand there by its name: no text, or one given before
abbrev pub is_misnamed : List (List ℕ) → Data → Bool
is_misnamed taken d = not (is_name (member_of name_key (own_of d))) || is_taken taken (name_of d)

-- ---- what is wrong, in reading order

abbrev mutual
  -- what is wrong with content of this nesting, by places from it on; misnamed: it may not stand there by its name
  pub faults : InkVersion → ℕ → Bool → Data → List ReadRefusal
  faults version nesting misnamed null = leaf_faults (leaf_of version null)
  faults version nesting misnamed (boolean b) = leaf_faults (leaf_of version (boolean b))
  faults version nesting misnamed (number n) = leaf_faults (leaf_of version (number n))
  faults version nesting misnamed (string s) = leaf_faults (leaf_of version (string s))
  faults version nesting misnamed (object ms) = leaf_faults (leaf_of version (object ms))
  faults version nesting misnamed (array ds) = when (nat_lt MAX_NESTING nesting) Limit
      ++ when (not (is_last (own ds)) || (not (are_flags (member_of flags_key (own ds))) || misnamed)) Shape
      ++ faults_inside version nesting 0 [] ds

  -- the elements from this index on, and after them the containers by key
  pub faults_inside : InkVersion → ℕ → ℕ → List (List ℕ) → Items → List ReadRefusal
  faults_inside version nesting i taken no_items = []
  faults_inside version nesting i taken (item d ds) = if is_empty ds then faults_keyed version nesting taken d
      else map (under (Index i)) (faults version (nesting + 1) (is_misnamed taken d) d)
      ++ faults_inside version nesting (i + 1) (with_name taken (name_of d)) ds

  -- the containers that the last element gives by key
  pub faults_keyed : InkVersion → ℕ → List (List ℕ) → Data → List ReadRefusal
  faults_keyed version nesting taken null = []
  faults_keyed version nesting taken (boolean b) = []
  faults_keyed version nesting taken (number n) = []
  faults_keyed version nesting taken (string s) = []
  faults_keyed version nesting taken (array ds) = []
  faults_keyed version nesting taken (object ms) = faults_by version nesting taken ms

  pub faults_by : InkVersion → ℕ → List (List ℕ) → Members → List ReadRefusal
  faults_by version nesting taken no_members = []
  faults_by version nesting taken (member k d ms) = if is_own k then faults_by version nesting taken ms
      else map (under (Name k)) (if is_some (as_array d) then faults version (nesting + 1) (is_taken taken (Some k)) d else here Shape ∷ [])
      ++ faults_by version nesting taken ms

-- ---- the tree, whatever is wrong

abbrev mutual
  -- listed: in list position, where a container has the name that it gives itself
  pub tree_of : InkVersion → Bool → Data → StoryTree
  tree_of version listed null = leaf leaves.Newline
  tree_of version listed (boolean b) = leaf (leaves.Bool b)
  tree_of version listed (number n) = leaf (result_unwrap_or (leaf_of version (number n)) leaves.Newline)
  tree_of version listed (string s) = leaf (result_unwrap_or (leaf_of version (string s)) leaves.Newline)
  tree_of version listed (object ms) = leaf (result_unwrap_or (leaf_of version (object ms)) leaves.Newline)
  tree_of version listed (array ds) =
      container (if listed then name_in (own ds) else None) (flags_of (own ds)) (content_of version ds) (keyed_in version ds)

  -- all elements but the last
  pub content_of : InkVersion → Items → Trees
  content_of version no_items = no_trees
  content_of version (item d ds) = if is_empty ds then no_trees else tree (tree_of version true d) (content_of version ds)

  -- the containers by key in the last element
  pub keyed_in : InkVersion → Items → Keyed
  keyed_in version no_items = no_keys
  keyed_in version (item d ds) = if is_empty ds then keyed_last version d else keyed_in version ds

  pub keyed_last : InkVersion → Data → Keyed
  keyed_last version null = no_keys
  keyed_last version (boolean b) = no_keys
  keyed_last version (number n) = no_keys
  keyed_last version (string s) = no_keys
  keyed_last version (array ds) = no_keys
  keyed_last version (object ms) = keyed_by version ms

  pub keyed_by : InkVersion → Members → Keyed
  keyed_by version no_members = no_keys
  keyed_by version (member k d ms) = if is_own k then keyed_by version ms else key k (tree_of version false d) (keyed_by version ms)

-- content: its first fault, or its tree
abbrev pub content : InkVersion → ℕ → Bool → Bool → Data → Result StoryTree ReadRefusal
content version nesting misnamed listed d = first (faults version nesting misnamed d) (tree_of version listed d)

-- ---- the file

-- absent, or an object without members
abbrev pub is_blank_object : Option Data → Bool
is_blank_object None = true
is_blank_object (Some null) = false
is_blank_object (Some (boolean b)) = false
is_blank_object (Some (number n)) = false
is_blank_object (Some (string s)) = false
is_blank_object (Some (array ds)) = false
is_blank_object (Some (object no_members)) = true
is_blank_object (Some (object (member k d ms))) = false

abbrev pub is_object : Data → Bool
is_object null = false
is_object (boolean b) = false
is_object (number n) = false
is_object (string s) = false
is_object (array ds) = false
is_object (object ms) = true

-- the version that has this number, where its stories are read
abbrev pub version_numbered : ℕ → Option InkVersion
version_numbered n = if n == 20 then Some V20 else if n == 21 then Some V21 else None

abbrev pub version_of : Data → Option InkVersion
version_of d = option_and_then version_numbered (whole (get (codes "inkVersion") d))

-- what `root` holds
abbrev pub root_of : InkVersion → Option Data → Result StoryTree ReadRefusal
root_of version None = Err (here Shape)
root_of version (Some d) = if is_some (as_array d) then content version 1 false false d else Err (here Shape)

-- a story in its version: without lists, with a good root
abbrev pub of_version : Option InkVersion → Data → Result StoryTree ReadRefusal
of_version None d = Err (here Version)
of_version (Some version) d =
    if not (is_blank_object (get (codes "listDefs") d)) then Err (here Unsupported) else root_of version (get (codes "root") d)

-- the whole value: an object, of a version that is read
abbrev pub of_value : Data → Result StoryTree ReadRefusal
of_value d = if not (is_object d) then Err (here Shape) else of_version (version_of d) d

-- without the byte order mark
abbrev pub unmarked : List ℕ → List ℕ
unmarked (a ∷ b ∷ c ∷ rest) = if a == 239 && (b == 187 && c == 191) then rest else a ∷ b ∷ c ∷ rest
unmarked bytes = bytes

-- the value that bytes are, where they are text and JSON
abbrev pub json : List ℕ → Option Data
json bytes = if is_utf8 bytes then read bytes else None

abbrev pub of_json : Option Data → Result StoryTree ReadRefusal
of_json None = Err (here NotJson)
of_json (Some d) = of_value d

-- the story that bytes spell, or why they spell none
unfoldable pub story : List ℕ → Result StoryTree ReadRefusal
story bytes = if nat_lt MAX_STORY (length bytes) then Err (here Limit) else of_json (json (unmarked bytes))

-- some bytes spell the story, so that all limits hold in it
abbrev pub IsSpelled : StoryTree → Type 0
IsSpelled s = ∥ ((bytes : List ℕ) × (story bytes ≡ Ok s)) ∥₁
