-- Where the paths lead that texts spell.
use Rattle.std.specs.Prelude.{◌≡◌, ℕ, List, ◌∷◌, [], Option, None, Some, option_and_then}
use Rattle.ink_model.specs.Story.Acceptance.{leads}
use Rattle.ink_model.specs.Story.Path.{components, ends_in_index, read_path, stepped_last, target, walked}
use Rattle.ink_model.specs.Story.Tree.{StoryTree}
use Rattle.ink_model.specs.declared.place.Part.{Part}
use Rattle.ink_model.specs.declared.place.Path.{Path}
use Rattle.ink_tree.specs.Nodes.{place_of}
use Rattle.ink_tree.specs.declared.leading.Lead.{Lead}

-- where a path leads from a place, and whether by an index
abbrev pub Leads : StoryTree → List Part → List ℕ → Option Lead → Type 0
Leads s p text None = leads s p text ≡ None
Leads s p text (Some l) = (path : Path) × (read_path text ≡ Some path) × (target s p path ≡ Some (place_of s l.spot)) × (ends_in_index path.parts ≡ l.by_index)

-- the same of components
abbrev pub LeadsBy : StoryTree → List Part → List (List ℕ) → Option Lead → Type 0
LeadsBy s p texts None = option_and_then (walked s p) (components texts) ≡ None
LeadsBy s p texts (Some l) = (option_and_then (walked s p) (components texts) ≡ Some (place_of s l.spot))
    × ((ps : List Part) → components texts ≡ Some ps → ends_in_index ps ≡ l.by_index)

-- the same of the last component
abbrev pub LastLeads : StoryTree → List Part → Part → Option Lead → Type 0
LastLeads s p c None = stepped_last s p c ≡ None
LastLeads s p c (Some l) = (stepped_last s p c ≡ Some (place_of s l.spot)) × (ends_in_index (c ∷ []) ≡ l.by_index)
