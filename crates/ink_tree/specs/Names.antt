-- What is kept of the names that containers give themselves in a list.
use Rattle.std.specs.Prelude.{◌≡◌, ⊤, ℕ, List, Option, Some, None, if◌then◌else◌, slice_get}
use Rattle.std.specs.BTreeMap.{get_by_text}
use Rattle.std.specs.Borrow.{Bor}
use Rattle.ink_model.specs.Story.Path.{listed_index}
use Rattle.ink_model.specs.Run.Place.{is_named}
use Rattle.ink_model.specs.Story.Tree.{StoryTree, at}
use Rattle.ink_tree.specs.Numbers.{node_place}
use Rattle.ink_tree.specs.declared.names.Listed.{Listed}
use Rattle.ink_tree.specs.declared.names.Names.{Names}

-- the index that a name leads to
abbrev pub named_at : List ℕ → Names → Option ℕ
named_at name m = get_by_text m.indices name

-- the index of content that gives itself this name, or none
abbrev pub given : List ℕ → ℕ → Option (List ℕ) → Option ℕ
given name i own = if is_named name own then Some i else None

-- the first of two that is there
abbrev pub first_of : Option ℕ → Option ℕ → Option ℕ
first_of None o = o
first_of (Some i) o = Some i

-- every name leads to the first container in the list of what is found at a place that gives itself that name
abbrev pub KeepsNames : Option StoryTree → Names → Type 0
KeepsNames o m = (name : List ℕ) → named_at name m ≡ listed_index name o

-- the same, where names are kept
abbrev pub MayKeepNames : Option StoryTree → Option Names → Type 0
MayKeepNames o None = ⊤
MayKeepNames o (Some m) = KeepsNames o m

abbrev pub MayShowNames : Option StoryTree → Option (Bor Names) → Type 0
MayShowNames o None = ⊤
MayShowNames o (Some m) = KeepsNames o m.now

-- the names of these containers are kept
abbrev pub AreNamed : StoryTree → List Listed → Type 0
AreNamed s ls = (i : ℕ) (l : Listed) → slice_get ls i ≡ Some l → KeepsNames (at s (node_place s l.holder)) l.names
