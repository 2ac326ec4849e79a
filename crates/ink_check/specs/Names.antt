-- The names of a story's variables, and their numbers.
use Rattle.std.specs.Prelude.{ℕ, List, [], ◌∷◌, ◌++◌, Option, Some, None, if◌then◌else◌, is_some}
use Rattle.ink_names.specs.Names.{number_of}
use Rattle.ink_model.specs.Story.Places.{places}
use Rattle.ink_model.specs.Story.Tree.{StoryTree, leaf, container, at}
use Rattle.ink_model.specs.declared.content.Destination.{Destination}
use Rattle.ink_model.specs.declared.content.Destination.TheVariants as destinations
use Rattle.ink_model.specs.declared.content.Leaf.{Leaf}
use Rattle.ink_model.specs.declared.content.Leaf.TheVariants as leaves
use Rattle.ink_model.specs.declared.place.Part.{Part}

-- ---- names

abbrev pub destination_name : Destination → Option (List ℕ)
destination_name (destinations.Path text) = None
destination_name (destinations.Variable name) = Some name

-- the name of the variable that a leaf reads or assigns, or that it declares as a global
abbrev pub variable_name : Leaf → Option (List ℕ)
variable_name (leaves.Variable name) = Some name
variable_name (leaves.Assign name) = Some name
variable_name (leaves.AssignTemp name) = Some name
variable_name (leaves.Declare name) = Some name
variable_name (leaves.Divert to conditional) = destination_name to
variable_name (leaves.Call to conditional) = destination_name to
variable_name (leaves.Tunnel to conditional) = destination_name to
variable_name l = None

abbrev pub variable_of : Option StoryTree → Option (List ℕ)
variable_of None = None
variable_of (Some (container name flags content named)) = None
variable_of (Some (leaf l)) = variable_name l

-- names with one more, which comes last, unless it is among them
abbrev pub with_name : List ℕ → List (List ℕ) → List (List ℕ)
with_name name names = if is_some (number_of names name) then names else names ++ name ∷ []

abbrev pub with_variable : Option (List ℕ) → List (List ℕ) → List (List ℕ)
with_variable None names = names
with_variable (Some name) names = with_name name names

abbrev pub names_from : StoryTree → List (List Part) → List (List ℕ) → List (List ℕ)
names_from s [] names = names
names_from s (p ∷ ps) names = names_from s ps (with_variable (variable_of (at s p)) names)

-- the names of a story's variables, each once, in order of their first occurrence
abbrev pub names : StoryTree → List (List ℕ)
names s = names_from s (places s) []

-- ---- numbers

abbrev pub number_in : List (List ℕ) → Option (List ℕ) → Option ℕ
number_in names None = None
number_in names (Some name) = number_of names name

-- the number of the variable that content reads or assigns, or declares as a global
abbrev pub variable_number : StoryTree → List Part → Option ℕ
variable_number s p = number_in (names s) (variable_of (at s p))
