-- The heads of an object, by which it is read.
use Rattle.std.specs.Prelude.{◌≡◌, ◌≤◌, ℕ, List, [], ◌∷◌, ◌++◌, length, Bool, Result}
use Rattle.serde_json.specs.Data.{Data}
use Rattle.json_tape.specs.Value.{json_data}
use Rattle.ink_model.specs.Story.Leaves.{read_jump, read_external, read_choice, read_plain, read_pointer, read_store, read_tag}
use Rattle.ink_model.specs.declared.content.Destination.{Destination}
use Rattle.ink_model.specs.declared.content.Leaf.{Leaf}
use Rattle.ink_model.specs.declared.content.Leaf.TheVariants as leaves
use Rattle.ink_model.specs.declared.fault.Cause.{Cause}
use Rattle.ink_json.specs.declared.heads.Head.{Head}
use Rattle.ink_json.specs.declared.heads.Head.TheVariants as heads
use Rattle.ink_json.specs.declared.readings.Jump.{Jump}
use Rattle.ink_json.specs.declared.readings.Jump.TheVariants as ways
use Rattle.ink_model.specs.declared.scope.Scope.{Scope}
use Rattle.ink_model.specs.declared.scope.Scope.TheVariants as scopes
use Rattle.ink_json.specs.declared.heads.Found.{Found}
use Rattle.ink_json.specs.declared.heads.Found.TheVariants.{Nothing, One, Several}

-- the leaf of a jump, by where it leads and whether it pops a condition
abbrev pub jumps : Jump → Destination → Bool → Leaf
jumps ways.Divert = leaves.Divert
jumps ways.Call = leaves.Call
jumps ways.Tunnel = leaves.Tunnel

-- the leaf that declares a variable of this scope, and the one that assigns it, by the name
abbrev pub declares : Scope → List ℕ → Leaf
declares scopes.Global = leaves.Declare
declares scopes.Temporary = leaves.DeclareTemp

abbrev pub assigns : Scope → List ℕ → Leaf
assigns scopes.Global = leaves.Assign
assigns scopes.Temporary = leaves.AssignTemp

-- what an object is by a head, at the value of that
abbrev pub reading : Head → Data → Data → Result Leaf Cause
reading (heads.Jump jump) = read_jump (jumps jump)
reading heads.External = read_external
reading heads.Choice = read_choice
reading heads.Target = read_plain leaves.Target
reading heads.Pointer = read_pointer
reading heads.Variable = read_plain leaves.Variable
reading heads.Count = read_plain leaves.Count
reading heads.Tag = read_tag
reading (heads.Store scope) = read_store (declares scope) (assigns scope)

-- how many readings an object has, and where it is one, by which head
abbrev pub Counts : Found → Data → List (Result Leaf Cause) → Type 0
Counts Nothing d rs = rs ≡ []
Counts (One head value) d rs = rs ≡ reading head d (json_data value) ∷ []
Counts Several d rs = 2 ≤ length rs

-- what was found after these readings too
abbrev pub Adds : (Data → List (Result Leaf Cause)) → Found → Data → Found → Type 0
Adds readings found d after = (rs : List (Result Leaf Cause)) → Counts found d rs → Counts after d (rs ++ readings d)
