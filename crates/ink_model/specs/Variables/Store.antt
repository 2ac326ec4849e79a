-- Values by name, in order: the globals in the order in which they were declared (docs/RUNNING.md, "Globals").
use Rattle.std.specs.Prelude.{ℕ, List, [], ◌∷◌, bytes_eq, Option, Some, None, if◌then◌else◌}
use Rattle.ink_model.specs.declared.value.Value.{Value}

abbrev pub Values : Type 0
Values = List (List ℕ × Value)

-- the value of a name
abbrev pub stored : List ℕ → Values → Option Value
stored name [] = None
stored name (e ∷ es) = if bytes_eq name e.0 then Some e.1 else stored name es

-- with this value of a name; a name that is there already keeps its place
abbrev pub store : List ℕ → Value → Values → Values
store name v [] = (name, v) ∷ []
store name v (e ∷ es) = if bytes_eq name e.0 then (e.0, v) ∷ es else e ∷ store name v es
