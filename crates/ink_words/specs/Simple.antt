-- Integers and truth values, and texts that begin with theirs.
use Rattle.std.specs.Prelude.{ℕ, List, Bool, true, false, bytes_eq, Option, Some, None}
use Rattle.ink_model.specs.declared.value.Value.{Value}
use Rattle.ink_model.specs.declared.value.Value.TheVariants as value

abbrev pub is_simple : Value → Bool
is_simple (value.Int z) = true
is_simple (value.Bool b) = true
is_simple (value.Text t) = false
is_simple (value.Target p) = false
is_simple (value.Pointer i n) = false
is_simple value.Void = false
is_simple (value.Tag t) = false

-- whether this is what stands behind, where a text begins so
abbrev pub goes_on : List ℕ → Option (List ℕ) → Bool
goes_on more None = false
goes_on more (Some rest) = bytes_eq more rest
