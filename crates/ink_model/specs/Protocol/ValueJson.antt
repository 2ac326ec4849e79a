-- The JSON of values, both ways (docs/PROTOCOL.md).
use Rattle.std.specs.Prelude.{ℕ, ℤ, List, codes, if◌then◌else◌, Option, Some, None, option_and_then}
use Rattle.serde_json.specs.Data.{Data, null, boolean, number, string, array, object, no_members, member}
use Rattle.serde_json.specs.Find.{of_integer, as_integer}
use Rattle.serde_json.specs.Read.{read}
use Rattle.ink_model.specs.Story.Leaves.{is_small}
use Rattle.ink_model.specs.Story.Path.{path_text}
use Rattle.ink_model.specs.Text.Bytes.{fits_text}
use Rattle.ink_model.specs.declared.host.Given.{Given}
use Rattle.ink_model.specs.declared.host.Given.TheVariants as given
use Rattle.ink_model.specs.declared.value.Value.{Value}
use Rattle.ink_model.specs.declared.value.Value.TheVariants as value

abbrev pub value_data : Value → Data
value_data (value.Int z) = number (of_integer z)
value_data (value.Bool b) = boolean b
value_data (value.Text t) = string t
value_data (value.Target p) = object (member (codes "->") (string (path_text p)) no_members)
value_data (value.Pointer i n) = object (member (codes "ci") (number (of_integer i)) (member (codes "var") (string n) no_members))
value_data value.Void = null
value_data (value.Tag t) = object (member (codes "tag") (string t) no_members)

abbrev pub given_integer : Option ℤ → Option Given
given_integer None = None
given_integer (Some z) = if is_small z then Some (given.Int z) else None

abbrev pub given_text : List ℕ → Option Given
given_text t = if fits_text t then Some (given.Text t) else None

-- an integer of 32 bits, a boolean, or a text within its limit
abbrev pub given_by : Data → Option Given
given_by null = None
given_by (boolean b) = Some (given.Bool b)
given_by (number n) = given_integer (as_integer n)
given_by (string t) = given_text t
given_by (array ds) = None
given_by (object ms) = None

-- the value that a text spells
unfoldable pub given_of : List ℕ → Option Given
given_of text = option_and_then given_by (read text)
