-- Values: kinds, truth, printed text (docs/VALUES.md).
use Rattle.std.specs.Prelude.{ℕ, pos, List, [], ◌∷◌, Bool, true, false, not, ◌&&◌, bytes_eq, codes, nat_eq, Result, Ok, Err}
use Rattle.std.specs.Fmt.{signed_decimal}
use Rattle.std.specs.Ordering.{int_eq}
use Rattle.ink_model.specs.Text.Bytes.{is_filled}
use Rattle.ink_model.specs.declared.fault.Fault.{Fault}
use Rattle.ink_model.specs.declared.fault.Fault.TheVariants.{BadOperands}
use Rattle.ink_model.specs.declared.place.Part.{Part}
use Rattle.ink_model.specs.declared.place.Part.TheVariants.{Index, Name}
use Rattle.ink_model.specs.declared.place.Path.{Path}
use Rattle.ink_model.specs.declared.value.Value.{Value}
use Rattle.ink_model.specs.declared.value.Value.TheVariants.{Int, Bool as Truth, Text, Target, Pointer, Void, Tag}

-- ---- printed text

abbrev pub truth_text : Bool → List ℕ
truth_text true = codes "true"
truth_text false = codes "false"

-- an integer in decimal, `true` or `false`, the text itself; void prints nothing
unfoldable pub printed : Value → Result (List ℕ) Fault
printed (Int z) = Ok (signed_decimal z)
printed (Truth b) = Ok (truth_text b)
printed (Text t) = Ok t
printed Void = Ok []
printed (Target p) = Err BadOperands
printed (Pointer i n) = Err BadOperands
printed (Tag t) = Err BadOperands

-- ---- truth

-- an integer that is not 0, `true`, and a text that is not empty are true; void is false
unfoldable pub is_true : Value → Result Bool Fault
is_true (Int z) = Ok (not (int_eq z (pos 0)))
is_true (Truth b) = Ok b
is_true (Text t) = Ok (is_filled t)
is_true Void = Ok false
is_true (Target p) = Err BadOperands
is_true (Pointer i n) = Err BadOperands
is_true (Tag t) = Err BadOperands

-- ---- divert targets, which are equal where all their components are

abbrev pub same_part : Part → Part → Bool
same_part (Index i) (Index j) = nat_eq i j
same_part (Name n) (Name m) = bytes_eq n m
same_part (Index i) (Name m) = false
same_part (Name n) (Index j) = false

abbrev pub same_parts : List Part → List Part → Bool
same_parts [] [] = true
same_parts (p ∷ ps) (q ∷ qs) = same_part p q && same_parts ps qs
same_parts [] (q ∷ qs) = false
same_parts (p ∷ ps) [] = false

abbrev pub same_truth : Bool → Bool → Bool
same_truth true b = b
same_truth false b = not b

abbrev pub same_path : Path → Path → Bool
same_path p q = same_truth p.relative q.relative && same_parts p.parts q.parts
