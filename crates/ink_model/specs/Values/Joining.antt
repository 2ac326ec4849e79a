-- Which operators make a text of their operands, for which they ask for memory (docs/VALUES.md, "Operators").
use Rattle.std.specs.Prelude.{List, [], ◌∷◌, Bool, true, false, ◌++◌, ◌&&◌, ◌||◌, is_ok}
use Rattle.ink_model.specs.Text.Bytes.{fits_text}
use Rattle.ink_model.specs.Values.Operator.{of_texts}
use Rattle.ink_model.specs.declared.operator.Op.{Op}
use Rattle.ink_model.specs.declared.operator.Op.TheVariants as op
use Rattle.ink_model.specs.declared.value.Value.{Value}
use Rattle.ink_model.specs.declared.value.Value.TheVariants.{Int, Bool as Truth, Text}

abbrev pub is_text : Value → Bool
is_text (Text t) = true
is_text v = false

-- one of the values is a text
abbrev pub has_text : List Value → Bool
has_text [] = false
has_text (v ∷ vs) = is_text v || has_text vs

abbrev pub is_number : Value → Bool
is_number (Int z) = true
is_number (Truth b) = true
is_number v = false

-- one of the values stands for a number
abbrev pub has_number : List Value → Bool
has_number [] = false
has_number (v ∷ vs) = is_number v || has_number vs

-- these are two texts, which the operator joins to one within the limit
abbrev pub joins : Op → List Value → Bool
joins op.Add (Text s ∷ Text t ∷ []) = fits_text (s ++ t)
joins operator vs = false

-- the operator has a result for two texts
abbrev pub is_for_texts : Op → Bool
is_for_texts operator = is_ok (of_texts operator [] [])

-- An operator makes a text of these values: it joins two, or prints the number beside one, where it has a result for texts.
abbrev pub makes_text : Op → List Value → Bool
makes_text operator vs = joins operator vs || (is_for_texts operator && (has_text vs && has_number vs))
