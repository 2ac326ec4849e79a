-- What stands at a place of a story's bytes, accepted or not (docs/READER.md, "A story that is refused").
use Rattle.std.specs.Prelude.{◌≡◌, ℕ, List, [], ◌∷◌, codes, false, Option, Some, option_and_then}
use Rattle.json.specs.Lex.{tokens}
use Rattle.json.specs.Print.{print}
use Rattle.serde_json.specs.Data.{Data}
use Rattle.serde_json.specs.Find.{at, get}
use Rattle.serde_json.specs.Read.{read}
use Rattle.serde_json.specs.Written.{compact_text, has_float}
use Rattle.ink_model.specs.Story.Grammar.{json, member_of, own_of, unmarked}
use Rattle.ink_model.specs.declared.place.Part.{Part}
use Rattle.ink_model.specs.declared.place.Part.TheVariants.{Index, Name}

-- a step down: to the element at an index, or to what the last element has under a name
abbrev pub inside : Part → Data → Option Data
inside (Index index) d = at index d
inside (Name name) d = member_of name (own_of d)

-- steps down, one after another
abbrev pub down : List Part → Option Data → Option Data
down [] found = found
down (p ∷ ps) found = down ps (option_and_then (inside p) found)

-- what stands at a place: the way to it begins at the root
abbrev pub piece_of : List ℕ → List Part → Option Data
piece_of story parts = down parts (option_and_then (get (codes "root")) (json (unmarked story)))

-- a text of some JSON: it reads as that, and has no blanks between its tokens; where the JSON has no float, it is byte by byte the compact one
abbrev pub Spells : Data → List ℕ → Type 0
Spells d text = (read text ≡ Some d) × (text ≡ print (tokens text)) × (has_float d ≡ false → text ≡ compact_text d)
