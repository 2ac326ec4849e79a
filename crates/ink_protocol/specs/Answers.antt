-- What is written of answers, piece by piece.
use Rattle.std.specs.Prelude.{ℕ, List, ◌++◌, map, codes, Bool, true, false, Option, Some, None}
use Rattle.serde_json.specs.Data.{array, string}
use Rattle.serde_json.specs.Written.{compact_text, items_text}
use Rattle.ink_model.specs.Protocol.Answer.{items_of, shown_data}
use Rattle.ink_model.specs.Host.Bindings.{value_given}
use Rattle.ink_model.specs.Host.Events.{event_data}
use Rattle.ink_model.specs.Protocol.ValueJson.{value_data}
use Rattle.ink_model.specs.declared.host.Given.{Given}
use Rattle.ink_model.specs.declared.passage.Passage.{Passage}
use Rattle.ink_model.specs.declared.passage.Shown.{Shown}
use Rattle.ink_model.specs.declared.value.Value.{Value}

-- the member that tells what came of a call: what it gave, or that it was refused
abbrev pub outcome_text : Option Given → List ℕ
outcome_text (Some g) = codes ",\"gave\":" ++ compact_text (value_data (value_given g))
outcome_text None = codes ",\"refused\":true"

-- values as a compact JSON array
abbrev pub values_text : List Value → List ℕ
values_text values = compact_text (array (items_of (map value_data values)))

-- the front of a line that tells a passage, up to its choices
abbrev pub choices_front : List Shown → List ℕ
choices_front choices = codes "{\"choices\":" ++ compact_text (array (items_of (map shown_data choices)))

-- the line that tells a passage, with this between its choices and its text
abbrev pub passage_line : Passage → List ℕ → List ℕ
passage_line p middle = codes "{\"choices\":" ++ (compact_text (array (items_of (map shown_data p.choices))) ++ (middle ++ (compact_text (string p.text) ++ codes "}\n")))

-- what stands between the choices and the text of one without events and tags
abbrev pub quiet_middle : Bool → Bool → List ℕ
quiet_middle false false = codes ",\"events\":[],\"loose\":false,\"more\":false,\"tags\":[],\"text\":"
quiet_middle false true = codes ",\"events\":[],\"loose\":false,\"more\":true,\"tags\":[],\"text\":"
quiet_middle true false = codes ",\"events\":[],\"loose\":true,\"more\":false,\"tags\":[],\"text\":"
quiet_middle true true = codes ",\"events\":[],\"loose\":true,\"more\":true,\"tags\":[],\"text\":"

-- what stands between the events and the tags of a passage
abbrev pub flags_text : Bool → Bool → List ℕ
flags_text false false = codes ",\"loose\":false,\"more\":false,\"tags\":["
flags_text false true = codes ",\"loose\":false,\"more\":true,\"tags\":["
flags_text true false = codes ",\"loose\":true,\"more\":false,\"tags\":["
flags_text true true = codes ",\"loose\":true,\"more\":true,\"tags\":["

-- what stands between the choices and the text of any passage
abbrev pub loud_middle : Passage → List ℕ
loud_middle p = codes ",\"events\":[" ++ (items_text false (items_of (map event_data p.events)) ++ (flags_text p.loose p.more ++ (items_text false (items_of (map string p.tags)) ++ codes ",\"text\":")))
