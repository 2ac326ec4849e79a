-- What is shown where a function asks (docs/READER.md, "Questions").
use Rattle.std.specs.Prelude.{ℕ, List, [], ◌∷◌, ◌++◌, codes}
use Rattle.serde_json.specs.Written.{compact_text}
use Rattle.ink_model.specs.Protocol.ValueJson.{value_data}
use Rattle.ink_model.specs.declared.value.Value.{Value}
use Rattle.ink_page.specs.Page.{line_page}
use Rattle.ink_page.specs.declared.page.Look.{Look}

-- values as JSON, with commas between them
abbrev pub listed : List Value → List ℕ
listed [] = []
listed (v ∷ []) = compact_text (value_data v)
listed (v ∷ vs) = compact_text (value_data v) ++ (codes "," ++ listed vs)

-- a call: the function's name, and its arguments in parentheses
abbrev pub call_words : List ℕ → List Value → List ℕ
call_words name arguments = name ++ (codes "(" ++ (listed arguments ++ codes ")"))

-- the page of a question
abbrev pub question_page : Look → List ℕ → List Value → List ℕ
question_page look name arguments = line_page look (call_words name arguments) []
