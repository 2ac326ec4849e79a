-- What is shown of a player's answers (docs/READER.md, "What is shown").
use Rattle.std.specs.Prelude.{ℕ, ◌+◌, ◌-◌, ◌^◌, min, List, [], ◌∷◌, ◌++◌, codes, if◌then◌else◌, ⊤}
use Rattle.std.specs.Fmt.{signed_decimal}
use Rattle.ink_model.specs.declared.host.Event.{Event}
use Rattle.ink_model.specs.declared.host.Event.TheVariants as event
use Rattle.ink_model.specs.declared.passage.Passage.{Passage}
use Rattle.ink_model.specs.declared.passage.Shown.{Shown}
use Rattle.ink_model.specs.declared.value.Value.{Value}
use Rattle.ink_model.specs.declared.value.Value.TheVariants as value
use Rattle.ink_page.specs.Page.{choice_page, line_page}
use Rattle.ink_page.specs.declared.page.Look.{Look}
use Rattle.ink_protocol.specs.declared.fault.RunFault.{RunFault}
use Rattle.ink_protocol.specs.declared.fault.RunFault.TheVariants as fault

-- words, in lines of their own
abbrev pub said : Look → List ℕ → List ℕ
said look words = line_page look words [] ++ 10 ∷ []

-- a value in words
abbrev pub value_text : Value → List ℕ
value_text (value.Int n) = signed_decimal n
value_text (value.Bool b) = if b then codes "true" else codes "false"
value_text (value.Text t) = t
value_text (value.Target path) = codes "a place in the story"
value_text (value.Pointer frame name) = codes "a place in the story"
value_text value.Void = codes "nothing"
value_text (value.Tag t) = t

-- a variable and its value
abbrev pub value_words : List ℕ → Value → List ℕ
value_words name v = codes "[" ++ (name ++ (codes " = " ++ (value_text v ++ codes "]")))

abbrev pub value_shown : Look → List ℕ → Value → List ℕ
value_shown look name v = said look (value_words name v)

-- what a watcher saw; a call is not shown
abbrev pub event_shown : Look → Event → List ℕ
event_shown look (event.Call name arguments gave stamp) = []
event_shown look (event.Saw name stamp v) = value_shown look name v

abbrev pub events_shown : Look → List Event → List ℕ
events_shown look [] = []
events_shown look (e ∷ es) = event_shown look e ++ events_shown look es

-- a page, unless there is nothing on it
abbrev pub filled : List ℕ → List ℕ
filled [] = []
filled (c ∷ cs) = (c ∷ cs) ++ 10 ∷ []

-- a line of the story, and then what was seen on the way to it
abbrev pub passage_shown : Look → Passage → List ℕ
passage_shown look p = filled (line_page look p.text p.tags) ++ events_shown look p.events

-- choices by their numbers, from this one on
abbrev pub numbered : Look → ℕ → List Shown → List ℕ
numbered look n [] = []
numbered look n (c ∷ cs) = (choice_page look n c ++ 10 ∷ []) ++ numbered look (min (n + 1) (2 ^ 32 - 1)) cs

-- choices behind an empty line, from 1
abbrev pub choices_shown : Look → List Shown → List ℕ
choices_shown look cs = 10 ∷ numbered look 1 cs

-- what is shown fails for its sink, or for lack of memory
abbrev pub FailsToShow : RunFault → Type 0
FailsToShow fault.Write = ⊤
FailsToShow fault.OutOfMemory = ⊤
FailsToShow fault.Read = ⊥
FailsToShow fault.TooLong = ⊥
