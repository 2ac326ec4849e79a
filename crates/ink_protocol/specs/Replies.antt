-- What calls returned, as replies.
use Rattle.std.specs.Prelude.{◌≡◌, ℕ, List, Result, Ok, Err}
use Rattle.serde_json.specs.Data.{Data}
use Rattle.serde_json.specs.View.{view}
use Rattle.serde_json.specs.Written.{compact_text}
use Rattle.serde_json.specs.declared.value.Value.{Value}
use Rattle.ink_model.specs.Protocol.Answer.{Reply, Refuses, Saves, reply_of_events, reply_of_halt, reply_of_landing, reply_of_value, reply_of_visits}
use Rattle.ink_model.specs.declared.fault.Refusal.{Refusal}
use Rattle.ink_protocol.specs.declared.answer.Outcome.{Outcome}
use Rattle.ink_protocol.specs.declared.answer.Outcome.TheVariants as outcome

-- what saving as a value returned
abbrev pub reply_of_json : Result Value Refusal → Reply
reply_of_json (Ok json) = Saves (view json)
reply_of_json (Err r) = Refuses r

-- ---- what saving as a text returned

-- the text is the one of this value
abbrev pub IsTextOf : Data → Result (List ℕ) Refusal → Type 0
IsTextOf saved (Ok text) = text ≡ compact_text saved
IsTextOf saved (Err r) = Unit {0}

-- of this value
abbrev pub reply_of_text : Data → Result (List ℕ) Refusal → Reply
reply_of_text saved (Ok text) = Saves saved
reply_of_text saved (Err r) = Refuses r

-- ---- what a command's call returned

-- where a save was made, its text is the one of this value
abbrev pub HasTextOf : Data → Outcome → Type 0
HasTextOf saved (outcome.Halted h) = Unit {0}
HasTextOf saved (outcome.Events r) = Unit {0}
HasTextOf saved (outcome.Value r) = Unit {0}
HasTextOf saved (outcome.Visits r) = Unit {0}
HasTextOf saved (outcome.Landing r) = Unit {0}
HasTextOf saved (outcome.Saved r) = IsTextOf saved r
HasTextOf saved (outcome.Refused r) = Unit {0}

-- where a save was made, of this value
abbrev pub reply_by : Data → Outcome → Reply
reply_by saved (outcome.Halted h) = reply_of_halt h
reply_by saved (outcome.Events r) = reply_of_events r
reply_by saved (outcome.Value r) = reply_of_value r
reply_by saved (outcome.Visits r) = reply_of_visits r
reply_by saved (outcome.Landing r) = reply_of_landing r
reply_by saved (outcome.Saved r) = reply_of_text saved r
reply_by saved (outcome.Refused r) = Refuses r
