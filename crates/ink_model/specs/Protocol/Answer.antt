-- Answers (docs/PROTOCOL.md, "Answers").
use Rattle.std.specs.Prelude.{ℕ, ℤ, List, [], ◌∷◌, ◌++◌, map, codes, Bool, true, false, if◌then◌else◌, Result, Ok, Err}
pub use Rattle.ink_model.specs.Host.Events.{items_of}
use Rattle.ink_model.specs.Protocol.ValueJson.{value_data}
use Rattle.serde_json.specs.Data.{Data, boolean, number, string, array, object, no_members, member}
use Rattle.serde_json.specs.Find.{of_integer}
use Rattle.serde_json.specs.Written.{compact_text}
use Rattle.ink_model.specs.Host.Events.{event_data}
use Rattle.ink_model.specs.Story.Path.{place_text}
use Rattle.ink_model.specs.declared.fault.Cause.{Cause}
use Rattle.ink_model.specs.declared.fault.Cause.TheVariants as cause
use Rattle.ink_model.specs.declared.fault.Fault.{Fault}
use Rattle.ink_model.specs.declared.fault.Fault.TheVariants as fault
use Rattle.ink_model.specs.declared.fault.Halt.{Halt}
use Rattle.ink_model.specs.declared.fault.Halt.TheVariants as halt
use Rattle.ink_model.specs.declared.fault.ReadRefusal.{ReadRefusal}
use Rattle.ink_model.specs.declared.fault.Refusal.{Refusal}
use Rattle.ink_model.specs.declared.fault.Refusal.TheVariants as refusal
use Rattle.ink_model.specs.declared.host.Event.{Event}
use Rattle.ink_model.specs.declared.passage.Passage.{Passage}
use Rattle.ink_model.specs.declared.passage.Shown.{Shown}
use Rattle.ink_model.specs.declared.value.Value.{Value}
use Rattle.ink_model.specs.declared.value.Value.TheVariants as value

-- what a command answers: a passage, what happened, a value, a count of visits, a save, a refusal, or a fault with what happened
-- before it
pub data Reply : Type 0 where
  Tells : (passage : Passage) → Reply
  Acts : (events : List Event) → Reply
  Shows : (value : Value) → Reply
  Counts : (visits : ℤ) → Reply
  Saves : (saved : Data) → Reply
  Refuses : (refusal : Refusal) → Reply
  Breaks : (fault : Fault) → (events : List Event) → Reply

-- what calls returned, as replies
abbrev pub reply_of_halt : Halt → Reply
reply_of_halt (halt.Refused r) = Refuses r
reply_of_halt (halt.Fault f events) = Breaks f events

abbrev pub reply_of : Result Passage Halt → Reply
reply_of (Ok passage) = Tells passage
reply_of (Err h) = reply_of_halt h

abbrev pub reply_of_events : Result (List Event) Halt → Reply
reply_of_events (Ok events) = Acts events
reply_of_events (Err h) = reply_of_halt h

abbrev pub reply_of_value : Result Value Refusal → Reply
reply_of_value (Ok v) = Shows v
reply_of_value (Err r) = Refuses r

abbrev pub reply_of_visits : Result ℤ Refusal → Reply
reply_of_visits (Ok visits) = Counts visits
reply_of_visits (Err r) = Refuses r

-- of a choice that is taken, of a jump, and of a flow to which a player goes, or that it drops
abbrev pub reply_of_landing : Result (Unit {0}) Refusal → Reply
reply_of_landing (Ok u) = Acts []
reply_of_landing (Err r) = Refuses r

-- ---- names

-- why a story is refused, as the program prints it
abbrev pub cause_name : Cause → List ℕ
cause_name cause.NotJson = codes "NotJson"
cause_name cause.Version = codes "Version"
cause_name cause.Shape = codes "Shape"
cause_name cause.Unsupported = codes "Unsupported"
cause_name cause.BadPath = codes "BadPath"
cause_name cause.Limit = codes "Limit"
cause_name cause.OutOfMemory = codes "OutOfMemory"

-- what is wrong stands at one place of the story
abbrev pub is_of_a_place : Cause → Bool
is_of_a_place cause.Shape = true
is_of_a_place cause.Unsupported = true
is_of_a_place cause.BadPath = true
is_of_a_place cause.Limit = true
is_of_a_place c = false

abbrev pub fault_name : Fault → List ℕ
fault_name fault.StackEmpty = codes "StackEmpty"
fault_name fault.BadOperands = codes "BadOperands"
fault_name fault.Divide = codes "Divide"
fault_name fault.BadMode = codes "BadMode"
fault_name fault.BadPop = codes "BadPop"
fault_name fault.BadTarget = codes "BadTarget"
fault_name fault.BadPointer = codes "BadPointer"
fault_name fault.NotCounted = codes "NotCounted"
fault_name fault.NoTemp = codes "NoTemp"
fault_name fault.UnsafeInString = codes "UnsafeInString"
fault_name fault.Unbound = codes "Unbound"
fault_name fault.HostRefused = codes "HostRefused"
fault_name fault.StopInString = codes "StopInString"
fault_name fault.TooDeep = codes "TooDeep"
fault_name fault.OutOfSteps = codes "OutOfSteps"
fault_name fault.OutOfMemory = codes "OutOfMemory"

abbrev pub refusal_name : Refusal → List ℕ
refusal_name refusal.CannotContinue = codes "CannotContinue"
refusal_name refusal.NotAChoice = codes "NotAChoice"
refusal_name refusal.NoSuchVariable = codes "NoSuchVariable"
refusal_name refusal.NoSuchPath = codes "NoSuchPath"
refusal_name refusal.BadValue = codes "BadValue"
refusal_name refusal.BadSave = codes "BadSave"
refusal_name refusal.BadCommand = codes "BadCommand"
refusal_name refusal.NoSuchFlow = codes "NoSuchFlow"
refusal_name refusal.DefaultFlow = codes "DefaultFlow"
refusal_name refusal.TooManyFlows = codes "TooManyFlows"
refusal_name (refusal.Broken f) = codes "Broken"
refusal_name refusal.OutOfMemory = codes "OutOfMemory"

-- ---- printed

-- a refused story: why, and where of what stands at one place
abbrev pub refused_story_text : ReadRefusal → List ℕ
refused_story_text r = cause_name r.cause ++ (if is_of_a_place r.cause then codes " at " ++ place_text r.place else [])

-- why a command was not done
abbrev pub halt_text : Halt → List ℕ
halt_text (halt.Refused r) = codes "refused: " ++ refusal_name r
halt_text (halt.Fault f events) = codes "fault: " ++ fault_name f

-- ---- replies as JSON

abbrev pub texts_data : List (List ℕ) → Data
texts_data ts = array (items_of (map string ts))

abbrev pub shown_data : Shown → Data
shown_data choice = object (member (codes "tags") (texts_data choice.tags) (member (codes "text") (string choice.text) no_members))

abbrev pub events_data : List Event → Data
events_data events = array (items_of (map event_data events))

abbrev pub passage_data : Passage → Data
passage_data p = object
    (member (codes "choices") (array (items_of (map shown_data p.choices)))
    (member (codes "events") (events_data p.events)
    (member (codes "loose") (boolean p.loose)
    (member (codes "more") (boolean p.more)
    (member (codes "tags") (texts_data p.tags)
    (member (codes "text") (string p.text) no_members))))))

abbrev pub refusal_data : Refusal → Data
refusal_data (refusal.Broken f) =
    object (member (codes "fault") (string (fault_name f)) (member (codes "refused") (string (codes "Broken")) no_members))
refusal_data r = object (member (codes "refused") (string (refusal_name r)) no_members)

abbrev pub reply_data : Reply → Data
reply_data (Tells passage) = passage_data passage
reply_data (Acts events) = object (member (codes "events") (events_data events) no_members)
reply_data (Shows v) = object (member (codes "value") (value_data v) no_members)
reply_data (Counts visits) = object (member (codes "visits") (number (of_integer visits)) no_members)
reply_data (Saves saved) = object (member (codes "saved") saved no_members)
reply_data (Refuses r) = refusal_data r
reply_data (Breaks f events) =
    object (member (codes "events") (events_data events) (member (codes "fault") (string (fault_name f)) no_members))

-- a reply as it is written: compact JSON and a newline
unfoldable pub answer : Reply → List ℕ
answer reply = compact_text (reply_data reply) ++ 10 ∷ []

-- the text of an answer is made in memory, but for a refusal, a truth value, void, and what is done or faults and tells no event
abbrev pub answer_asks : Reply → Bool
answer_asks (Acts []) = false
answer_asks (Shows (value.Bool b)) = false
answer_asks (Shows value.Void) = false
answer_asks (Refuses r) = false
answer_asks (Breaks f []) = false
answer_asks reply = true
