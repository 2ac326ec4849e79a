-- What a player answers to command lines (docs/PROTOCOL.md, "Sessions").
use Rattle.std.specs.Prelude.{is_some, Result, Ok, Err, ◌≡◌, ◌≢◌, ℕ, ℤ, List, [], ◌∷◌, ◌++◌, Bool, true, false, ◌||◌, ◌⊎◌, Option, Some, None, MatchBool}
use Rattle.ink_model.specs.Choices.Making.{has_any}
use Rattle.ink_model.specs.Host.Bindings.{Bindings, value_given}
use Rattle.ink_model.specs.Host.Events.{calls, later}
use Rattle.ink_model.specs.Memory.Refusals.{FallsShort, LineFallsShort, OpensShort, holds_memory}
use Rattle.ink_model.specs.Protocol.FlowCommands.{DropsFlow, GoesToFlow}
use Rattle.ink_model.specs.Protocol.Passage.{passage, passage_asks}
use Rattle.ink_model.specs.Run.Configuration.{Configuration, can_go_on, settled, with_globals}
use Rattle.ink_model.specs.Run.Flows.{Game, alone, one_flow}
use Rattle.ink_model.specs.Run.Line.{EndsLine}
use Rattle.ink_model.specs.Run.Moments.{Made, RunEnd, Kept, Broke, EndsThrough}
use Rattle.ink_model.specs.Story.Leaves.{is_small}
use Rattle.ink_model.specs.Story.Tree.{StoryTree}
use Rattle.ink_model.specs.Text.Bytes.{fits_text}
pub use Rattle.ink_model.specs.Protocol.Changed.{FailsAllocation, OnlyRefuses}
use Rattle.ink_model.specs.Host.Told.{ToldAs, told}
use Rattle.ink_model.specs.Protocol.Answer.{Reply, Tells, Acts, Shows, Counts, Saves, Refuses, Breaks, answer}
use Rattle.ink_model.specs.Protocol.Command as command
use Rattle.ink_model.specs.Protocol.Command.{Command, command_of}
use Rattle.ink_model.specs.Protocol.State.{State, Condition, Ready, Broken, globals_of}
use Rattle.ink_model.specs.Protocol.Turns.{Choose, Jump}
use Rattle.ink_model.specs.Protocol.Unread.{LineFails}
use Rattle.ink_model.specs.Run.Opening.{opening, Unopened}
use Rattle.ink_model.specs.Run.Visits.{visits_by}
use Rattle.ink_model.specs.Save.Asks.{load_asks}
use Rattle.ink_model.specs.Save.Reads.{Reads}
use Rattle.ink_model.specs.Save.Spelling.{spelling}
use Rattle.ink_model.specs.Variables.Store.{Values, stored, store}
use Rattle.serde_json.specs.Data.{Data}
use Rattle.ink_model.specs.declared.fault.Fault.{Fault}
use Rattle.ink_model.specs.declared.fault.Fault.TheVariants.{OutOfMemory}
use Rattle.ink_model.specs.declared.fault.Refusal.TheVariants as refusal
use Rattle.ink_model.specs.declared.host.Change.{Change}
use Rattle.ink_model.specs.declared.host.Event.{Event}
use Rattle.ink_model.specs.declared.host.Given.{Given}
use Rattle.ink_model.specs.declared.host.Given.TheVariants as given
use Rattle.ink_model.specs.declared.value.Value.{Value}

-- ---- telling, and faults

-- the state after these events, from an old one, with the flows that stood aside
abbrev pub left_with : Condition → List Event → State → State
left_with c es old = record old { condition = c; stamp = later old.stamp es }

-- what is answered and left where all watchers were told; else a fault breaks the player, with the globals as they are then
abbrev pub reply_told : Bool → Reply → List Event → Reply
reply_told true reply es = reply
reply_told false reply es = Breaks OutOfMemory es

abbrev pub condition_told : Bool → Condition → Condition
condition_told true c = c
condition_told false c = Broken OutOfMemory (globals_of c)

-- A command is done, in this condition, with these events before, and tells these changes: the answer has all its events. Where
-- a watcher was without memory, the command stands.
pub record TellsDone (cs : List Change) (done : Condition) (answers : List Event → Reply) (before es : List Event) (old : State) (reply : Reply) (new : State) : Type 0 where
  pub all : Bool
  pub saw : List Event
  pub telling : ToldAs (later old.stamp before) cs all saw
  pub events : es ≡ before ++ saw
  pub replies : reply ≡ reply_told all (answers es) es
  pub leaves : new ≡ left_with (condition_told all done) es old

-- The same of a command that runs nothing: where there is something to tell, and no memory for that, nothing has changed.
abbrev pub TellsOrKeeps : List Change → Condition → List Event → State → Reply → State → Type 0
TellsOrKeeps cs done es old reply new = TellsDone cs done Acts [] es old reply new ⊎ ((cs ≢ []) × (es ≡ []) × FailsAllocation old reply new)

-- The same of a command that begins anew, with these flows aside.
abbrev pub BeginsAnew : List Change → Game → List Event → State → Reply → State → Type 0
BeginsAnew cs g es old reply new = TellsDone cs (Ready g.now) Acts [] es (record old { aside = g.aside }) reply new ⊎ ((cs ≢ []) × (es ≡ []) × FailsAllocation old reply new)

-- a fault, with the events before it: the player is broken, with these globals, and nobody is told
abbrev pub BreaksBy : Fault → Values → List Event → List Event → State → Reply → State → Type 0
BreaksBy f globals before es old reply new = (es ≡ before) × (reply ≡ Breaks f before) × (new ≡ left_with (Broken f globals) before old)

-- ---- one command

-- a passage with what happened
abbrev pub telling : Configuration → List Event → Reply
telling c es = Tells (record (passage c) { events = es })

-- memory is asked for at the end of a running command, which began with these globals: for the passage, or to tell of something
abbrev pub ending_asks : Bindings → Values → Configuration → Bool
ending_asks h start c = passage_asks c || has_any (told h.watches start c.shared.globals)

-- The end of a running command, which made these calls, has these events, gives this reply and leaves this. The globals had these
-- values at its start. Where memory is refused for the passage or for telling, nobody is told, and the globals stay.
abbrev pub EndsAs : Bindings → Values → RunEnd → List Made → List Event → State → Reply → State → Type 0
EndsAs h start (Kept c) made es old reply new =
    TellsDone (told h.watches start c.shared.globals) (Ready (settled c)) (telling c) (calls old.stamp made) es old reply new
    ⊎ ((ending_asks h start c ≡ true) × BreaksBy OutOfMemory c.shared.globals (calls old.stamp made) es old reply new)
EndsAs h start (Broke f globals) made es old reply new = BreaksBy f globals (calls old.stamp made) es old reply new

-- From a configuration in which flow has not stopped, with these calls made: an end to which that comes. Only where memory was
-- refused, with these globals left, it may fall short of that.
abbrev pub RunsTo : (RunEnd → Type 0) → (Values → Type 0) → Bindings → Configuration → List Made → List Event → State → Reply → State → Type 0
RunsTo Ends FallShort h c made es old reply new =
    ((end : RunEnd) × Ends end × EndsAs h c.shared.globals end made es old reply new)
    ⊎ ((globals : Values) × FallShort globals × BreaksBy OutOfMemory globals (calls old.stamp made) es old reply new)

-- the end of the whole run, under the answers of the calls that were made
abbrev pub RunsThrough : StoryTree → Bindings → Configuration → List Made → List Event → State → Reply → State → Type 0
RunsThrough s h c made es old reply new = RunsTo (EndsThrough s h.functions c made) (FallsShort s h.functions c made) h c made es old reply new

-- the end of a line of it
abbrev pub RunsLine : StoryTree → Bindings → Configuration → List Made → List Event → State → Reply → State → Type 0
RunsLine s h c made es old reply new = RunsTo (EndsLine s h.functions c made) (LineFallsShort s h.functions c made) h c made es old reply new

-- a command that runs, where flow has not stopped
abbrev pub RunsFrom : (Configuration → List Made → List Event → State → Reply → State → Type 0) → List Event → Condition → State → Reply → State → Type 0
RunsFrom Runs es (Broken f globals) old reply new = (es ≡ []) × OnlyRefuses (Refuses (refusal.Broken f)) old reply new
RunsFrom Runs es (Ready c) old reply new = MatchBool (can_go_on c)
    ((made : List Made) × Runs c made es old reply new)
    ((es ≡ []) × OnlyRefuses (Refuses refusal.CannotContinue) old reply new)

abbrev pub ThroughFrom : StoryTree → Bindings → List Event → Condition → State → Reply → State → Type 0
ThroughFrom s h es k old reply new = RunsFrom (RunsThrough s h) es k old reply new

abbrev pub ContinueFrom : StoryTree → Bindings → List Event → Condition → State → Reply → State → Type 0
ContinueFrom s h es k old reply new = RunsFrom (RunsLine s h) es k old reply new

-- `through`, with its events: the calls that it made, and what was told at its end
abbrev pub Through : StoryTree → Bindings → List Event → State → Reply → State → Type 0
Through s h es old reply new = ThroughFrom s h es old.condition old reply new

-- `continue`: the same of one line
abbrev pub Continue : StoryTree → Bindings → List Event → State → Reply → State → Type 0
Continue s h es old reply new = ContinueFrom s h es old.condition old reply new

-- A fault of the declarations breaks the player, with these globals and one flow; but where it is refused memory nothing has changed. No rule
-- has OutOfMemory, so that fault alone tells refused memory apart.
abbrev pub FailsToRestart : Fault → Values → List Event → State → Reply → State → Type 0
FailsToRestart OutOfMemory globals es old reply new = (es ≡ []) × FailsAllocation old reply new
FailsToRestart f globals es old reply new = BreaksBy f globals [] es (record old { aside = one_flow }) reply new

-- `restart`, by what opening comes to: as the story was opened, with one flow, and told of what has another value than `get` read before; or
-- not begun anew, by the fault and with the globals as they stood before the step that faulted. Stamps go on.
abbrev pub RestartsAs : Bindings → Result Configuration Unopened → List Event → State → Reply → State → Type 0
RestartsAs h (Ok c) es old reply new = BeginsAnew (told h.watches (globals_of old.condition) c.shared.globals) (alone c) es old reply new
RestartsAs h (Err e) es old reply new = FailsToRestart e.fault e.globals es old reply new

abbrev pub Restart : StoryTree → Bindings → List Event → State → Reply → State → Type 0
Restart s h es old reply new = RestartsAs h (opening s) es old reply new ⊎ (OpensShort s × (es ≡ []) × FailsAllocation old reply new)

-- `get`, also of a broken player; only a value that holds memory may find none for its copy
abbrev pub GetsFrom : Option Value → State → Reply → State → Type 0
GetsFrom None old reply new = OnlyRefuses (Refuses refusal.NoSuchVariable) old reply new
GetsFrom (Some v) old reply new = OnlyRefuses (Shows v) old reply new ⊎ ((holds_memory v ≡ true) × FailsAllocation old reply new)

abbrev pub Get : List ℕ → State → Reply → State → Type 0
Get name old reply new = GetsFrom (stored name (globals_of old.condition)) old reply new

-- a value that may be set: an integer of 32 bits, a boolean, or a text within its limit
abbrev pub settable : Given → Bool
settable (given.Int z) = is_small z
settable (given.Bool b) = true
settable (given.Text t) = fits_text t
settable given.Void = false

-- `set` of a value: a bad value comes before an absent variable, and the one global is told of
abbrev pub SetsIn : Bindings → List ℕ → Given → Configuration → List Event → State → Reply → State → Type 0
SetsIn h name g c es old reply new = MatchBool (settable g)
    (MatchBool (is_some (stored name c.shared.globals))
    (TellsOrKeeps (told h.watches c.shared.globals ((name, value_given g) ∷ [])) (Ready (with_globals (store name (value_given g) c.shared.globals) c)) es old reply new)
    ((es ≡ []) × OnlyRefuses (Refuses refusal.NoSuchVariable) old reply new))
    ((es ≡ []) × OnlyRefuses (Refuses refusal.BadValue) old reply new)

abbrev pub SetsBy : Bindings → List ℕ → Option Given → Configuration → List Event → State → Reply → State → Type 0
SetsBy h name None c es old reply new = (es ≡ []) × OnlyRefuses (Refuses refusal.BadValue) old reply new
SetsBy h name (Some g) c es old reply new = SetsIn h name g c es old reply new

abbrev pub SetsFrom : Bindings → List ℕ → Option Given → Condition → List Event → State → Reply → State → Type 0
SetsFrom h name value (Broken f globals) es old reply new = (es ≡ []) × OnlyRefuses (Refuses (refusal.Broken f)) old reply new
SetsFrom h name value (Ready c) es old reply new = SetsBy h name value c es old reply new

abbrev pub Set : Bindings → List Event → List ℕ → Option Given → State → Reply → State → Type 0
Set h es name value old reply new = SetsFrom h name value old.condition es old reply new

-- `visits`, without memory: a path that leads to nothing whose visits are counted is refused
abbrev pub VisitsBy : Option ℤ → State → Reply → State → Type 0
VisitsBy None old reply new = OnlyRefuses (Refuses refusal.NoSuchPath) old reply new
VisitsBy (Some z) old reply new = OnlyRefuses (Counts z) old reply new

abbrev pub VisitsFrom : StoryTree → List ℕ → Condition → State → Reply → State → Type 0
VisitsFrom s path (Broken f globals) old reply new = OnlyRefuses (Refuses (refusal.Broken f)) old reply new
VisitsFrom s path (Ready c) old reply new = VisitsBy (visits_by s path c) old reply new

abbrev pub Visits : StoryTree → List ℕ → State → Reply → State → Type 0
Visits s path old reply new = VisitsFrom s path old.condition old reply new

-- `save`: the value that the game is spelled as, for which memory is asked for
abbrev pub SavesFrom : Condition → State → Reply → State → Type 0
SavesFrom (Broken f globals) old reply new = OnlyRefuses (Refuses (refusal.Broken f)) old reply new
SavesFrom (Ready c) old reply new = OnlyRefuses (Saves (spelling (record { now = c; aside = old.aside }))) old reply new ⊎ FailsAllocation old reply new

abbrev pub Save : State → Reply → State → Type 0
Save old reply new = SavesFrom old.condition old reply new

-- A value that reads as a game is loaded: that one is there then, with its flows and no others, and told is what has another value
-- than `get` read before.
pub record Loads (s : StoryTree) (h : Bindings) (j : Data) (es : List Event) (old : State) (reply : Reply) (new : State) : Type 0 where
  pub loaded : Game
  pub reads : Reads s j loaded
  pub tells : BeginsAnew (told h.watches (globals_of old.condition) loaded.now.shared.globals) loaded es old reply new

-- `load`, also of a broken player: a value that reads as no game is refused, and only one of which something is kept may find no
-- memory
abbrev pub LoadsBy : StoryTree → Bindings → Data → List Event → State → Reply → State → Type 0
LoadsBy s h j es old reply new = Loads s h j es old reply new
    ⊎ (((g : Game) → Reads s j g → ⊥) × (es ≡ []) × OnlyRefuses (Refuses refusal.BadSave) old reply new)
    ⊎ ((load_asks j ≡ true) × (es ≡ []) × FailsAllocation old reply new)

-- what is no JSON is refused alike
abbrev pub Load : StoryTree → Bindings → List Event → Option Data → State → Reply → State → Type 0
Load s h es None old reply new = (es ≡ []) × OnlyRefuses (Refuses refusal.BadSave) old reply new
Load s h es (Some j) old reply new = LoadsBy s h j es old reply new

-- one command, with its events
abbrev pub Does : StoryTree → Bindings → List Event → Option Command → State → Reply → State → Type 0
Does s h es None old reply new = (es ≡ []) × OnlyRefuses (Refuses refusal.BadCommand) old reply new
Does s h es (Some command.Continue) old reply new = Continue s h es old reply new
Does s h es (Some command.Through) old reply new = Through s h es old reply new
Does s h es (Some (command.Set name value)) old reply new = Set h es name value old reply new
Does s h es (Some (command.Get name)) old reply new = (es ≡ []) × Get name old reply new
Does s h es (Some (command.Visits path)) old reply new = (es ≡ []) × Visits s path old reply new
Does s h es (Some (command.Choose number)) old reply new = (es ≡ []) × Choose s number old reply new
Does s h es (Some (command.Jump path)) old reply new = (es ≡ []) × Jump s path old reply new
Does s h es (Some command.Save) old reply new = (es ≡ []) × Save old reply new
Does s h es (Some (command.Load saved)) old reply new = Load s h es saved old reply new
Does s h es (Some command.Restart) old reply new = Restart s h es old reply new
Does s h es (Some (command.Flow name)) old reply new = (es ≡ []) × GoesToFlow s name old reply new
Does s h es (Some (command.Drop name)) old reply new = (es ≡ []) × DropsFlow s name old reply new

-- one line: its events, its reply, and the state after it
unfoldable pub Serves : StoryTree → Bindings → List Event → List ℕ → State → Reply → State → Type 0
Serves s h es line old reply new = Does s h es (command_of line) old reply new ⊎ ((es ≡ []) × LineFails line old reply new)

-- ---- sessions

-- These lines, one after another, have these events, are answered by these bytes, and leave this state.
abbrev pub Session : StoryTree → Bindings → List Event → List (List ℕ) → State → List ℕ → State → Type 0
Session s h es [] old written new = (es ≡ []) × (written ≡ []) × (new ≡ old)
Session s h es (line ∷ lines) old written new =
    (reply : Reply) × (mid : State) × (rest : List ℕ) × (first : List Event) × (others : List Event)
    × (es ≡ first ++ others) × Serves s h first line old reply mid × (written ≡ answer reply ++ rest) × Session s h others lines mid rest new
