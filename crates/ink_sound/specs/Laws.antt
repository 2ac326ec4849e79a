-- The laws: a story that is opened is sound, each step and each command keeps that, and a spelling is read as what it spells.
use Rattle.std.specs.Prelude.{◌≡◌, ℕ, ◌≤◌, List, [], ◌++◌, codes, true, false, Ok, Option, Some}
use Rattle.std.specs.Str.{is_utf8}
use Rattle.ink_model.specs.Story.Acceptance.{accepted_story, bad_places}
use Rattle.ink_model.specs.Protocol.Answer.{Reply, Saves, answer}
use Rattle.ink_model.specs.Run.Configuration.{Configuration, FlowOf, can_go_on, settled}
use Rattle.ink_model.specs.Run.Flows.{Aside, FlowsOf, Game, all_flows, begins_with_default, current_name, dropped, goes_to, holes}
use Rattle.ink_model.specs.Story.Grammar.{IsSpelled}
use Rattle.ink_model.specs.Host.Bindings.{Bindings, Bound}
use Rattle.ink_model.specs.Run.Line.{Line}
use Rattle.ink_model.specs.Variables.Named.{without}
use Rattle.ink_model.specs.Run.Opening.{opened, opening}
use Rattle.ink_model.specs.Run.Moments.{Made, At, moment}
use Rattle.ink_model.specs.Protocol.Session.{Does, Session}
use Rattle.ink_model.specs.Protocol.State.{Ready, State}
use Rattle.ink_model.specs.Run.Step.{step}
use Rattle.ink_model.specs.Story.Tree.{StoryTree}
use Rattle.ink_model.specs.Protocol.Command.{Command, Load, command_of, json_of}
use Rattle.ink_model.specs.declared.host.Event.{Event}
use Rattle.ink_model.specs.declared.host.Given.{Given}
use Rattle.ink_model.specs.declared.place.Part.{Part}
use Rattle.ink_sound.specs.Beside.{keeps_flows, shows_no_flows, with_last}
use Rattle.ink_sound.specs.Kept.{AsideSound, MomentFits, StateFits, SteppedFits, StoryFits}
use Rattle.ink_model.specs.Save.Reads.{Reads, Rests, Stands}
use Rattle.ink_model.specs.Save.Sound.{Sound}
use Rattle.ink_model.specs.Save.Spelling.{spelling}
use Rattle.ink_model.specs.Save.Unspelled.{unspelled}
use Rattle.serde_json.specs.Data.{Data, depth}
use Rattle.serde_json.specs.Written.{compact_text, has_float}

-- ---- stories

-- an accepted story has what is asked of it
abbrev pub AcceptedFit : Type 0
AcceptedFit = (bytes : List ℕ) (s : StoryTree) → accepted_story bytes ≡ Ok s → StoryFits s

-- what the type of an accepted story says of it is enough
abbrev pub SpelledFit : Type 0
SpelledFit = (s : StoryTree) → IsSpelled s → bad_places s ≡ [] → StoryFits s

-- ---- steps, commands and sessions

-- a step of a sound configuration leads to a sound one
abbrev pub StepsFit : Type 0
StepsFit = (s : StoryTree) → StoryFits s → (b : Bound) (c : Configuration) → Sound s c → SteppedFits s (step s b c)

-- each moment of a run from a sound configuration is sound
abbrev pub MomentsFit : Type 0
MomentsFit = (s : StoryTree) → StoryFits s → (b : Bound) (c : Configuration) → Sound s c
    → (answers : List (Option Given)) (n : ℕ) → MomentFits s (moment s b c answers n)

-- a line that was cut is kept in a sound configuration, from which flow goes on: its passage has `more`
abbrev pub CutsFit : Type 0
CutsFit = (s : StoryTree) → StoryFits s → (b : Bound) (c : Configuration) → Sound s c
    → (answers left : List (Option Given)) (made : List Made) (d : Configuration) → Line s b c answers (At d left made) → Sound s d × (can_go_on d ≡ true)

-- what is settled is as sound as before, and at rest
abbrev pub SettlingFits : Type 0
SettlingFits = (s : StoryTree) (c : Configuration) → Sound s c → Sound s (settled c) × Rests (settled c)

-- a story is opened in a sound state
abbrev pub OpeningsFit : Type 0
OpeningsFit = (s : StoryTree) → StoryFits s → (c : Configuration) → opening s ≡ Ok c → StateFits s (opened c)

-- each command leads from sound states to sound states
abbrev pub CommandsFit : Type 0
CommandsFit = (s : StoryTree) → StoryFits s → (h : Bindings) (es : List Event) (command : Option Command) (old : State) (reply : Reply) (new : State)
    → Does s h es command old reply new → StateFits s old → StateFits s new

-- a session of an accepted story leads from its opening to sound states
abbrev pub SessionsFit : Type 0
SessionsFit = (bytes : List ℕ) (s : StoryTree) → accepted_story bytes ≡ Ok s → (c : Configuration) → opening s ≡ Ok c
    → (h : Bindings) (es : List Event) (lines : List (List ℕ)) (written : List ℕ) (new : State) → Session s h es lines (opened c) written new → StateFits s new

-- ---- flows

-- a command that does not go to a flow, drop one or begin anew leaves those that stand aside as they were, also where it faults
abbrev pub FlowsStay : Type 0
FlowsStay = (s : StoryTree) (h : Bindings) (es : List Event) (command : Option Command) (old : State) (reply : Reply) (new : State)
    → Does s h es command old reply new → keeps_flows command ≡ true → new.aside ≡ old.aside

-- going to a flow keeps all flows as they are, with a new one as the last where there was none of that name; and that one is current
abbrev pub GoingKeepsFlows : Type 0
GoingKeepsFlows = (fresh : FlowOf (List Part)) (name : List ℕ) (before : FlowsOf (FlowOf (List Part))) → holes before.aside ≡ 1 → let after = goes_to fresh name before in
    (all_flows after.current after.aside ≡ with_last name fresh (all_flows before.current before.aside)) × (current_name after.aside ≡ name)

-- taking a flow away keeps all others as they are
abbrev pub DroppingKeepsOthers : Type 0
DroppingKeepsOthers = (fresh : FlowOf (List Part)) (name : List ℕ) (before : FlowsOf (FlowOf (List Part))) → holes before.aside ≡ 1 → begins_with_default before.aside ≡ true
    → let after = dropped fresh name before in all_flows after.current after.aside ≡ without name (all_flows before.current before.aside)

-- A command that does not save, go to a flow or drop one does the same whatever flows stand aside: so what has happened in those, and
-- which there are, is told by no answer, and changes nothing in the current one or in what all share.
abbrev pub OtherFlowsDoNotShow : Type 0
OtherFlowsDoNotShow = (s : StoryTree) (h : Bindings) (es : List Event) (command : Option Command) (old : State) (reply : Reply) (new : State)
    → Does s h es command old reply new → shows_no_flows command ≡ true → (others : Aside)
    → (after : State) × Does s h es command (record old { aside = others }) reply after × (after.condition ≡ new.condition) × (after.stamp ≡ new.stamp)

-- ---- spelling and reading

-- a JSON value reads as one game at most
abbrev pub OneSpelling : Type 0
OneSpelling = (s : StoryTree) → StoryFits s → (j : Data) (g k : Game) → Reads s j g → Reads s j k → g ≡ k

-- a JSON value spells a game in one of the layouts, and that is sound, exactly where it reads as that one
abbrev pub ReadsExactly : Type 0
ReadsExactly = (s : StoryTree) → StoryFits s → (j : Data) (g : Game)
    → (Reads s j g → unspelled j ≡ Some g) × (unspelled j ≡ Some g → Sound s g.now → AsideSound s g.aside → Reads s j g)

-- a spelling nests at most so deep, so that its text is read back
abbrev pub SpellsFlat : Type 0
SpellsFlat = (g : Game) → depth (spelling g) ≤ 10

-- a spelling has no float, so that its compact text is known
abbrev pub SpellsPlain : Type 0
SpellsPlain = (g : Game) → has_float (spelling g) ≡ false

-- the compact text of a game's spelling is read back as that spelling, where the game is sound and at rest
abbrev pub TextsReadBack : Type 0
TextsReadBack = (s : StoryTree) → StoryFits s → (g : Game) → Stands s g → json_of (compact_text (spelling g)) ≡ Some (spelling g)

-- So `save` answers that text within its braces; and a line that loads it, where it is text, is read as the command that loads the spelling.
abbrev pub LinesReload : Type 0
LinesReload = (s : StoryTree) → StoryFits s → (g : Game) → Stands s g → let text = compact_text (spelling g) in let line = codes "load " ++ text in
    (answer (Saves (spelling g)) ≡ codes "{\"saved\":" ++ (text ++ codes "}\n")) × (is_utf8 line ≡ true → command_of line ≡ Some (Load (Some (spelling g))))

-- what a session comes to is read from its spelling
abbrev pub SessionsReload : Type 0
SessionsReload = (bytes : List ℕ) (s : StoryTree) → accepted_story bytes ≡ Ok s → (c : Configuration) → opening s ≡ Ok c
    → (h : Bindings) (es : List Event) (lines : List (List ℕ)) (written : List ℕ) (new : State) → Session s h es lines (opened c) written new
    → (d : Configuration) → new.condition ≡ Ready d → let g : Game = record { now = d; aside = new.aside } in Reads s (spelling g) g × (unspelled (spelling g) ≡ Some g)
