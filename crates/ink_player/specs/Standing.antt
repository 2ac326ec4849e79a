-- What a player stands for, and what happens between it and the objects of its host.
use Rattle.std.specs.Prelude.{◌≡◌, ◌⊎◌, ℕ, List, [], ◌∷◌, ◌++◌, Bool, true, false, Option, None, Some, is_ok}
use Rattle.ink_check.specs.Standing.{story_tree}
use Rattle.ink_check.specs.declared.story.Story.{Story}
use Rattle.ink_host.specs.Desk.{DeskView, Grew, Rows, bound_by, each, watches}
use Rattle.ink_host.specs.Telling.{IsRound, Watching, log_of}
use Rattle.ink_host.specs.declared.objects.Called.{Called}
use Rattle.ink_model.specs.Protocol.Answer.{Reply, Tells, Acts, Breaks}
use Rattle.ink_model.specs.Protocol.Command as command
use Rattle.ink_model.specs.Protocol.Command.{Command}
use Rattle.ink_model.specs.Host.Events.{Made, calls, later}
use Rattle.ink_model.specs.Run.Flows.{Aside}
use Rattle.ink_model.specs.Host.Bindings.{Bindings, value_given}
use Rattle.ink_model.specs.Run.Opening.{opening}
use Rattle.ink_model.specs.Save.Sound.{AsideFits}
use Rattle.ink_model.specs.Protocol.State.{State, globals_of}
use Rattle.ink_model.specs.Variables.Store.{Values}
use Rattle.ink_model.specs.Host.Told.{ToldAs, told}
use Rattle.ink_model.specs.Story.Tree.{StoryTree}
use Rattle.ink_model.specs.declared.fault.Fault.{Fault}
use Rattle.ink_model.specs.declared.fault.Fault.TheVariants.{OutOfMemory}
use Rattle.ink_model.specs.declared.host.Change.{Change}
use Rattle.ink_model.specs.declared.host.Event.{Event}
use Rattle.ink_model.specs.declared.host.Given.{Given}
use Rattle.ink_model.specs.declared.value.Value.{Value}
use Rattle.ink_sound.specs.Kept.{ConditionFits, StoryFits}
use Rattle.ink_step.specs.Marks.{stood_of, unmarked}
pub use Rattle.ink_commands.specs.States.{condition_by}
use Rattle.ink_effects.specs.Refusals.{KeepsRefusals, StopsAtRefusal}
use Rattle.ink_step.specs.Standing.{aside_in, aside_of, config_of}
use Rattle.ink_step.specs.declared.machine.Machine.{Machine}

-- What is seen of a player: its story, the desk, where the story stands, and the fault that broke it, if one did.
pub record PlayerView (P F O : Type 0) : Type 0 where
  pub story : Story
  pub desk : DeskView P F O
  pub machine : Machine
  pub broken : Option Fault

-- What is seen of it between commands: where its story stands, and the desk.
pub record Scene (P F O : Type 0) : Type 0 where
  pub state : State
  pub desk : DeskView P F O

-- there is none
abbrev pub is_empty : {X : Type 0} → List X → Bool
is_empty [] = true
is_empty (x ∷ xs) = false

-- the fault that breaks a player once watchers were told, all of them or not
abbrev pub fault_told : Bool → Option Fault → Option Fault
fault_told true broken = broken
fault_told false broken = Some OutOfMemory

-- A player between calls: every event was taken, its story is as the laws of saves ask and opens without a fault, no mark stands in
-- its machine, the flows that are not current are sound and at rest, and so is where it stands, unless a fault broke it.
pub record Stands (s : StoryTree) (events : List Event) (broken : Option Fault) (m : Machine) : Type 0 where
  pub taken : is_empty events ≡ true
  pub story : StoryFits s
  pub opens : is_ok (opening s) ≡ true
  pub unmarked : stood_of m ≡ unmarked
  pub fits : ConditionFits s (condition_by broken (config_of s m))
  pub aside : AsideFits s (aside_of s (aside_in m))

-- Whether all watchers found memory, by the answer of a command that told them; nothing where that says that it told nobody.
abbrev pub all_told : Reply → Option Bool
all_told (Tells passage) = Some true
all_told (Acts events) = Some true
all_told (Breaks OutOfMemory events) = Some false
all_told reply = None

-- One round (`round` of ink_host's Telling.antt) told the watchers these changes, each once, with stamps from n on, and these events
-- came of it; all: no watcher was without memory. Or nothing was done to them.
abbrev pub TellsOnce : {O : Type 0} → (O → Watching) → ℕ → List Change → Option Bool → List Event → Rows O → Rows O → Type 0
TellsOnce state n cs (Some all) saw old new = (t : ToldAs n cs all saw) × IsRound state n cs cs t.answers old new
TellsOnce state n cs None saw old new = (saw ≡ []) × (each (λ m w. state w) new ≡ each (λ m w. state w) old)

module _ {P F O : Type 0} where
  abbrev pub story_of : PlayerView P F O → StoryTree
  story_of p = story_tree p.story

  abbrev pub desk_of : PlayerView P F O → DeskView P F O
  desk_of p = p.desk

  abbrev pub aside_seen : PlayerView P F O → Aside
  aside_seen p = aside_of (story_of p) (aside_in p.machine)

  abbrev pub state_of : PlayerView P F O → State
  state_of p = record { condition = condition_by p.broken (config_of (story_of p) p.machine); aside = aside_seen p; stamp = p.desk.next }

  abbrev pub scene_of : PlayerView P F O → Scene P F O
  scene_of p = record { state = state_of p; desk = desk_of p }

  -- what the names on a desk are bound to, by what its pure functions mean, and which are watched
  abbrev pub bindings : (P → List Value → Option Given) → DeskView P F O → Bindings
  bindings meaning d = record { functions = bound_by meaning d.functions; watches = watches d.watchers }

  -- as a player is opened with a desk: there is no event yet
  abbrev pub anew : DeskView P F O → DeskView P F O
  anew d = record d { events = []; next = 0 }

  -- what is told where globals were those of a state, and are these now
  abbrev pub told_from : DeskView P F O → State → Values → List Change
  told_from d s now = told (watches d.watchers) (globals_of s.condition) now

  -- Just these events happened to the objects on a desk by one command that runs nothing, and those were taken. By its answer there
  -- was one round, which told all these changes, to watchers of which all found memory, or not all; or nothing was done to them.
  abbrev pub DeliveredOnce : (F → List Called) → (O → Watching) → List Change → DeskView P F O → List Event → Reply → DeskView P F O → Type 0
  DeliveredOnce turn_log state cs old es reply new = Grew turn_log (log_of state) old es (record new { events = old.events ++ es })
      × TellsOnce state old.next cs (all_told reply) es old.watchers new.watchers

  -- The same of a command that runs: its calls were made first. Where it found no memory itself, nothing was done to watchers.
  pub record DeliveredByRun (turn_log : F → List Called) (state : O → Watching) (cs : List Change) (old : DeskView P F O) (es : List Event) (reply : Reply) (new : DeskView P F O) : Type 0 where
    pub grew : Grew turn_log (log_of state) old es (record new { events = old.events ++ es })
    pub made : List Made
    pub saw : List Event
    pub events : es ≡ calls old.next made ++ saw
    pub tells : let n = later old.next (calls old.next made) in TellsOnce state n cs (all_told reply) saw old.watchers new.watchers
        ⊎ ((reply ≡ Breaks OutOfMemory es) × TellsOnce state n cs None saw old.watchers new.watchers)

  -- A command that runs breaks the player with OutOfMemory where a turn function was refused memory: one at the most was, and once.
  abbrev pub CommandStopsAtRefusal : (F → ℕ) → DeskView P F O → DeskView P F O → Reply → Type 0
  CommandStopsAtRefusal refusals old new (Breaks f events) = StopsAtRefusal refusals old new (f ≡ OutOfMemory)
  CommandStopsAtRefusal refusals old new reply = KeepsRefusals refusals old new

  -- what is told of all globals, where they have other values after a command, or were not there before it
  abbrev pub changed : Scene P F O → Scene P F O → List Change
  changed old new = told_from old.desk old.state (globals_of new.state.condition)

  -- What one command did to the objects on a desk, with these events, as the calls of a player say it of themselves. A command that
  -- neither runs nor may change a global leaves the desk alone.
  abbrev pub DeliveredBy : (F → List Called) → (O → Watching) → Option Command → Scene P F O → List Event → Reply → Scene P F O → Type 0
  DeliveredBy turn_log state (Some command.Continue) old es reply new = DeliveredByRun turn_log state (changed old new) old.desk es reply new.desk
  DeliveredBy turn_log state (Some command.Through) old es reply new = DeliveredByRun turn_log state (changed old new) old.desk es reply new.desk
  DeliveredBy turn_log state (Some (command.Set name (Some value))) old es reply new = DeliveredOnce turn_log state (told_from old.desk old.state ((name, value_given value) ∷ [])) old.desk es reply new.desk
  DeliveredBy turn_log state (Some (command.Load saved)) old es reply new = DeliveredOnce turn_log state (changed old new) old.desk es reply new.desk
  DeliveredBy turn_log state (Some command.Restart) old es reply new = DeliveredOnce turn_log state (changed old new) old.desk es reply new.desk
  DeliveredBy turn_log state k old es reply new = (es ≡ []) × (new.desk ≡ old.desk)

  -- The same; and one turn function at the most was refused memory, once, and then the command broke the player with OutOfMemory.
  abbrev pub DeliveredOf : (F → List Called) → (F → ℕ) → (O → Watching) → Option Command → Scene P F O → List Event → Reply → Scene P F O → Type 0
  DeliveredOf turn_log refusals state k old es reply new = DeliveredBy turn_log state k old es reply new × CommandStopsAtRefusal refusals old.desk new.desk reply
