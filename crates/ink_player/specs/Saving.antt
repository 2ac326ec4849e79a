-- What a machine is saved as, and what a save is loaded as (docs/SAVES.md).
use Rattle.std.specs.Prelude.{◌≡◌, ℕ, List, Result, Ok, Err}
use Rattle.serde_json.specs.Data.{Data}
use Rattle.serde_json.specs.View.{view}
use Rattle.serde_json.specs.Written.{compact_text}
use Rattle.serde_json.specs.declared.value.Value.{Value}
use Rattle.ink_model.specs.Protocol.Answer.{Reply, Acts, Breaks, Refuses}
use Rattle.ink_model.specs.Run.Configuration.{Configuration}
use Rattle.ink_model.specs.Run.Flows.{Game, one_flow}
use Rattle.ink_model.specs.Save.Reads.{Reads}
use Rattle.ink_model.specs.Save.Spelling.{old_spelling, spelling}
use Rattle.ink_model.specs.Protocol.State.{State, Ready, Broken}
use Rattle.ink_model.specs.Story.Tree.{StoryTree}
use Rattle.ink_model.specs.declared.fault.Fault.TheVariants as fault
use Rattle.ink_model.specs.declared.fault.Refusal.{Refusal}
use Rattle.ink_model.specs.declared.fault.Refusal.TheVariants as refusal
use Rattle.ink_save.specs.Loads.{ReadsAs, ReadsText}
use Rattle.ink_save.specs.declared.loading.SaveRefusal.{SaveRefusal}
use Rattle.ink_save.specs.declared.loading.SaveRefusal.TheVariants as save
use Rattle.ink_step.specs.declared.machine.Machine.{Machine}

-- the value that a game is spelled as; or memory was refused
abbrev pub IsSave : Game → Result Value Refusal → Type 0
IsSave g (Ok json) = view json ≡ spelling g
IsSave g (Err r) = r ≡ refusal.OutOfMemory

-- the compact text of that value; or memory was refused
abbrev pub IsSaveText : Game → Result (List ℕ) Refusal → Type 0
IsSaveText g (Ok text) = text ≡ compact_text (spelling g)
IsSaveText g (Err r) = r ≡ refusal.OutOfMemory

-- why no machine was read, among the refusals of all commands
abbrev pub save_refusal : SaveRefusal → Refusal
save_refusal save.BadSave = refusal.BadSave
save_refusal save.OutOfMemory = refusal.OutOfMemory

-- the machine that is read so; or that refusal
abbrev pub FindsMachine : (Result Machine SaveRefusal → Type 0) → Result Machine Refusal → Type 0
FindsMachine reads (Ok m) = reads (Ok m)
FindsMachine reads (Err r) = (why : SaveRefusal) × (r ≡ save_refusal why) × reads (Err why)

-- the machine of a value
abbrev pub FindsSave : StoryTree → Data → Result Machine Refusal → Type 0
FindsSave s j result = FindsMachine (ReadsAs s j) result

-- the machine of a text
abbrev pub FindsText : StoryTree → List ℕ → Result Machine Refusal → Type 0
FindsText s text result = FindsMachine (ReadsText s text) result

-- a player is ready in this game
abbrev pub StandsIn : Game → State → Type 0
StandsIn g st = (st.condition ≡ Ready g.now) × (st.aside ≡ g.aside)

-- a player in this state stands where the value says: it is ready, with the game as which the value reads
abbrev pub ReadsAsState : StoryTree → Data → State → Type 0
ReadsAsState s j st = (g : Game) × StandsIn g st × Reads s j g

-- a value in layout 1, which only a player with one flow reads as where it stands
abbrev pub IsOldSave : Data → State → Type 0
IsOldSave j st = (c : Configuration) × (st.condition ≡ Ready c) × (j ≡ old_spelling c) × (st.aside ≡ one_flow)

-- What comes of loading a value that reads as a game: that one is there, and broken where a watcher found no memory; or memory
-- was refused.
abbrev pub LoadsAs : Game → Reply → State → Type 0
LoadsAs g (Acts events) new = StandsIn g new
LoadsAs g (Breaks f events) new = (f ≡ fault.OutOfMemory) × (new.condition ≡ Broken fault.OutOfMemory g.now.shared.globals) × (new.aside ≡ g.aside)
LoadsAs g (Refuses r) new = r ≡ refusal.OutOfMemory
LoadsAs g reply new = ⊥
