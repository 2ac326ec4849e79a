-- What a JSON value is read as.
use Rattle.std.specs.Prelude.{◌≡◌, ◌⊎◌, ⊤, ℕ, List, true, Result, Ok, Err, Option, Some, None}
use Rattle.serde_json.specs.Data.{Data}
use Rattle.ink_model.specs.Text.Bytes.{is_filled}
use Rattle.ink_model.specs.Protocol.Command.{json_of}
use Rattle.ink_model.specs.Run.Flows.{Game}
use Rattle.ink_model.specs.Save.Asks.{load_asks}
use Rattle.ink_model.specs.Save.Reads.{Reads, Stands}
use Rattle.ink_model.specs.Story.Tree.{StoryTree}
use Rattle.ink_restore.specs.Building.{Builds}
use Rattle.ink_save.specs.declared.loading.SaveRefusal.{SaveRefusal}
use Rattle.ink_save.specs.declared.loading.SaveRefusal.TheVariants as refusal
use Rattle.ink_step.specs.Standing.{game_of}
use Rattle.ink_step.specs.declared.machine.Machine.{Machine}

-- a machine whose game it spells; or there is none, or memory was refused, which only a value asks for of which something is kept
abbrev pub ReadsAs : StoryTree → Data → Result Machine SaveRefusal → Type 0
ReadsAs s j (Ok m) = Reads s j (game_of s m)
ReadsAs s j (Err refusal.BadSave) = (g : Game) → Reads s j g → ⊥
ReadsAs s j (Err refusal.OutOfMemory) = load_asks j ≡ true

-- the JSON that a text spells is read as that; or it spells none; or memory was refused for it, and it is not empty
abbrev pub ReadsText : StoryTree → List ℕ → Result Machine SaveRefusal → Type 0
ReadsText s text result = ((j : Data) × (json_of text ≡ Some j) × ReadsAs s j result)
    ⊎ (((json_of text ≡ None) × (result ≡ Err refusal.BadSave)) ⊎ ((is_filled text ≡ true) × (result ≡ Err refusal.OutOfMemory)))

-- the machine of what was spelled, if that stands
abbrev pub Finds : StoryTree → Option Game → Option Machine → Type 0
Finds s None None = ⊤
Finds s None (Some m) = ⊥
Finds s (Some g) made = Builds (game_of s) (Stands s) g made
