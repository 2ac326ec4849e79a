-- What comes of loading a text (docs/SAVES.md).
use Rattle.std.specs.Prelude.{◌≡◌, ◌⊎◌, ℕ, List, [], true, Some}
use Rattle.serde_json.specs.Data.{Data}
use Rattle.ink_model.specs.Protocol.Answer.{Reply}
use Rattle.ink_model.specs.Text.Bytes.{is_filled}
use Rattle.ink_model.specs.Protocol.Changed.{FailsAllocation}
use Rattle.ink_model.specs.Protocol.Command.{json_of}
use Rattle.ink_model.specs.Run.Flows.{Game}
use Rattle.ink_model.specs.Host.Bindings.{Bindings}
use Rattle.ink_model.specs.Save.Reads.{Reads}
use Rattle.ink_model.specs.Protocol.Session.{Load}
use Rattle.ink_model.specs.Protocol.State.{State}
use Rattle.ink_model.specs.Story.Tree.{StoryTree}
use Rattle.ink_model.specs.declared.host.Event.{Event}
use Rattle.ink_player.specs.Saving.{ReadsAsState}

-- The JSON that a text spells is loaded, or refused where it spells none; or memory was refused to read it, and it is not empty.
abbrev pub LoadsText : StoryTree → Bindings → List Event → List ℕ → State → Reply → State → Type 0
LoadsText s h es text old reply new = Load s h es (json_of text) old reply new
    ⊎ ((is_filled text ≡ true) × (es ≡ []) × FailsAllocation old reply new)

-- a text spells JSON that reads as this game
abbrev pub TextReads : StoryTree → List ℕ → Game → Type 0
TextReads s text g = (j : Data) × (json_of text ≡ Some j) × Reads s j g

-- and as where a player stands that is in this state
abbrev pub TextReadsAsState : StoryTree → List ℕ → State → Type 0
TextReadsAsState s text st = (j : Data) × (json_of text ≡ Some j) × ReadsAsState s j st
