-- Where memory is refused before a command is performed: for its line, or for the path or the JSON in it (docs/PROTOCOL.md, "Command
-- lines").
use Rattle.std.specs.Prelude.{◌≡◌, ◌⊎◌, ℕ, List, true, IsSome, Option, Some}
use Rattle.ink_model.specs.Protocol.Answer.{Reply}
use Rattle.ink_model.specs.Protocol.Changed.{FailsAllocation}
use Rattle.ink_model.specs.Protocol.Command as command
use Rattle.ink_model.specs.Protocol.Command.{Command, command_of, line_asks}
use Rattle.ink_model.specs.Protocol.State.{State, Condition, Ready, Broken}
use Rattle.ink_model.specs.Story.Path.{read_path}

-- memory is asked for a path, and a broken player reads none
abbrev pub ReadsPath : List ℕ → Condition → Type 0
ReadsPath path (Broken f globals) = ⊥
ReadsPath path (Ready c) = IsSome (read_path path)

-- memory was refused for the path that `visits` and `jump` have, or for the JSON of `load`
abbrev pub TextFails : Option Command → State → Reply → State → Type 0
TextFails (Some (command.Visits path)) old reply new = ReadsPath path old.condition × FailsAllocation old reply new
TextFails (Some (command.Jump path)) old reply new = ReadsPath path old.condition × FailsAllocation old reply new
TextFails (Some (command.Load saved)) old reply new = FailsAllocation old reply new
TextFails k old reply new = ⊥

-- memory was refused for the line, or for the path or the JSON in it
abbrev pub LineFails : List ℕ → State → Reply → State → Type 0
LineFails line old reply new = ((line_asks line ≡ true) × FailsAllocation old reply new) ⊎ TextFails (command_of line) old reply new
