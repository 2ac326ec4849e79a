-- Which commands leave the flows that stand aside as they were, and which do not look at them.
use Rattle.std.specs.Prelude.{ℕ, List, [], ◌∷◌, ◌++◌, Bool, true, false, is_some, if◌then◌else◌, Option, Some}
use Rattle.ink_model.specs.Protocol.Command as command
use Rattle.ink_model.specs.Protocol.Command.{Command}
use Rattle.ink_model.specs.Variables.Named.{Rows, at}

-- it goes to no flow, drops none and does not begin anew; a line that is no command does nothing
abbrev pub keeps_flows : Option Command → Bool
keeps_flows (Some (command.Flow name)) = false
keeps_flows (Some (command.Drop name)) = false
keeps_flows (Some (command.Load saved)) = false
keeps_flows (Some command.Restart) = false
keeps_flows k = true

-- it does not save, goes to no flow and drops none
abbrev pub shows_no_flows : Option Command → Bool
shows_no_flows (Some command.Save) = false
shows_no_flows (Some (command.Flow name)) = false
shows_no_flows (Some (command.Drop name)) = false
shows_no_flows k = true

-- these rows; where nothing stands at a name, with this as the last
abbrev pub with_last : {X : Type 0} → List ℕ → X → Rows X → Rows X
with_last name x rows = if is_some (at name rows) then rows else rows ++ (name, x) ∷ []
