-- Commands as lines spell them.
use Rattle.ink_model.specs.Protocol.Command as command
use Rattle.ink_model.specs.Protocol.Command.{Command, json_of}
use Rattle.ink_protocol.specs.declared.command.LineCommand.{LineCommand}
use Rattle.ink_protocol.specs.declared.command.LineCommand.TheVariants as line

-- the command, with its name, its path, its number or the JSON that its text spells
abbrev pub command_by : LineCommand → Command
command_by line.Continue = command.Continue
command_by line.Through = command.Through
command_by (line.Set name value) = command.Set name.now value
command_by (line.Get name) = command.Get name.now
command_by (line.Visits path) = command.Visits path.now
command_by (line.Choose number) = command.Choose number
command_by (line.Jump path) = command.Jump path.now
command_by line.Save = command.Save
command_by (line.Load json) = command.Load (json_of json.now)
command_by line.Restart = command.Restart
command_by (line.Flow name) = command.Flow name.now
command_by (line.Drop name) = command.Drop name.now
