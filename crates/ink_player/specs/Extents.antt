-- The commands that run a story, by how far they go (docs/PROTOCOL.md, "Sessions").
use Rattle.std.specs.Prelude.{List, Bool, true, false, Option, Some}
use Rattle.ink_look.specs.Extents.{EndsBy, FallsShortBy}
use Rattle.ink_look.specs.declared.passages.Extent.{Extent}
use Rattle.ink_look.specs.declared.passages.Extent.TheVariants as extent
use Rattle.ink_model.specs.Protocol.Answer.{Reply}
use Rattle.ink_model.specs.Protocol.Command as command
use Rattle.ink_model.specs.Protocol.Command.{Command}
use Rattle.ink_model.specs.Host.Bindings.{Bindings}
use Rattle.ink_model.specs.Protocol.Session.{RunsFrom, RunsTo}
use Rattle.ink_model.specs.Protocol.State.{Condition, State}
use Rattle.ink_model.specs.Story.Tree.{StoryTree}
use Rattle.ink_model.specs.declared.host.Event.{Event}
use Rattle.ink_protocol.specs.declared.command.LineCommand.{LineCommand}
use Rattle.ink_protocol.specs.declared.command.LineCommand.TheVariants as line

-- the command that goes so far, with its events: `continue`, or `through`
abbrev pub GoesFrom : Extent → StoryTree → Bindings → List Event → Condition → State → Reply → State → Type 0
GoesFrom x s h es k old reply new = RunsFrom (λ c made. RunsTo (EndsBy x s h.functions c made) (FallsShortBy x s h.functions c made) h c made) es k old reply new

abbrev pub GoesOn : Extent → StoryTree → Bindings → List Event → State → Reply → State → Type 0
GoesOn x s h es old reply new = GoesFrom x s h es old.condition old reply new

-- the command that goes so far
abbrev pub running : Extent → Command
running extent.Line = command.Continue
running extent.Stop = command.Through

-- a command that runs the story
abbrev pub is_running : Option LineCommand → Bool
is_running (Some line.Continue) = true
is_running (Some line.Through) = true
is_running command = false
