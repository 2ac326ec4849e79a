-- The game of what is restored.
use Rattle.std.specs.Prelude.{⊤, List, Option, Some, None}
use Rattle.ink_flows.specs.Standing.{aside_of, flow_of}
use Rattle.ink_model.specs.Run.Configuration.{SharedOf}
use Rattle.ink_model.specs.Run.Flows.{Game}
use Rattle.ink_model.specs.Text.Output.{empty_page}
use Rattle.ink_model.specs.Story.Tree.{StoryTree}
use Rattle.ink_model.specs.declared.place.Part.{Part}
use Rattle.ink_model.specs.Save.Reads.{Stands}
use Rattle.ink_restore.specs.Building.{Builds}
use Rattle.ink_restore.specs.Counted.{counts_at}
use Rattle.ink_restore.specs.declared.restoring.Restored.{Restored}
use Rattle.ink_restore.specs.declared.restoring.SharedParts.{SharedParts}

abbrev pub shared_as : StoryTree → SharedParts → SharedOf (List Part)
shared_as s v = record { globals = v.globals.rows; counts = counts_at s v.counts.rows; turn = v.turn }

abbrev pub restored_as : StoryTree → Restored → Game
restored_as s r = record { now = record { flow = flow_of s r.flow; shared = shared_as s r.shared; page = empty_page }; aside = aside_of s r.aside }

-- what is made of a save stands for the game that it spells, which stands; where nothing is made there is no such game
abbrev pub Restores : StoryTree → Option Game → Option Restored → Type 0
Restores s None None = ⊤
Restores s None (Some r) = ⊥
Restores s (Some g) made = Builds (restored_as s) (Stands s) g made
