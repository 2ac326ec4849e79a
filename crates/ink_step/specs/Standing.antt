-- What a machine stands for.
use Rattle.std.specs.Prelude.{List}
pub use Rattle.ink_effects.specs.Standing.{Rest, counts_in, rest_in, rows_below, rows_in, seen_by}
pub use Rattle.ink_flows.specs.Standing.{aside_of, flow_of}
use Rattle.ink_flows.specs.declared.flow.Flow.{Flow}
use Rattle.ink_model.specs.Run.Configuration.{Configuration, SharedOf}
use Rattle.ink_model.specs.Run.Flows.{AsideOf, Game}
use Rattle.ink_model.specs.Variables.Store.{Values}
use Rattle.ink_model.specs.Story.Tree.{StoryTree}
use Rattle.ink_model.specs.declared.place.Part.{Part}
use Rattle.ink_step.specs.declared.machine.Machine.{Machine}
use Rattle.ink_effects.specs.declared.shared.Shared.{Shared}

-- what flows share, over the places that its numbers stand for
abbrev pub shared_of : StoryTree → Shared → SharedOf (List Part)
shared_of s v = record { globals = v.globals.rows; counts = counts_in s v.counts.rows; turn = v.turn }

-- the configuration of a machine
abbrev pub config_of : StoryTree → Machine → Configuration
config_of s m = record { flow = flow_of s m.flow; shared = shared_of s m.shared; page = m.output.page }

abbrev pub globals_of : Machine → Values
globals_of m = m.shared.globals.rows

-- the globals as they were at the moment that was begun last
abbrev pub start_of : Machine → Values
start_of m = m.shared.globals.start

-- the flows that stand aside
abbrev pub aside_in : Machine → AsideOf Flow
aside_in m = m.aside

-- a machine's configuration, and the flows that stand aside
abbrev pub game_of : StoryTree → Machine → Game
game_of s m = record { now = config_of s m; aside = aside_of s m.aside }
