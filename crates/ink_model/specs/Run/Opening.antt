-- Opening and restarting a story (docs/RUNNING.md, "Opening").
use Rattle.std.specs.Prelude.{List, [], codes, Option, Some, None, Result, Ok, Err}
use Rattle.std.specs.Option.{option_map}
use Rattle.ink_model.specs.Host.Bindings.{nothing_bound}
use Rattle.ink_model.specs.Protocol.State.{State, Ready}
use Rattle.ink_model.specs.Run.Configuration.{Configuration, fresh_at, start}
use Rattle.ink_model.specs.Run.Flows.{one_flow}
use Rattle.ink_model.specs.Run.Moments.{Moment, At, Stopped, Faulted, Waits, through}
use Rattle.ink_model.specs.Run.Place.{landed, knot}
use Rattle.ink_model.specs.Story.Tree.{StoryTree}
use Rattle.ink_model.specs.Variables.Store.{Values}
use Rattle.ink_model.specs.declared.fault.Fault.{Fault}
use Rattle.ink_model.specs.declared.fault.Fault.TheVariants.{OutOfSteps, HostRefused}
use Rattle.ink_model.specs.declared.place.Part.{Part}

-- the knot that declares globals
abbrev pub declarations : StoryTree → Option (List Part)
declarations s = knot (codes "global decl") s

-- declarations that fault: the fault, and the globals as they stood before the step that faulted
pub record Unopened : Type 0 where
  pub fault : Fault
  pub globals : Values

-- of the run of the declarations only the globals are kept; with nothing bound it stops or faults
abbrev pub opened_by : StoryTree → Moment → Result Configuration Unopened
opened_by s (Stopped c left made) = Ok (start s c.shared.globals)
opened_by s (Faulted f c left made) = Err (record { fault = f; globals = c.shared.globals })
opened_by s (At c left made) = Err (record { fault = OutOfSteps; globals = c.shared.globals })
opened_by s (Waits name made) = Err (record { fault = HostRefused; globals = [] })

-- the first configuration of the declarations' run, where there are declarations
abbrev pub declaring : StoryTree → Option Configuration
declaring s = option_map (λ p. fresh_at (landed s p)) (declarations s)

abbrev pub opened_from : StoryTree → Option Configuration → Result Configuration Unopened
opened_from s None = Ok (start s [])
opened_from s (Some c) = opened_by s (through s nothing_bound c [])

-- the configuration in which a story is opened, or the fault of its declarations
unfoldable pub opening : StoryTree → Result Configuration Unopened
opening s = opened_from s (declaring s)

-- as a story is opened: with one flow
abbrev pub opened : Configuration → State
opened c = record { condition = Ready c; aside = one_flow; stamp = 0 }
