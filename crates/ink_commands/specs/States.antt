-- The state of a player whose machine this is.
use Rattle.std.specs.Prelude.{ℕ, Option, Some, None}
use Rattle.ink_model.specs.Run.Configuration.{Configuration}
use Rattle.ink_model.specs.Run.Flows.{Aside}
use Rattle.ink_model.specs.Protocol.State.{State, Condition, Ready, Broken}
use Rattle.ink_model.specs.Story.Tree.{StoryTree}
use Rattle.ink_model.specs.declared.fault.Fault.{Fault}
use Rattle.ink_step.specs.Standing.{aside_in, aside_of, config_of}
use Rattle.ink_step.specs.declared.machine.Machine.{Machine}

-- ready, unless a fault broke it
abbrev pub condition_by : Option Fault → Configuration → Condition
condition_by None c = Ready c
condition_by (Some f) c = Broken f c.shared.globals

abbrev pub at_stamp : Condition → Aside → ℕ → State
at_stamp c a n = record { condition = c; aside = a; stamp = n }

-- with the stamp of its next event
abbrev pub state_in : StoryTree → Option Fault → Machine → ℕ → State
state_in s b m n = at_stamp (condition_by b (config_of s m)) (aside_of s (aside_in m)) n
