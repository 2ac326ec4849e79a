-- The state of a player between commands.
use Rattle.std.specs.Prelude.{ℕ, List, Bool, false, Option, Some, None}
use Rattle.ink_model.specs.Run.Configuration.{Configuration, can_go_on}
use Rattle.ink_model.specs.Run.Flows.{Aside, Game}
use Rattle.ink_model.specs.declared.fault.Fault.{Fault}
use Rattle.ink_model.specs.declared.value.Value.{Value}

-- ready, or broken by a fault, with the globals that are left
pub data Condition : Type 0 where
  Ready : (now : Configuration) → Condition
  Broken : (fault : Fault) → (globals : List (List ℕ × Value)) → Condition

-- the flows that stand aside, also where a fault came; the stamp is that of the next event
pub record State : Type 0 where
  pub condition : Condition
  pub aside : Aside
  pub stamp : ℕ

abbrev pub is_running : Condition → Bool
is_running (Ready c) = can_go_on c
is_running (Broken f globals) = false

abbrev pub globals_of : Condition → List (List ℕ × Value)
globals_of (Ready c) = c.shared.globals
globals_of (Broken f globals) = globals

abbrev pub fault_in : Condition → Option Fault
fault_in (Ready c) = None
fault_in (Broken f globals) = Some f

-- in this game
abbrev pub in_game : Game → State → State
in_game g st = record st { condition = Ready g.now; aside = g.aside }
