-- How running commands end, and what they hand out there.
use Rattle.std.specs.Prelude.{◌≡◌, Bool, false, Result, Ok, Err}
use Rattle.ink_model.specs.Run.Configuration.{Configuration, settled}
use Rattle.ink_model.specs.Memory.Refusals.{ByRule, LacksMemory}
use Rattle.ink_model.specs.Run.Moments.{Broke, Kept, RunEnd}
use Rattle.ink_model.specs.Variables.Store.{Values}
use Rattle.ink_model.specs.declared.fault.Fault.{Fault}

-- the configuration that is kept, or the fault
abbrev pub end_result : RunEnd → Result Configuration Fault
end_result (Kept c) = Ok c
end_result (Broke f globals) = Err f

-- the globals that stay where nothing is handed out
abbrev pub end_globals : RunEnd → Values
end_globals (Kept c) = c.shared.globals
end_globals (Broke f globals) = globals

-- what is handed out of the configuration that is kept, and which of them ask for memory for it
module _ {A : Type 0} (hands : Configuration → A) (asks : Configuration → Bool) where
  abbrev pub handing_asks : RunEnd → Bool
  handing_asks (Kept c) = asks c
  handing_asks (Broke f globals) = false

  -- What a running command hands out and leaves, by how its run ends. Where memory is refused for what it hands out, the globals
  -- stay.
  abbrev pub EndsWith : RunEnd → Configuration → Result A Fault → Type 0
  EndsWith end new result = ByRule (LacksMemory (handing_asks end)) (λ c handed. (handed ≡ hands c) × (new ≡ settled c))
      (λ why. why × (new.shared.globals ≡ end_globals end)) (end_result end) result
