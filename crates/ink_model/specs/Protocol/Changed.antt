-- What a command leaves of a player's state (docs/PROTOCOL.md, "Sessions").
use Rattle.std.specs.Prelude.{◌≡◌}
use Rattle.ink_model.specs.Protocol.Answer.{Reply, Refuses}
use Rattle.ink_model.specs.Protocol.State.{State, Condition}
use Rattle.ink_model.specs.declared.fault.Refusal.TheVariants as refusal

-- what a refusal answers and leaves
abbrev pub OnlyRefuses : Reply → State → Reply → State → Type 0
OnlyRefuses refused old reply new = (reply ≡ refused) × (new ≡ old)

-- memory was refused for a command that does not run the story: nothing has changed
abbrev pub FailsAllocation : State → Reply → State → Type 0
FailsAllocation old reply new = OnlyRefuses (Refuses refusal.OutOfMemory) old reply new

abbrev pub with_condition : Condition → State → State
with_condition c st = record st { condition = c }
