use Rattle.std.proofs.Common.{refl}
use Rattle.serde_json.proofs.OnLiterals.{serde_json_on_literals}
use Rattle.ink_model.specs.Protocol.Answer.{answer}
use Rattle.ink_protocol.proofs.fixed.fault_text.Goals as goal

pub returns-in-BadOperands : goal.returns-in-BadOperands
unfolding answer serde_json_on_literals
returns-in-BadOperands c = rw c.in-BadOperands.is refl

pub returns-in-UnsafeInString : goal.returns-in-UnsafeInString
unfolding answer serde_json_on_literals
returns-in-UnsafeInString c = rw c.in-UnsafeInString.is refl

pub returns-in-HostRefused : goal.returns-in-HostRefused
unfolding answer serde_json_on_literals
returns-in-HostRefused c = rw c.in-HostRefused.is refl

pub returns-in-StopInString : goal.returns-in-StopInString
unfolding answer serde_json_on_literals
returns-in-StopInString c = rw c.in-StopInString.is refl

pub returns-in-OutOfMemory : goal.returns-in-OutOfMemory
unfolding answer serde_json_on_literals
returns-in-OutOfMemory c = rw c.in-OutOfMemory.is refl
