-- What a call of a source or a sink counts as a failure or as the end, whose failure ended a session, and what was written then.
use Rattle.std.specs.Prelude.{◌≡◌, ◌<◌, ◌+◌, ◌%◌, ◌^◌, ℕ, List, ◌++◌, length, codes, Bool, true, false, ◌==◌, ◌&&◌, Option, Result, Ok, Err}
use Rattle.std.specs.Io.KnownBytes.{Appends}
use Rattle.ink_model.specs.Text.Bytes.{is_filled}
use Rattle.ink_protocol.specs.declared.fault.RunFault.{RunFault}
use Rattle.ink_protocol.specs.declared.fault.RunFault.TheVariants as fault

-- ---- failures

-- one more, as a counter of 64 bits counts
abbrev pub counted : ℕ → ℕ
counted n = (n + 1) % 2 ^ 64

-- so many there are, after a call that is one more or is not
abbrev pub after_call : Bool → ℕ → ℕ
after_call true n = counted n
after_call false n = n

-- a write failed, or took no byte though there was one
abbrev pub takes_nothing : {E : Type 0} → Result ℕ E → List ℕ → Bool
takes_nothing (Ok n) bytes = n == 0 && is_filled bytes
takes_nothing (Err e) bytes = true

-- a read gave no byte
abbrev pub gives_nothing : {E : Type 0} → Result ℕ E → Bool
gives_nothing (Ok n) = n == 0
gives_nothing (Err e) = false

-- A source or a sink after a call: one failure more where the call says so, else as many, and it is the same one.
abbrev pub Reports : Bool → ℕ → ℕ → ℕ → ℕ → Type 0
Reports fails had has name name' = (has ≡ after_call fails had) × (name' ≡ name)

-- ---- what was written

-- A front of the bytes was written, with something left behind it.
pub record Falls (old new : Option (List ℕ)) (bytes : List ℕ) : Type 0 where
  pub part : List ℕ
  pub left : List ℕ
  pub whole : bytes ≡ part ++ left
  pub some_left : 0 < length left
  pub appended : Appends old new part

-- all was written; or, where the sink failed, a front
abbrev pub WritesAll : {T E : Type 0} → Option (List ℕ) → Option (List ℕ) → List ℕ → Result T E → Type 0
WritesAll old new bytes (Ok x) = Appends old new bytes
WritesAll old new bytes (Err e) = Falls old new bytes

-- the text of an answer is written whole, or a front of it
abbrev pub WritesText : Option (List ℕ) → Option (List ℕ) → List ℕ → Result (Unit {0}) RunFault → Type 0
WritesText held held' text (Ok x) = Appends held held' text
WritesText held held' text (Err fault.Read) = ⊥
WritesText held held' text (Err fault.Write) = Falls held held' text
WritesText held held' text (Err fault.TooLong) = ⊥
WritesText held held' text (Err fault.OutOfMemory) = ⊥

-- ---- whose failure ended a session

abbrev pub is_read : RunFault → Bool
is_read fault.Read = true
is_read f = false

abbrev pub is_write : RunFault → Bool
is_write fault.Write = true
is_write f = false

abbrev pub reads_fail : {T : Type 0} → Result T RunFault → Bool
reads_fail (Ok x) = false
reads_fail (Err f) = is_read f

abbrev pub writes_fail : {T : Type 0} → Result T RunFault → Bool
writes_fail (Ok x) = false
writes_fail (Err f) = is_write f

-- why a session ended early, as the program prints it
abbrev pub run_fault_name : RunFault → List ℕ
run_fault_name fault.Read = codes "Read"
run_fault_name fault.Write = codes "Write"
run_fault_name fault.TooLong = codes "TooLong"
run_fault_name fault.OutOfMemory = codes "OutOfMemory"
