-- Whose failure ended a session or a play, and how often its source was at its end.
use Rattle.std.specs.Prelude.{◌≡◌, ◌≤◌, ◌⊎◌, ℕ, List, length, Bool, true, false, Option, Result, Ok, Err}
use Rattle.std.specs.Io.KnownBytes.{Consumes, IsAtEnd}
use Rattle.ink_host.specs.Desk.{DeskView}
use Rattle.ink_model.specs.Text.Bytes.{has_newline}
use Rattle.ink_model.specs.declared.limits.TheConstants.{MAX_STORY}
use Rattle.ink_player.specs.Playing.{OpenFails}
use Rattle.ink_player.specs.declared.end.PlayEnd.{PlayEnd}
use Rattle.ink_player.specs.declared.end.PlayFault.{PlayFault}
use Rattle.ink_player.specs.declared.end.PlayFault.TheVariants as play
use Rattle.ink_player.specs.declared.session.Served.{Served}
use Rattle.ink_player.specs.declared.session.Served.TheVariants.{More, Done}
use Rattle.ink_protocol.specs.Ends.{after_call, is_read, is_write}
use Rattle.ink_protocol.specs.declared.fault.RunFault.{RunFault}
use Rattle.ink_protocol.specs.declared.fault.RunFault.TheVariants as fault

-- a test of what ended the session, where a session did
abbrev pub in_run : (RunFault → Bool) → PlayFault → Bool
in_run test (play.Run f) = test f
in_run test f = false

abbrev pub play_reads_fail : {P F O : Type 0} → Result (DeskView P F O) (PlayEnd P F O) → Bool
play_reads_fail (Ok desk) = false
play_reads_fail (Err e) = in_run is_read e.fault

abbrev pub play_writes_fail : {P F O : Type 0} → Result (DeskView P F O) (PlayEnd P F O) → Bool
play_writes_fail (Ok desk) = false
play_writes_fail (Err e) = in_run is_write e.fault

-- ---- how often the source was at its end

-- as often as before, or once more
abbrev pub AtMostOnce : ℕ → ℕ → Type 0
AtMostOnce was is = (is ≡ was) ⊎ (is ≡ after_call true was)

-- Where the session came to the reader's end, once; where the source failed or something was over its limit, not; else once at the
-- most, before the last line.
abbrev pub EndsOnce : Result (Unit {0}) RunFault → ℕ → ℕ → Type 0
EndsOnce (Ok x) was is = is ≡ after_call true was
EndsOnce (Err fault.Read) was is = is ≡ was
EndsOnce (Err fault.Write) was is = AtMostOnce was is
EndsOnce (Err fault.TooLong) was is = is ≡ was
EndsOnce (Err fault.OutOfMemory) was is = AtMostOnce was is

-- the same of one line
abbrev pub EndsNext : Result Served RunFault → ℕ → ℕ → Type 0
EndsNext (Ok More) was is = is ≡ was
EndsNext (Ok Done) was is = is ≡ after_call true was
EndsNext (Err f) was is = EndsOnce (Err f) was is

-- The story was the last line: it was read whole, up to the reader's end, and this is why it is not played.
abbrev pub IsLastLine : Option (List ℕ) → Option (List ℕ) → PlayFault → Type 0
IsLastLine left left' f =
    (line : List ℕ) × Consumes left left' line × IsAtEnd left' × (has_newline line ≡ false) × (length line ≤ MAX_STORY) × OpenFails line f

-- A story that is not played ends once where it was the last line; not where a newline stands behind it, it is over its limit, or
-- memory was refused for a byte of it.
abbrev pub EndsInStory : Option (List ℕ) → Option (List ℕ) → PlayFault → ℕ → ℕ → Type 0
EndsInStory left left' f was is = (is ≡ was) ⊎ ((is ≡ after_call true was) × IsLastLine left left' f)

-- and of a play, whose story may be the last line
abbrev pub FailsOnce : Option (List ℕ) → Option (List ℕ) → PlayFault → ℕ → ℕ → Type 0
FailsOnce left left' (play.Story r) was is = EndsInStory left left' (play.Story r) was is
FailsOnce left left' (play.Start f) was is = EndsInStory left left' (play.Start f) was is
FailsOnce left left' (play.Run f) was is = EndsOnce (Err f) was is

abbrev pub PlayEndsOnce : {P F O : Type 0} → Option (List ℕ) → Option (List ℕ) → Result (DeskView P F O) (PlayEnd P F O) → ℕ → ℕ → Type 0
PlayEndsOnce left left' (Ok desk) was is = is ≡ after_call true was
PlayEndsOnce left left' (Err e) was is = FailsOnce left left' e.fault was is
