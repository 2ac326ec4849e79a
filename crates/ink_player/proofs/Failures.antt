-- Whose failure ended a session or a play.
use Rattle.std.proofs.Common.{◌≡◌, refl, subst, sym, ℕ, List, Bool, Option, Result, Ok, Err}
use Rattle.ink_player.proofs.Common.{Watching, Called, Bindings, StoryTree, Answers, PlayerView, Scene, PlayFault, Buffered, RunFault}
use Rattle.ink_player.specs.Ends.{in_run, play_reads_fail, play_writes_fail}
use Rattle.ink_player.specs.Playing.{OpenFails, Opens, play_fault, played}
use Rattle.ink_player.specs.declared.end.PlayEnd.{PlayEnd}
use Rattle.ink_player.specs.declared.end.PlayFault.TheVariants as play
use Rattle.ink_protocol.specs.Ends.{Reports, after_call, is_read, is_write}
use Rattle.ink_protocol.specs.Lines.{GivesLine}
use Rattle.ink_protocol.specs.declared.fault.RunFault.TheVariants as fault

-- a line that could not be taken is no failure of the sink
pub unwritten : (left left' : Option (List ℕ)) (o n : Buffered) (limit : ℕ) (f : RunFault) (failures name : ℕ) → GivesLine left left' o n limit (Err f) → Reports (is_write f) failures failures name name
unwritten left left' o n limit fault.Read failures name gives = (refl, refl)
unwritten left left' o n limit fault.Write failures name gives = absurd gives
unwritten left left' o n limit fault.TooLong failures name gives = (refl, refl)
unwritten left left' o n limit fault.OutOfMemory failures name gives = (refl, refl)

-- one that was not answered whole is no failure of the source
pub unfailed : {P F O : Type 0} (turn_log : F → List Called) (refusals : F → ℕ) (state : O → Watching) (s : StoryTree) (h : Bindings) (line : List ℕ) (held held' : Option (List ℕ)) (old new : Scene P F O)
    (f : RunFault) (had has name name' : ℕ) → Answers turn_log refusals state s h line held held' old new (Err f) → has ≡ had → name' ≡ name → Reports (is_read f) had has name name'
unfailed turn_log refusals state s h line held held' old new fault.Read had has name name' answers same named = absurd answers
unfailed turn_log refusals state s h line held held' old new fault.Write had has name name' answers same named = (same, named)
unfailed turn_log refusals state s h line held held' old new fault.TooLong had has name name' answers same named = absurd answers
unfailed turn_log refusals state s h line held held' old new fault.OutOfMemory had has name name' answers same named = (same, named)

-- ---- of a story

-- it could not be taken
pub story_failed : (f : RunFault) (p : PlayFault) (had has name name' : ℕ) → p ≡ play_fault f → has ≡ after_call (is_read f) had → name' ≡ name → Reports (in_run is_read p) had has name name'
story_failed f p had has name name' is counts named = subst (λ q. Reports (in_run is_read q) had has name name') (sym is) (by f counts)
  where
    by : (f : RunFault) → has ≡ after_call (is_read f) had → Reports (in_run is_read (play_fault f)) had has name name'
    by fault.Read counts = (counts, named)
    by fault.Write counts = (counts, named)
    by fault.TooLong counts = (counts, named)
    by fault.OutOfMemory counts = (counts, named)

pub story_unwritten : (left left' : Option (List ℕ)) (o n : Buffered) (limit : ℕ) (f : RunFault) (p : PlayFault) (failures name : ℕ) → p ≡ play_fault f → GivesLine left left' o n limit (Err f)
    → Reports (in_run is_write p) failures failures name name
story_unwritten left left' o n limit f p failures name is gives = subst (λ q. Reports (in_run is_write q) failures failures name name) (sym is) (by f gives)
  where
    by : (f : RunFault) → GivesLine left left' o n limit (Err f) → Reports (in_run is_write (play_fault f)) failures failures name name
    by fault.Read gives = (refl, refl)
    by fault.Write gives = absurd gives
    by fault.TooLong gives = (refl, refl)
    by fault.OutOfMemory gives = (refl, refl)

-- one that is not opened is nobody's failure
pub open_failed : (test : RunFault → Bool) (line : List ℕ) (f : PlayFault) (had has name name' : ℕ) → OpenFails line f → has ≡ had → name' ≡ name → Reports (in_run test f) had has name name'
open_failed test line (play.Story r) had has name name' fails same named = (same, named)
open_failed test line (play.Start r) had has name name' fails same named = (same, named)
open_failed test line (play.Run r) had has name name' fails same named = absurd fails

-- one that is opened or not
pub open_reads : {P F O : Type 0} (line : List ℕ) (r : Result (PlayerView P F O) (PlayEnd P F O)) (had has name name' : ℕ) → Opens line r → has ≡ had → name' ≡ name → Reports (play_reads_fail (played r)) had has name name'
open_reads line (Ok p) had has name name' opens same named = (same, named)
open_reads line (Err e) had has name name' opens same named = open_failed is_read line e.fault had has name name' opens same named

pub open_writes : {P F O : Type 0} (line : List ℕ) (r : Result (PlayerView P F O) (PlayEnd P F O)) (had has name name' : ℕ) → Opens line r → has ≡ had → name' ≡ name → Reports (play_writes_fail (played r)) had has name name'
open_writes line (Ok p) had has name name' opens same named = (same, named)
open_writes line (Err e) had has name name' opens same named = open_failed is_write line e.fault had has name name' opens same named
