-- What fails to be shown fails no reading, and what is asked of a sink and of the lines adds up over calls.
use Rattle.std.proofs.Common.{◌≡◌, ℕ, List, Bool, false, Option, Result, Ok, Err, IfErr, refl}
use Rattle.ink_page.specs.Showing.{FailsToShow}
use Rattle.ink_protocol.specs.Ends.{WritesText, after_call, is_read, reads_fail}
use Rattle.ink_protocol.specs.declared.fault.RunFault.{RunFault}
use Rattle.ink_protocol.specs.declared.fault.RunFault.TheVariants as fault

pub unread : (f : RunFault) → FailsToShow f → is_read f ≡ false
unread fault.Write h = refl
unread fault.OutOfMemory h = refl
unread fault.Read h = absurd h
unread fault.TooLong h = refl

pub unread_shown : {T : Type 0} (r : Result T RunFault) → IfErr r FailsToShow → reads_fail r ≡ false
unread_shown (Ok x) h = refl
unread_shown (Err f) h = unread f h

pub unread_written : (held held' : Option (List ℕ)) (text : List ℕ) (f : RunFault) → WritesText held held' text (Err f) → is_read f ≡ false
unread_written held held' text fault.Write w = refl
unread_written held held' text fault.Read w = absurd w
unread_written held held' text fault.TooLong w = refl
unread_written held held' text fault.OutOfMemory w = refl

pub as_many : (b : Bool) (n m : ℕ) → b ≡ false → m ≡ n → m ≡ after_call b n
as_many b n m quiet is = rw quiet is
