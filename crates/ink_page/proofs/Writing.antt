-- Where the text of an answer is not written, its sink failed.
use Rattle.std.proofs.Common.{ℕ, List, Option, Result, Ok, Err, IfErr}
use Rattle.ink_page.specs.Showing.{FailsToShow}
use Rattle.ink_protocol.specs.Ends.{WritesText}
use Rattle.ink_protocol.specs.declared.fault.RunFault.{RunFault}
use Rattle.ink_protocol.specs.declared.fault.RunFault.TheVariants as fault

pub unwritten : (held held' : Option (List ℕ)) (text : List ℕ) (f : RunFault) → WritesText held held' text (Err f) → FailsToShow f
unwritten held held' text fault.Write w = tt
unwritten held held' text fault.Read w = w
unwritten held held' text fault.TooLong w = w
unwritten held held' text fault.OutOfMemory w = tt

pub written_or_not : (held held' : Option (List ℕ)) (text : List ℕ) (r : Result (Unit {0}) RunFault) → WritesText held held' text r → IfErr r FailsToShow
written_or_not held held' text (Ok x) w = tt
written_or_not held held' text (Err f) w = unwritten held held' text f w
