use Rattle.std.proofs.Common.{[]}
use Rattle.ink_reader.proofs.Common.{err_from_is_err_and, places_of}
use Rattle.ink_reader.specs.Session.{Begins}
use Rattle.ink_reader.proofs.Playing.{played-lost, played-well}
use Rattle.ink_reader.proofs.Sessions.{begun, begun-part, part-read}
use Rattle.ink_reader.proofs.reader.Reader.start.Goals as goal

pub returns-in_err-begin-clause-reads : goal.returns-in_err-begin-clause-reads
returns-in_err-begin-clause-reads g c =
    let old = c.args.self.now in
    let told = c.begin.ensures.reads in
    let lost = (err_from_is_err_and c.from_residual.result c.from_residual.ensures.1).1 in
    (told.0, part-read (Begins old.saves (places_of old.past)) old.saves [] told.0 (places_of c.begin.new.self.past) lost (begun-part old.saves (places_of old.past) told.0 told.1), played-lost lost told.2)

pub returns-clause-reads : goal.returns-clause-reads
returns-clause-reads g c =
    let old = c.args.self.now in
    let told = c.begin.ensures.reads in
    (told.0, begun old.saves (places_of old.past) told.0 (places_of c.begin.new.self.past) c.in_ok-begin.was told.1, played-well c.in_ok-begin.was told.2)
