use Rattle.std.proofs.Common.{◌∙◌, [], ◌∷◌, refl, sym}
use Rattle.ink_reader.proofs.Common.{err_from_is_err_and, places_of, Says}
use Rattle.ink_reader.specs.Notices.{LastLacks}
use Rattle.ink_reader.proofs.Courses.{goes-on, goes-part, goes-unnoted, up-part}
use Rattle.ink_reader.proofs.Playing.{on_err, on_ok, played-lost, played-played, played-says, played-well}
use Rattle.ink_reader.proofs.reader.Reader.leave.Goals as goal

pub returns-then-is_ok-clause-reads : goal.returns-then-is_ok-clause-reads
returns-then-is_ok-clause-reads g c =
    let old = c.args.self.now in
    let told = c.go_on.ensures.reads in
    (told.0, goes-on old.saves (places_of old.past) (places_of c.leave.new.self) (on_ok c.leave.result c.leave.ensures.before (sym c.is_ok.ensures.value ∙ c.if-is_ok.true)) told.1, told.2)

pub returns-in_err-say-clause-reads : goal.returns-in_err-say-clause-reads
returns-in_err-say-clause-reads g c =
    let old = c.args.self.now in
    let lost = (err_from_is_err_and c.from_residual.result c.from_residual.ensures.1).1 in
    let noted = on_err c.leave.result c.leave.ensures.memory (sym c.is_ok.ensures.value ∙ c.if-is_ok.false) in
    (Says LastLacks ∷ [], up-part lost (goes-part old.saves (places_of old.past) noted), played-lost lost (played-says c.say.result LastLacks refl c.say.ensures.shows))

pub returns-clause-reads : goal.returns-clause-reads
returns-clause-reads g c =
    let old = c.args.self.now in
    let told = c.go_on-2.ensures.reads in
    let unnoted = sym c.is_ok.ensures.value ∙ c.if-is_ok.false in
    let noted = on_err c.leave.result c.leave.ensures.memory unnoted in (
      Says LastLacks ∷ told.0,
      goes-unnoted old.saves (places_of old.past) (places_of c.leave.new.self) noted (on_err c.leave.result c.leave.ensures.stays unnoted) told.1,
      played-played (played-well c.in_ok-say.was (played-says c.say.result LastLacks refl c.say.ensures.shows)) told.2,
    )
