use Rattle.std.proofs.Common.{[], ◌∷◌, ap, refl}
use Rattle.ink_reader.proofs.Common.{err_from_is_err_and, asked_by, places_of, Gives, Says}
use Rattle.ink_model.specs.Protocol.Command as command
use Rattle.ink_page.specs.Typed as asks
use Rattle.ink_reader.specs.Notices.{Help, Unclear}
use Rattle.ink_reader.proofs.Courses.{goes-as, up-lost, up-well, up-whole}
use Rattle.ink_reader.proofs.Playing.{played-lost, played-none, played-says, played-well}
use Rattle.ink_reader.proofs.reader.Reader.answer.Goals as goal

pub returns-in-Choice-clause-reads : goal.returns-in-Choice-clause-reads
returns-in-Choice-clause-reads g c =
    let old = c.args.self.now in
    goes-as old.saves (places_of old.past) (asks.Choice c.in-Choice.number) (ap asked_by c.in-Choice.is) c.choose.ensures.reads

pub returns-in-Save-clause-reads : goal.returns-in-Save-clause-reads
returns-in-Save-clause-reads g c =
    let old = c.args.self.now in
    goes-as old.saves (places_of old.past) asks.Save (ap asked_by c.in-Save.is) (let done = c.save.ensures.reads in (done.0, up-whole done.0 (done.1, refl), done.2))

pub returns-in-Back-clause-reads : goal.returns-in-Back-clause-reads
returns-in-Back-clause-reads g c =
    let old = c.args.self.now in
    goes-as old.saves (places_of old.past) asks.Back (ap asked_by c.in-Back.is) c.go_back.ensures.reads

pub returns-in-Restart-clause-reads : goal.returns-in-Restart-clause-reads
returns-in-Restart-clause-reads g c =
    let old = c.args.self.now in
    goes-as old.saves (places_of old.past) asks.Restart (ap asked_by c.in-Restart.is) c.restart.ensures.reads

pub returns-in-Variable-clause-reads : goal.returns-in-Variable-clause-reads
returns-in-Variable-clause-reads g c =
    let old = c.args.self.now in
    goes-as old.saves (places_of old.past) (asks.Variable c.in-Variable.name.now) (ap asked_by c.in-Variable.is) (
      Gives (command.Get c.in-Variable.name.now) c.tell_variable.ensures.shows.0 ∷ [],
      up-whole (Gives (command.Get c.in-Variable.name.now) c.tell_variable.ensures.shows.0 ∷ []) ((c.tell_variable.ensures.shows.0, refl), refl),
      c.tell_variable.ensures.shows.1 (g.S.Shelf.kept c.args.shelf.now),
    )

pub returns-in-Help-clause-reads : goal.returns-in-Help-clause-reads
returns-in-Help-clause-reads g c =
    let old = c.args.self.now in
    goes-as old.saves (places_of old.past) asks.Help (ap asked_by c.in-Help.is) (Says Help ∷ [], up-whole (Says Help ∷ []) (refl, refl), played-says c.say.result Help refl c.say.ensures.shows)

pub returns-in-Quit-clause-reads : goal.returns-in-Quit-clause-reads
returns-in-Quit-clause-reads g c =
    let old = c.args.self.now in
    goes-as old.saves (places_of old.past) asks.Quit (ap asked_by c.in-Quit.is) ([], up-whole [] (refl, refl), played-none)

pub returns-in-Unclear-clause-reads : goal.returns-in-Unclear-clause-reads
returns-in-Unclear-clause-reads g c =
    let old = c.args.self.now in
    goes-as old.saves (places_of old.past) asks.Unclear (ap asked_by c.in-Unclear.is) (Says Unclear ∷ [], up-whole (Says Unclear ∷ []) (refl, refl), played-says c.say-in-Unclear.result Unclear refl c.say-in-Unclear.ensures.shows)

pub returns-in_err-_loaded-in-Load-clause-reads : goal.returns-in_err-_loaded-in-Load-clause-reads
returns-in_err-_loaded-in-Load-clause-reads g c =
    let old = c.args.self.now in
    let read = c.load.ensures.reads in
    let lost = (err_from_is_err_and c.from_residual.result c.from_residual.ensures.1).1 in
    goes-as old.saves (places_of old.past) asks.Load (ap asked_by c.in-Load.is) (read.0, up-lost lost read.1, played-lost lost read.3)

pub returns-in_ok-_loaded-in-Load-clause-reads : goal.returns-in_ok-_loaded-in-Load-clause-reads
returns-in_ok-_loaded-in-Load-clause-reads g c =
    let old = c.args.self.now in
    let read = c.load.ensures.reads in
    goes-as old.saves (places_of old.past) asks.Load (ap asked_by c.in-Load.is) (read.0, up-well c.in_ok-_loaded-in-Load.was read.1, played-well c.in_ok-_loaded-in-Load.was read.3)
