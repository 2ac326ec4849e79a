use Rattle.std.proofs.Common.{◌∙◌, [], ◌∷◌, Some, ap, sym}
use Rattle.ink_reader.proofs.Common.{err_from_is_err_and, view, places_of, Gives, Says}
use Rattle.ink_model.specs.Protocol.Command as command
use Rattle.ink_reader.proofs.Courses.{back-done, back-not, back-part, back-stays, up-at, up-part, up-whole}
use Rattle.ink_reader.proofs.Playing.{played-lost, played-played, played-says, played-well}
use Rattle.ink_reader.proofs.reader.Reader.go_back.Goals as goal

pub returns-in-Err-clause-reads : goal.returns-in-Err-clause-reads
returns-in-Err-clause-reads g c =
    let old = c.args.self.now in
    let why = c.in-Err.ensures in
    let ds = Says why.0 ∷ [] in
    (ds, up-whole ds (back-not old.saves (places_of old.past) why.0 why.1), played-says c.say.result why.0 why.2 c.say.ensures.shows)

pub returns-in_err-stand_at-clause-reads : goal.returns-in_err-stand_at-clause-reads
returns-in_err-stand_at-clause-reads g c =
    let old = c.args.self.now in
    let from = c.in-Ok.ensures in
    let loads = c.stand_at.ensures.loads in
    let j = view c.in-Ok.json in
    let lost = (err_from_is_err_and c.from_residual.result c.from_residual.ensures.1).1 in (
      Gives (command.Load (Some j)) loads.0 ∷ [],
      up-part lost (back-part old.saves (places_of old.past) from.0 from.1 j loads.0 from.2 from.3),
      played-lost lost (loads.2 (g.S.Shelf.kept c.args.shelf.now)),
    )

pub returns-then-not-branch-clause-reads : goal.returns-then-not-branch-clause-reads
returns-then-not-branch-clause-reads g c =
    let old = c.args.self.now in
    let from = c.in-Ok.ensures in
    let loads = c.stand_at.ensures.loads in
    let j = view c.in-Ok.json in
    let is = rw c.in_ok-stand_at.was at loads.1 in
    let ds = Gives (command.Load (Some j)) loads.0 ∷ [] in (
      ds,
      up-at ds (places_of old.past) (ap places_of (sym c.stand_at.ensures.past)) (back-stays old.saves (places_of old.past) from.0 from.1 j loads.0 from.2 from.3 (sym is ∙ c.if-not-branch.true)),
      played-well c.in_ok-stand_at.was (loads.2 (g.S.Shelf.kept c.args.shelf.now)),
    )

pub returns-clause-reads : goal.returns-clause-reads
returns-clause-reads g c =
    let old = c.args.self.now in
    let from = c.in-Ok.ensures in
    let loads = c.stand_at.ensures.loads in
    let j = view c.in-Ok.json in
    let is = rw c.in_ok-stand_at.was at loads.1 in
    let takes = rw c.stand_at.ensures.past at c.take_back.ensures.takes in
    let behind = rw (c.stand_at.ensures.settings.0, c.stand_at.ensures.settings.1) at c.go_on.ensures.reads in (
      Gives (command.Load (Some j)) loads.0 ∷ behind.0,
      back-done old.saves (places_of old.past) from.0 from.1 j loads.0 from.2 from.3 (places_of c.take_back.new.self) (sym is ∙ c.if-not-branch.false) (takes from.0 from.1 from.2) behind.1,
      played-played (played-well c.in_ok-stand_at.was (loads.2 (g.S.Shelf.kept c.args.shelf.now))) behind.2,
    )
