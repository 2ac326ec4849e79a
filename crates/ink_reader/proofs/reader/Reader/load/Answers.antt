use Rattle.std.proofs.Common.{◌∙◌, [], ◌∷◌, Ok, Some, ap, refl, sym}
use Rattle.ink_reader.proofs.Common.{err_from_is_err_and, view, places_of, Fetches, Gives, Says}
use Rattle.ink_model.specs.Protocol.Command as command
use Rattle.ink_reader.proofs.Courses.{loading-goes, loading-not, loading-part, loading-stays, up-at, up-lost, up-part, up-well, up-whole}
use Rattle.ink_reader.proofs.Playing.{played-fetches, played-lost, played-played, played-says, played-well}
use Rattle.ink_reader.proofs.reader.Reader.load.Goals as goal

pub returns-in_err-say-in-Err-clause-reads : goal.returns-in_err-say-in-Err-clause-reads
returns-in_err-say-in-Err-clause-reads g c =
    let old = c.args.self.now in
    let why = c.in-Err.ensures in
    let lost = (err_from_is_err_and c.from_residual.result c.from_residual.ensures.1).1 in (
      Fetches why.0 ∷ Says why.1 ∷ [],
      up-part lost ([], places_of old.past, loading-not old.saves (places_of old.past) why.0 why.1 why.3),
      rw lost tt,
      played-lost lost (played-played (played-fetches why.2) (played-says c.say.result why.1 why.4 c.say.ensures.shows)),
    )

pub returns-in-Err-clause-reads : goal.returns-in-Err-clause-reads
returns-in-Err-clause-reads g c =
    let old = c.args.self.now in
    let why = c.in-Err.ensures in
    let ds = Fetches why.0 ∷ Says why.1 ∷ [] in (
      ds,
      up-whole ds (loading-not old.saves (places_of old.past) why.0 why.1 why.3),
      refl,
      played-well c.in_ok-say-in-Err.was (played-played (played-fetches why.2) (played-says c.say.result why.1 why.4 c.say.ensures.shows)),
    )

pub returns-in_err-stand_at-clause-reads : goal.returns-in_err-stand_at-clause-reads
returns-in_err-stand_at-clause-reads g c =
    let old = c.args.self.now in
    let from = c.in-Ok.ensures in
    let loads = c.stand_at.ensures.loads in
    let j = view c.in-Ok.json in
    let lost = (err_from_is_err_and c.from_residual-in_err-stand_at.result c.from_residual-in_err-stand_at.ensures.1).1 in (
      Fetches (Ok (Some from.0)) ∷ Gives (command.Load (Some j)) loads.0 ∷ [],
      up-part lost (loading-part old.saves (places_of old.past) from.0 j loads.0 from.2),
      rw lost tt,
      played-lost lost (played-played (played-fetches from.1) (loads.2 (g.S.Shelf.kept c.args.shelf.now))),
    )

pub returns-then-not-branch-clause-reads : goal.returns-then-not-branch-clause-reads
returns-then-not-branch-clause-reads g c =
    let old = c.args.self.now in
    let from = c.in-Ok.ensures in
    let loads = c.stand_at.ensures.loads in
    let j = view c.in-Ok.json in
    let is = rw c.in_ok-stand_at.was at loads.1 in
    let ds = Fetches (Ok (Some from.0)) ∷ Gives (command.Load (Some j)) loads.0 ∷ [] in (
      ds,
      up-at ds (places_of old.past) (ap places_of (sym c.stand_at.ensures.past)) (loading-stays old.saves (places_of old.past) from.0 j loads.0 from.2 (sym is ∙ c.if-not-branch.true)),
      sym c.if-not-branch.true ∙ is,
      played-well c.in_ok-stand_at.was (played-played (played-fetches from.1) (loads.2 (g.S.Shelf.kept c.args.shelf.now))),
    )

pub returns-in_err-leave-clause-reads : goal.returns-in_err-leave-clause-reads
returns-in_err-leave-clause-reads g c =
    let old = c.args.self.now in
    let from = c.in-Ok.ensures in
    let loads = c.stand_at.ensures.loads in
    let j = view c.in-Ok.json in
    let kept = g.S.Shelf.kept c.args.shelf.now in
    let lost = (err_from_is_err_and c.from_residual-in_err-leave.result c.from_residual-in_err-leave.ensures.1).1 in
    let is = rw c.in_ok-stand_at.was at loads.1 in
    let behind = rw (c.stand_at.ensures.settings.0, c.stand_at.ensures.settings.1, c.stand_at.ensures.past) at c.leave.ensures.reads in (
      Fetches (Ok (Some from.0)) ∷ Gives (command.Load (Some j)) loads.0 ∷ behind.0,
      up-lost lost (loading-goes old.saves (places_of old.past) from.0 j loads.0 from.2 (sym is ∙ c.if-not-branch.false) behind.1),
      rw lost tt,
      played-lost lost (played-played (played-fetches from.1) (played-played (played-well c.in_ok-stand_at.was (loads.2 kept)) behind.2)),
    )

pub returns-clause-reads : goal.returns-clause-reads
returns-clause-reads g c =
    let old = c.args.self.now in
    let from = c.in-Ok.ensures in
    let loads = c.stand_at.ensures.loads in
    let j = view c.in-Ok.json in
    let kept = g.S.Shelf.kept c.args.shelf.now in
    let is = rw c.in_ok-stand_at.was at loads.1 in
    let behind = rw (c.stand_at.ensures.settings.0, c.stand_at.ensures.settings.1, c.stand_at.ensures.past) at c.leave.ensures.reads in (
      Fetches (Ok (Some from.0)) ∷ Gives (command.Load (Some j)) loads.0 ∷ behind.0,
      up-well c.in_ok-leave.was (loading-goes old.saves (places_of old.past) from.0 j loads.0 from.2 (sym is ∙ c.if-not-branch.false) behind.1),
      sym c.if-not-branch.false ∙ is,
      played-well c.in_ok-leave.was (played-played (played-fetches from.1) (played-played (played-well c.in_ok-stand_at.was (loads.2 kept)) behind.2)),
    )
