use Rattle.std.proofs.Common.{◌∙◌, [], ◌∷◌, sym}
use Rattle.ink_reader.proofs.Common.{err_from_is_err_and, places_of, Gives}
use Rattle.ink_model.specs.Protocol.Answer.{reply_of_events}
use Rattle.ink_model.specs.Protocol.Command as command
use Rattle.ink_reader.proofs.Courses.{then-goes, then-goes-part, then-stays, up-part, up-whole}
use Rattle.ink_reader.proofs.Playing.{played-gives, played-lost, played-played, played-well}
use Rattle.ink_reader.proofs.reader.Reader.restart.Goals as goal

pub returns-in_err-tell_outcome-clause-reads : goal.returns-in_err-tell_outcome-clause-reads
returns-in_err-tell_outcome-clause-reads g c =
    let old = c.args.self.now in
    let reply = reply_of_events c.begin_anew-outcome.result in
    let lost = (err_from_is_err_and c.from_residual.result c.from_residual.ensures.1).1 in (
      Gives command.Restart reply ∷ [],
      up-part lost (then-goes-part command.Restart reply old.saves (places_of old.past)),
      played-lost lost (played-gives c.tell_outcome.result c.begin_anew-outcome.ensures c.tell_outcome.ensures.shows),
    )

pub returns-then-not-branch-clause-reads : goal.returns-then-not-branch-clause-reads
returns-then-not-branch-clause-reads g c =
    let old = c.args.self.now in
    let reply = reply_of_events c.begin_anew-outcome.result in
    let is = rw c.in_ok-tell_outcome.was at c.tell_outcome.ensures.done in
    let ds = Gives command.Restart reply ∷ [] in (
      ds,
      up-whole ds (then-stays command.Restart reply old.saves (places_of old.past) (sym is ∙ c.if-not-branch.true)),
      played-well c.in_ok-tell_outcome.was (played-gives c.tell_outcome.result c.begin_anew-outcome.ensures c.tell_outcome.ensures.shows),
    )

pub returns-clause-reads : goal.returns-clause-reads
returns-clause-reads g c =
    let old = c.args.self.now in
    let reply = reply_of_events c.begin_anew-outcome.result in
    let is = rw c.in_ok-tell_outcome.was at c.tell_outcome.ensures.done in
    let behind = c.leave.ensures.reads in (
      Gives command.Restart reply ∷ behind.0,
      then-goes command.Restart reply old.saves (places_of old.past) (sym is ∙ c.if-not-branch.false) behind.1,
      played-played (played-well c.in_ok-tell_outcome.was (played-gives c.tell_outcome.result c.begin_anew-outcome.ensures c.tell_outcome.ensures.shows)) behind.2,
    )
