use Rattle.std.proofs.Common.{ℕ, List, [], ◌∷◌, None, Some, ap, not, refl, subst, sym}
use Rattle.ink_reader.proofs.Common.{err_from_is_err_and, if-ok, places_of, Asks}
use Rattle.ink_reader.specs.Session.{IsNext}
use Rattle.ink_reader.proofs.Sessions.{asks-only, read-by}
use Rattle.ink_reader.proofs.Playing.{played-asks, played-lost, played-played, played-well, written}
use Rattle.ink_reader.proofs.reader.Reader.read_line.Goals as goal

pub returns-in_err-write_answer-clause-reads : goal.returns-in_err-write_answer-clause-reads
returns-in_err-write_answer-clause-reads g c =
    let old = c.args.self.now in
    let lost = (err_from_is_err_and c.from_residual.result c.from_residual.ensures.1).1 in
    ([], Asks ∷ [], refl, asks-only old.saves (places_of old.past) (places_of old.past) lost, played-asks c.from_residual.result (rw lost tt))

pub returns-in_err-next-clause-reads : goal.returns-in_err-next-clause-reads
returns-in_err-next-clause-reads g c =
    let old = c.args.self.now in
    let lost = (err_from_is_err_and c.from_residual-in_err-next.result c.from_residual-in_err-next.ensures.1).1 in
    let asked = played-well c.in_ok-write_answer.was (played-asks c.write_answer.result (written (g.T.Sink.contents c.args.sink.now) (g.T.Sink.contents c.write_answer.new.sink) _ c.write_answer.result c.write_answer.ensures.written)) in
    ([], Asks ∷ [], (rw c.in_err-next.was at c.next.ensures.hands), asks-only old.saves (places_of old.past) (places_of old.past) lost, played-lost lost asked)

pub returns-in-None-clause-reads : goal.returns-in-None-clause-reads
returns-in-None-clause-reads g c =
    let old = c.args.self.now in
    let ends = c.end.ensures.reads in
    let asked = played-well c.in_ok-write_answer.was (played-asks c.write_answer.result (written (g.T.Sink.contents c.args.sink.now) (g.T.Sink.contents c.write_answer.new.sink) _ c.write_answer.result c.write_answer.ensures.written)) in
    let next = rw c.in_ok-next.was at c.next.ensures.hands in (
      None ∷ [],
      Asks ∷ ends.0,
      (g.L.Lines.coming c.next.new.self, (rw c.in-None.is at next), refl),
      read-by old.saves (places_of old.past) None ends.0 (places_of old.past) c.end.result ends.1 (if-ok c.end.result (λ goes no. ap not (sym no)) ends.2),
      played-played asked ends.3,
    )

pub returns-in-Some-clause-reads : goal.returns-in-Some-clause-reads
returns-in-Some-clause-reads g c =
    let old = c.args.self.now in
    let text = c.as_str.result.now in
    let asked = played-well c.in_ok-write_answer.was (played-asks c.write_answer.result (written (g.T.Sink.contents c.args.sink.now) (g.T.Sink.contents c.write_answer.new.sink) _ c.write_answer.result c.write_answer.ensures.written)) in
    let next = rw c.in_ok-next.was at c.next.ensures.hands in
    let is_next = subst (λ (t : List ℕ). IsNext (g.L.Lines.coming c.args.lines.now) (Some t) (g.L.Lines.coming c.next.new.self)) (sym c.as_str.ensures.value) (rw c.in-Some.is at next) in
    let done = rw c.read_typed.ensures at c.follow.ensures.reads in (
      Some text ∷ [],
      Asks ∷ done.0,
      (g.L.Lines.coming c.next.new.self, is_next, refl),
      read-by old.saves (places_of old.past) (Some text) done.0 (places_of c.follow.new.self.past) c.follow.result done.1 done.2,
      played-played asked done.3,
    )
