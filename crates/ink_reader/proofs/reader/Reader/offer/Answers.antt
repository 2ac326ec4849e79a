use Rattle.std.proofs.Common.{ℕ, List, [], ◌∷◌, None, Some, refl, subst, sym}
use Rattle.ink_reader.proofs.Common.{err_from_is_err_and, places_of, Asks, Says}
use Rattle.ink_reader.specs.Session.{IsNext, IsOffer, Starts, declines}
use Rattle.ink_reader.specs.Notices.{Offer}
use Rattle.ink_reader.proofs.Playing.{played-asks, played-lost, played-played, played-says, played-well, written}
use Rattle.ink_reader.proofs.Sessions.{part-read, read-behind}
use Rattle.ink_reader.proofs.reader.Reader.offer.Goals as goal

pub returns-in_err-say-clause-reads : goal.returns-in_err-say-clause-reads
returns-in_err-say-clause-reads g c =
    let old = c.args.self.now in
    let lost = (err_from_is_err_and c.from_residual.result c.from_residual.ensures.1).1 in (
      [],
      Says Offer ∷ [],
      refl,
      part-read (IsOffer old.saves (places_of old.past)) old.saves [] (Says Offer ∷ []) (places_of old.past) lost (None ∷ [], Asks ∷ [], places_of old.past, (refl, refl, refl)),
      played-lost lost (played-says c.say.result Offer refl c.say.ensures.shows),
    )

pub returns-in_err-write_answer-clause-reads : goal.returns-in_err-write_answer-clause-reads
returns-in_err-write_answer-clause-reads g c =
    let old = c.args.self.now in
    let lost = (err_from_is_err_and c.from_residual-in_err-write_answer.result c.from_residual-in_err-write_answer.ensures.1).1 in
    let said = played-well c.in_ok-say.was (played-says c.say.result Offer refl c.say.ensures.shows) in
    let ds = Says Offer ∷ Asks ∷ [] in (
      [],
      ds,
      refl,
      part-read (IsOffer old.saves (places_of old.past)) old.saves [] ds (places_of old.past) lost (None ∷ [], [], places_of old.past, (refl, refl, refl)),
      played-lost lost (played-played said (played-asks c.write_answer.result (written (g.T.Sink.contents c.say.new.sink) (g.T.Sink.contents c.write_answer.new.sink) _ c.write_answer.result c.write_answer.ensures.written))),
    )

pub returns-in_err-next-clause-reads : goal.returns-in_err-next-clause-reads
returns-in_err-next-clause-reads g c =
    let old = c.args.self.now in
    let lost = (err_from_is_err_and c.from_residual-in_err-next.result c.from_residual-in_err-next.ensures.1).1 in
    let said = played-well c.in_ok-say.was (played-says c.say.result Offer refl c.say.ensures.shows) in
    let asked = played-well c.in_ok-write_answer.was (played-asks c.write_answer.result (written (g.T.Sink.contents c.say.new.sink) (g.T.Sink.contents c.write_answer.new.sink) _ c.write_answer.result c.write_answer.ensures.written)) in
    let ds = Says Offer ∷ Asks ∷ [] in (
      [],
      ds,
      (rw c.in_err-next.was at c.next.ensures.hands),
      part-read (IsOffer old.saves (places_of old.past)) old.saves [] ds (places_of old.past) lost (None ∷ [], [], places_of old.past, (refl, refl, refl)),
      played-lost lost (played-played said asked),
    )

pub returns-in-None-clause-reads : goal.returns-in-None-clause-reads
returns-in-None-clause-reads g c =
    let said = played-well c.in_ok-say.was (played-says c.say.result Offer refl c.say.ensures.shows) in
    let asked = played-well c.in_ok-write_answer.was (played-asks c.write_answer.result (written (g.T.Sink.contents c.say.new.sink) (g.T.Sink.contents c.write_answer.new.sink) _ c.write_answer.result c.write_answer.ensures.written)) in
    let next = rw c.in_ok-next.was at c.next.ensures.hands in
    (None ∷ [], Says Offer ∷ Asks ∷ [], (g.L.Lines.coming c.next.new.self, (rw c.in-None.is at next), refl), (refl, refl, refl), played-played said asked)

pub returns-in-Some-clause-reads : goal.returns-in-Some-clause-reads
returns-in-Some-clause-reads g c =
    let old = c.args.self.now in
    let said = played-well c.in_ok-say.was (played-says c.say.result Offer refl c.say.ensures.shows) in
    let asked = played-well c.in_ok-write_answer.was (played-asks c.write_answer.result (written (g.T.Sink.contents c.say.new.sink) (g.T.Sink.contents c.write_answer.new.sink) _ c.write_answer.result c.write_answer.ensures.written)) in
    let next = rw c.in_ok-next.was at c.next.ensures.hands in
    let text = c.deref.result.now in
    let is_next = subst (λ (t : List ℕ). IsNext (g.L.Lines.coming c.args.lines.now) (Some t) (g.L.Lines.coming c.next.new.self)) (sym c.deref.ensures) (rw c.in-Some.is at next) in
    let done = rw c.trim.ensures.trim at c.start_by.ensures.reads in
    let saves = c.start_by.new.self.saves in (
      Some text ∷ [],
      Says Offer ∷ Asks ∷ done.0,
      (g.L.Lines.coming c.next.new.self, is_next, refl),
      read-behind c.start_by.result (IsOffer old.saves (places_of old.past)) (Starts (declines text) old.saves (places_of old.past)) saves saves (Some text ∷ []) [] (Says Offer ∷ Asks ∷ []) done.0 (places_of c.start_by.new.self.past) refl (λ others more end h. h) done.1,
      played-played said (played-played asked done.2),
    )
