use Rattle.std.proofs.Common.{◌∙◌, ℕ, List, [], ◌∷◌, Option, None, Some, Result, Ok, Err, refl, string_bytes, sym}
use Rattle.ink_reader.proofs.Common.{places_of, Fetches, NotKept}
use Rattle.ink_reader.specs.Session.{Begins, IsOffer, IsSession}
use Rattle.ink_reader.proofs.Playing.{played-fetches, played-played}
use Rattle.ink_reader.proofs.Sessions.{read-behind}
use Rattle.ink_reader.proofs.reader.Reader.open.Goals as goal

pub returns-in-Ok-None-clause-reads : goal.returns-in-Ok-None-clause-reads
returns-in-Ok-None-clause-reads g c =
    let old = c.args.self.now in
    let told = c.start.ensures.reads in (
      [],
      Fetches (Ok None) ∷ told.0,
      refl,
      read-behind c.start.result (IsSession old.saves (places_of old.past)) (Begins old.saves (places_of old.past)) old.saves c.start.new.self.saves [] [] (Fetches (Ok None) ∷ []) told.0 (places_of c.start.new.self.past) c.start.ensures.settings.1 (λ others more end h. h) told.1,
      played-played (played-fetches (rw c.in-Ok-None.field-0-is at c.in-Ok-None.ensures)) told.2,
    )

pub returns-in-Ok-Some-clause-reads : goal.returns-in-Ok-Some-clause-reads
returns-in-Ok-Some-clause-reads g c =
    let old = c.args.self.now in
    let rest = c.offer.ensures.reads in
    let answer : Result (Option (List ℕ)) NotKept = Ok (Some (string_bytes c.in-Ok-Some._save)) in
    let saves = c.offer.new.self.saves in (
      rest.0,
      Fetches answer ∷ rest.1,
      rest.2,
      read-behind c.offer.result (IsSession old.saves (places_of old.past)) (IsOffer old.saves (places_of old.past)) saves saves [] rest.0 (Fetches answer ∷ []) rest.1 (places_of c.offer.new.self.past) refl (λ others more end h. h) rest.3,
      played-played (played-fetches (rw c.in-Ok-Some.field-0-is at c.in-Ok-Some.ensures)) rest.4,
    )

pub returns-in-Err-clause-reads : goal.returns-in-Err-clause-reads
returns-in-Err-clause-reads g c =
    let old = c.args.self.now in
    let rest = c.offer-in-Err.ensures.reads in
    let answer : Result (Option (List ℕ)) NotKept = Err c.in-Err.field-0 in
    let saves = c.offer-in-Err.new.self.saves in (
      rest.0,
      Fetches answer ∷ rest.1,
      rest.2,
      read-behind c.offer-in-Err.result (IsSession old.saves (places_of old.past)) (IsOffer old.saves (places_of old.past)) saves saves [] rest.0 (Fetches answer ∷ []) rest.1 (places_of c.offer-in-Err.new.self.past) refl (λ others more end h. h) rest.3,
      played-played (played-fetches c.in-Err.ensures) rest.4,
    )

pub returns-in-Ok-None-clause-saves : goal.returns-in-Ok-None-clause-saves
returns-in-Ok-None-clause-saves g c = λ h. sym c.start.ensures.settings.1 ∙ h
