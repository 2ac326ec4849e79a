use Rattle.std.proofs.Common.{[], ◌∷◌, ◌++◌, ap, refl, suc, sym}
use Rattle.ink_model.specs.Protocol.Answer.{Acts, Refuses}
use Rattle.ink_model.specs.Protocol.Command as command
use Rattle.ink_model.specs.declared.fault.Refusal.TheVariants as refusal
use Rattle.ink_page.specs.Typed as asks
use Rattle.ink_reader.proofs.Common.{places_of, Gives, Says, Refused}
use Rattle.ink_reader.proofs.Courses.{goes-as, number-none, number-some, then-goes, then-stays, up-whole}
use Rattle.ink_reader.proofs.Playing.{played-gives, played-hushed, played-played, played-says}
use Rattle.ink_reader.proofs.reader.Reader.choose.Goals as goal

pub returns-in_default-clause-reads : goal.returns-in_default-clause-reads
returns-in_default-clause-reads g c =
    let old = c.args.self.now in
    let ds = Says (Refused refusal.NotAChoice) ∷ [] in
    goes-as old.saves (places_of old.past) (asks.Choice 0) (ap asks.Choice (number-none c.args.number c.in_default.ensures))
    (ds, up-whole ds (refl, refl), played-says c.say.result (Refused refusal.NotAChoice) c.refusal_words.ensures c.say.ensures.shows)

pub returns-in-Ok-clause-reads : goal.returns-in-Ok-clause-reads
returns-in-Ok-clause-reads g c =
    let old = c.args.self.now in
    let i = c.in-Some.index in
    let behind = c.leave.ensures.reads in
    let ds = Gives (command.Choose i) (Acts []) ∷ [] in
    goes-as old.saves (places_of old.past) (asks.Choice (suc i)) (ap asks.Choice (number-some c.args.number i c.in-Some.ensures.0 (sym c.in-Some.ensures.1)))
    (ds ++ behind.0, then-goes (command.Choose i) (Acts []) old.saves (places_of old.past) refl behind.1, played-played (played-hushed refl c.in-Ok.ensures) behind.2)

pub returns-in-Err-clause-reads : goal.returns-in-Err-clause-reads
returns-in-Err-clause-reads g c =
    let old = c.args.self.now in
    let i = c.in-Some.index in
    let reply = Refuses c.in-Err.refusal in
    let ds = Gives (command.Choose i) reply ∷ [] in
    goes-as old.saves (places_of old.past) (asks.Choice (suc i)) (ap asks.Choice (number-some c.args.number i c.in-Some.ensures.0 (sym c.in-Some.ensures.1))) (
      ds,
      up-whole ds (then-stays (command.Choose i) reply old.saves (places_of old.past) refl),
      played-gives c.say-in-Err.result c.in-Err.ensures (rw c.refusal_words-in-Err.ensures at c.say-in-Err.ensures.shows),
    )
