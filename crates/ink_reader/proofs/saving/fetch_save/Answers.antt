use Rattle.std.proofs.Common.{ℕ, List, Err, None, Ok, Some, refl, subst, sym}
use Rattle.std.proofs.lemmas.Result.{MatchResult-weaker}
use Rattle.ink_reader.specs.Kept.{Fetches}
use Rattle.ink_reader.specs.Notices.{NoSave, NotRead}
use Rattle.ink_reader.specs.declared.shelf.NotKept.{NotKept}
use Rattle.ink_reader.proofs.saving.fetch_save.Goals as goal

pub returns-in-Ok-Some : goal.returns-in-Ok-Some
returns-in-Ok-Some g c =
    let kept = g.S.Shelf.kept c.args.shelf.now in
    let text = c.as_str.result.now in
    let fetches = subst (λ (t : List ℕ). Fetches {E = NotKept} kept (Ok (Some t))) (sym c.as_str.ensures.value) (rw c.in-Ok-Some.field-0-is at c.in-Ok-Some.ensures) in
    MatchResult-weaker c.read_save.result c.read_save.ensures (λ json is. (text, fetches, is)) (λ words why. (Ok (Some text), why.0, fetches, why.1, why.2))

pub returns-in-Ok-None : goal.returns-in-Ok-None
returns-in-Ok-None g c = (Ok None, NoSave, (rw c.in-Ok-None.field-0-is at c.in-Ok-None.ensures), refl, refl)

pub returns-in-Err : goal.returns-in-Err
returns-in-Err g c = (Err c.in-Err.cause, NotRead c.in-Err.cause, c.in-Err.ensures, refl, c.unread.ensures)
