use Rattle.std.proofs.Common.{Err, Ok, append-nil, refl}
use Rattle.std.proofs.KnownBytes.{Appends-nil}
use Rattle.std.proofs.lemmas.Result.{err_from_is_err_and}
use Rattle.ink_reader.proofs.saving.keep_save.Goals as goal

pub returns-in-Ok-clause-answers : goal.returns-in-Ok-clause-answers
returns-in-Ok-clause-answers g c = (Ok tt, (rw c.as_str.ensures at c.in-Ok.ensures), refl, Appends-nil (g.T.Sink.contents c.args.sink.now))

pub returns-in_err-say-in-Err-clause-answers : goal.returns-in_err-say-in-Err-clause-answers
returns-in_err-say-in-Err-clause-answers g c =
    let lost = (err_from_is_err_and c.from_residual.result c.from_residual.ensures.1).1 in (Err c.in-Err.cause, (rw c.as_str.ensures at c.in-Err.ensures), rw lost tt, rw lost tt)

pub returns-in_ok-say-in-Err-clause-answers : goal.returns-in_ok-say-in-Err-clause-answers
returns-in_ok-say-in-Err-clause-answers g c = (Err c.in-Err.cause, (rw c.as_str.ensures at c.in-Err.ensures), refl, rw append-nil (rw c.unwritten.ensures at c.in_ok-say-in-Err.ensures.shows))
