use Rattle.std.proofs.Common.{◌≡◌, ◌∙◌, ℕ, List, [], true, false, Option, Result, Ok, Err, OnOk, is_ok, refl, subst, sym, true≢false}
use Rattle.ink_reader.proofs.Common.{err_from_is_err_and, Appends, said, Look, saving_told, unsaved_told, NotKept}
use Rattle.ink_reader.specs.Deeds.{Deed, deeds_shown}
use Rattle.ink_reader.specs.Notices.{Saved, word_text}
use Rattle.ink_reader.proofs.Playing.{last-written, more-written, played-saving, played-well}
use Rattle.ink_reader.proofs.reader.Reader.keep.Goals as goal

not-kept : (answer : Result (Unit {0}) NotKept) → false ≡ is_ok answer → unsaved_told answer ≡ saving_told answer
not-kept (Ok u) h = absurd (true≢false (sym h))
not-kept (Err cause) h = refl

kept : {T E : Type 0} (look : Look) (old mid new : Option (List ℕ)) (answer : Result (Unit {0}) NotKept) (r : Result T E) → true ≡ is_ok answer → Appends old mid (deeds_shown look (unsaved_told answer))
    → OnOk r (Appends mid new (said look (word_text Saved))) → OnOk r (Appends old new (deeds_shown look (saving_told answer)))
kept look old mid new (Ok u) r is first then = last-written old new (said look (word_text Saved)) r (more-written old mid new [] (said look (word_text Saved)) r first then)
kept look old mid new (Err cause) r is first then = absurd (true≢false is)

pub returns-in_err-keep_save-clause-reads : goal.returns-in_err-keep_save-clause-reads
returns-in_err-keep_save-clause-reads g c =
    let answer = c.keep_save.ensures.answers in
    let lost = (err_from_is_err_and c.from_residual.result c.from_residual.ensures.1).1 in
    (answer.0, played-saving c.from_residual.result answer.0 answer.1 (rw lost tt))

pub returns-then-not-branch-clause-reads : goal.returns-then-not-branch-clause-reads
returns-then-not-branch-clause-reads g c =
    let look = c.args.self.now.look in
    let old = g.T.Sink.contents c.args.sink.now in
    let new = g.T.Sink.contents c.keep_save.new.sink in
    let answer = c.keep_save.ensures.answers in
    let is = rw c.in_ok-keep_save.was at answer.2 in
    let shown = subst (λ (ds : List Deed). OnOk c.keep_save.result (Appends old new (deeds_shown look ds))) (not-kept answer.0 (sym c.if-not-branch.true ∙ is)) answer.3 in
    (answer.0, played-well c.in_ok-keep_save.was (played-saving c.keep_save.result answer.0 answer.1 shown))

pub returns-clause-reads : goal.returns-clause-reads
returns-clause-reads g c =
    let old = g.T.Sink.contents c.args.sink.now in
    let mid = g.T.Sink.contents c.keep_save.new.sink in
    let new = g.T.Sink.contents c.say.new.sink in
    let answer = c.keep_save.ensures.answers in
    let is = rw c.in_ok-keep_save.was at answer.2 in
    let first = rw c.in_ok-keep_save.was at answer.3 in
    (answer.0, played-saving c.say.result answer.0 answer.1 (kept c.args.self.now.look old mid new answer.0 c.say.result (sym c.if-not-branch.false ∙ is) first c.say.ensures.shows))
