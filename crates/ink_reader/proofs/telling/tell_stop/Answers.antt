use Rattle.std.proofs.Common.{◌≡◌, suc, List, [], ◌∷◌, true, Ok, Err, arith, length, refl, subst, sym}
use Rattle.std.proofs.lemmas.Bool.{eqb-true}
use Rattle.std.specs.Bool.{◌==◌}
use Rattle.ink_model.specs.Protocol.Turns.{ShowsChoices}
use Rattle.ink_reader.proofs.Common.{Shown, said, state_of}
use Rattle.ink_page.specs.Sentences.{refusal_sentence}
use Rattle.ink_reader.specs.Notices.{end_words}
use Rattle.ink_reader.proofs.Playing.{last-written}
use Rattle.ink_reader.proofs.telling.tell_stop.Goals as goal

none : (cs : List Shown) → true ≡ (length cs == 0) → cs ≡ []
none [] h = refl
none (c ∷ cs) h = let zero : suc (length cs) ≡ 0 = eqb-true (suc (length cs)) 0 (sym h) in let no : ⊥ = omega arith in absurd no

pub returns-in-Err-clause-shows : goal.returns-in-Err-clause-shows
returns-in-Err-clause-shows g c = (
  Err c.in-Err.refusal,
  c.in-Err.ensures,
  c.tell_end.ensures.none,
  last-written (g.T.Sink.contents c.args.sink.now) (g.T.Sink.contents c.tell_end.new.sink) (said c.args.look (refusal_sentence c.in-Err.refusal)) c.tell_end.result
      (rw c.refusal_words.ensures at c.tell_end.ensures.says),
)

pub returns-then-is_empty-clause-shows : goal.returns-then-is_empty-clause-shows
returns-then-is_empty-clause-shows g c = (
  Ok [],
  subst (λ (cs : List Shown). ShowsChoices (state_of c.args.player.now) (Ok cs)) (none c.in-Ok.choices (rw c.as_slice.ensures at c.if-is_empty.ensures)) c.in-Ok.ensures,
  c.tell_end-then-is_empty.ensures.none,
  last-written (g.T.Sink.contents c.args.sink.now) (g.T.Sink.contents c.tell_end-then-is_empty.new.sink) (said c.args.look (end_words c.args.told)) c.tell_end-then-is_empty.result
      (rw c.end_words.ensures at c.tell_end-then-is_empty.ensures.says),
)
