use Rattle.std.proofs.Common.{◌∙◌, ◌+◌, ◌-◌, ◌^◌, min, rules, [], ◌∷◌, ◌++◌, ap, append_assoc, drop, sym}
use Rattle.std.proofs.KnownBytes.{Appends-trans}
use Rattle.std.proofs.lemmas.List.{drop_more}
use Rattle.ink_page.specs.Page.{choice_page}
use Rattle.ink_page.specs.Showing.{numbered}
use Rattle.ink_page.proofs.Writing.{unwritten}
use Rattle.ink_page.proofs.showing.show_choices.Goals as goal

pub loop-choice-preserved : goal.loop-choice-preserved
loop-choice-preserved g c =
    let look = c.args.look in
    let cs = c.args.choices.now in
    let i = c.loop-choice.choice-index in
    let n = c.loop-choice.number in
    let here = c.choice-item.result in
    let w = c.loop-choice.invariant.shown.0 in
    let page = choice_page look n here ++ 10 ∷ [] in
    let rest = numbered look c.saturating_add-number.result (drop (i + 1) cs) in
    let more = drop_more cs i here c.loop-choice-test.true in record {
      shown = (
        w ++ page,
        Appends-trans (g.T.Sink.contents c.write_answer.new.sink) (g.T.Sink.contents c.loop-choice.sink) (g.T.Sink.contents c.show_choice.new.sink) w page c.loop-choice.invariant.shown.1 c.in_ok-show_choice.ensures.shows,
        append_assoc w page rest ∙ ap (λ m. w ++ (page ++ numbered look m (drop (i + 1) cs))) c.saturating_add-number.ensures
            ∙ ap (λ x. w ++ ((choice_page look n x ++ 10 ∷ []) ++ numbered look (min (n + 1) (2 ^ 32 - 1)) (drop (i + 1) cs))) c.choice-item.is
            ∙ ap (λ l. w ++ numbered look n l) (sym more) ∙ c.loop-choice.invariant.shown.2,
      );
      cause = c.in_ok-show_choice.ensures.sink.0 ∙ c.loop-choice.invariant.cause;
      name = c.in_ok-show_choice.ensures.sink.1 ∙ c.loop-choice.invariant.name;
    }

pub returns-in_err-write_answer-clause-fault : goal.returns-in_err-write_answer-clause-fault
returns-in_err-write_answer-clause-fault g c =
    let failed = unwritten _ _ _ _ c.in_err-write_answer.ensures.written in
    search rules
