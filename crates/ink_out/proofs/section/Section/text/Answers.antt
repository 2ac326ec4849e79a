use Rattle.std.proofs.Common.{◌≡◌, ◌∙◌, ap, sym, ℕ, List, [], ◌∷◌, ◌++◌, Result, Ok, Err, IfOk, OnErr}
use Rattle.ink_out.proofs.Common.{clean, shown_text, Mark, Text, Newline}
use Rattle.ink_out.proofs.Blanks.{nothing_more}
use Rattle.ink_out.proofs.Joined.{texts_line}
use Rattle.ink_out.proofs.Lines.{clean_newline}
use Rattle.ink_out.proofs.section.Section.text.Goals as goal

on_error : {A E P : Type 0} (r : Result A E) → P → OnErr r P
on_error (Ok a) p = tt
on_error (Err e) p = p

pub returns-then-not-shows_more-clause-text : goal.returns-then-not-shows_more-clause-text
returns-then-not-shows_more-clause-text c =
    c.from_string.ensures ∙ c.requires ∙ nothing_more c.args.self.now (sym c.shows_more.ensures ∙ c.if-not-shows_more.true)

pub returns-in-None-clause-memory : goal.returns-in-None-clause-memory
returns-in-None-clause-memory c = on_error c.shown_text.result (sym c.shows_more.ensures ∙ c.if-not-shows_more.false)

pub returns-in-Some-texts_of_line-clause-memory : goal.returns-in-Some-texts_of_line-clause-memory
returns-in-Some-texts_of_line-clause-memory c = on_error c.joined.result (sym c.shows_more.ensures ∙ c.if-not-shows_more.false)

-- ---- a text and a newline

plain_shown : (ms : List Mark) (t : List ℕ) → ms ≡ Text t ∷ Newline ∷ [] → clean t ≡ t → clean (shown_text ms) ≡ t ++ 10 ∷ []
plain_shown ms t is same = ap (λ marks. clean (shown_text marks)) is ∙ clean_newline t same

line_shown : {E : Type 0} (r : Result (List ℕ) E) (line text : List ℕ) → IfOk r (λ one. one ≡ line) → text ≡ line → IfOk r (λ one. one ≡ text)
line_shown (Ok one) line text is same = is ∙ sym same
line_shown (Err e) line text is same = tt

pub returns-in-Some-clause-text : goal.returns-in-Some-clause-text
returns-in-Some-clause-text c =
    let (is, same) = c.in-Some.ensures in
    line_shown c.line_of.result (c.in-Some.text.now ++ 10 ∷ []) (clean (shown_text c.args.self.now)) c.line_of.ensures (plain_shown c.args.self.now c.in-Some.text.now is same)

-- ---- texts and a newline

pub returns-in-Some-texts_of_line-clause-text : goal.returns-in-Some-texts_of_line-clause-text
returns-in-Some-texts_of_line-clause-text c =
    let (is, some) = c.in-Some-texts_of_line.ensures in
    line_shown c.joined.result _ (clean (shown_text c.args.self.now)) c.joined.ensures (ap clean (texts_line c.args.self.now c.in-Some-texts_of_line.texts.now (sym c.self.view_is ∙ sym c.as_slice-marks.ensures.value ∙ is) some.0 some.1))
