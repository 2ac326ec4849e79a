use Rattle.std.proofs.Common.{[], refl, rules, w32}
use Rattle.std.proofs.lemmas.Int.{to_z-of_z}
use Rattle.std.specs.Prelude.{FitsSigned}
use Rattle.ink_model.specs.Text.Mark.{cut}
use Rattle.ink_model.specs.Values.Value.{printed}
use Rattle.ink_out.proofs.Noting.{empty_text}
use Rattle.ink_out.proofs.Printed.{number_cut, truth_cut}
use Rattle.ink_out.proofs.output.Output.write.Goals as goal

pub returns-in-Void-clause-page : goal.returns-in-Void-clause-page
unfolding printed
returns-in-Void-clause-page c =
    let s = c.self.inside in
    rw (← c.self.view_is, c.in-Void.is, empty_text c.args.fresh [] s.line s.sections.items s.next_enter refl c.self.invariant.0) (refl, tt)

pub returns-in-Void-clause-text : goal.returns-in-Void-clause-text
unfolding printed cut
returns-in-Void-clause-text c = rw c.in-Void.is refl

-- ---- a number

pub returns-in-Int-clause-page : goal.returns-in-Int-clause-page
unfolding printed
returns-in-Int-clause-page c =
    let n = c.in-Int.number in
    let range : FitsSigned w32 n = search rules in
    rw (c.in-Int.is, number_cut n range) (rw (to_z-of_z w32 n range) at c.note_words.ensures.page)

pub returns-in-Int-clause-text : goal.returns-in-Int-clause-text
unfolding printed
returns-in-Int-clause-text c = rw (c.in-Int.is, number_cut c.in-Int.number (search rules)) c.note_words.ensures.text

pub returns-in-Int-clause-trail : goal.returns-in-Int-clause-trail
unfolding printed
returns-in-Int-clause-trail c = rw (c.in-Int.is, number_cut c.in-Int.number (search rules)) c.note_words.ensures.trail

pub returns-in-Int-clause-spare : goal.returns-in-Int-clause-spare
unfolding printed
returns-in-Int-clause-spare c = rw (c.in-Int.is, number_cut c.in-Int.number (search rules)) c.note_words.ensures.spare

-- ---- a truth value

pub returns-in-Bool-clause-page : goal.returns-in-Bool-clause-page
unfolding printed
returns-in-Bool-clause-page c = rw (c.in-Bool.is, truth_cut c.in-Bool.truth) c.note_words-in-Bool.ensures.page

pub returns-in-Bool-clause-text : goal.returns-in-Bool-clause-text
unfolding printed
returns-in-Bool-clause-text c = rw (c.in-Bool.is, truth_cut c.in-Bool.truth) c.note_words-in-Bool.ensures.text

pub returns-in-Bool-clause-trail : goal.returns-in-Bool-clause-trail
unfolding printed
returns-in-Bool-clause-trail c = rw (c.in-Bool.is, truth_cut c.in-Bool.truth) c.note_words-in-Bool.ensures.trail

pub returns-in-Bool-clause-spare : goal.returns-in-Bool-clause-spare
unfolding printed
returns-in-Bool-clause-spare c = rw (c.in-Bool.is, truth_cut c.in-Bool.truth) c.note_words-in-Bool.ensures.spare
