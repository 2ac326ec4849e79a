use Rattle.std.proofs.Common.{◌∙◌, ap, sym}
use Rattle.std.proofs.lemmas.List.{map-id}
use Rattle.std.proofs.lemmas.Iterator.{YieldsList-from_chars}
use Rattle.std.proofs.lemmas.Iterator.Consumers.{YieldsList-end}
use Rattle.ink_page.specs.Sheet.{laid, with_character}
use Rattle.ink_page.proofs.Laying.{laid-push}
use Rattle.ink_page.proofs.sheet.Sheet.show.Goals as goal

pub loop-letter-preserved : goal.loop-letter-preserved
loop-letter-preserved c =
    c.in_ok-put.ensures ∙ (ap (with_character c.in-Some.letter) c.loop-letter.invariant ∙ sym (laid-push c.loop-letter.yielded c.in-Some.letter c.args.self.now))

pub returns : goal.returns
returns c =
    let t = YieldsList-end (YieldsList-from_chars c.args.text.now c.utf8.text cc) c.loop-letter.yielded _ c.loop-letter.yielded_by _ _ c.in-None.is c.next.ensures.steps in
    c.loop-letter.invariant ∙ ap (λ l. laid l c.args.self.now) (sym (map-id c.loop-letter.yielded) ∙ t.0)
