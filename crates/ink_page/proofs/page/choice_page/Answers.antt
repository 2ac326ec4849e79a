use Rattle.std.proofs.Common.{◌∙◌, ◌≤◌, [], ◌∷◌, ap, ap₂, arith, chars, length, length-append, subst, sym}
use Rattle.std.proofs.lemmas.Fmt.{length-decimal-le}
use Rattle.std.specs.Fmt.{decimal}
use Rattle.ink_page.specs.Page.{lead_of, tagged}
use Rattle.ink_page.specs.Sheet.{laid, opened}
use Rattle.ink_page.proofs.Pages.{Holds}
use Rattle.ink_page.proofs.PageLines.{choice-holds, page-lines, tagged-holds}
use Rattle.ink_page.proofs.page.choice_page.Goals as goal

pub overflow_cast-margin : goal.overflow_cast-margin
overflow_cast-margin c =
    let few : length (decimal c.args.number) ≤ 10 = length-decimal-le 10 c.args.number (omega arith) (omega arith) (omega arith) in
    let whole = length-append (decimal c.args.number) (46 ∷ 32 ∷ []) in
    let lead = ap length c.in_ok-lead.ensures.ok in
    let text = ap length c.as_str.ensures.value in
    omega arith

pub returns-clause-lines : goal.returns-clause-lines
returns-clause-lines c =
    let look = c.args.look in
    let number = c.args.number in
    let margin = length (lead_of number) in
    let lead = c.as_str-2.ensures.value ∙ c.in_ok-lead.ensures.ok in
    let wide = ap length (c.as_str.ensures.value ∙ c.in_ok-lead.ensures.ok) in
    let text = c.as_str-3.result.now in
    let opens = c.in_ok-sheet.ensures ∙ ap₂ (opened look.columns) lead wide in
    let told = c.in_ok-show.ensures ∙ ap (laid (chars text)) opens in
    let begun = laid (chars text) (opened look.columns (lead_of number) margin) in
    let tags = c.as_slice.result.now in
    let shown = c.in_ok-show_tags.ensures.shows ∙ ap (tagged look tags) told in
    page-lines look margin c.show_tags.new.sheet c.end.result c.end.ensures (subst (Holds look.dims look.columns margin) (sym shown)
    (tagged-holds look margin tags begun c.in_ok-show_tags.ensures.texts (choice-holds look number text (omega arith) c.as_str-3.utf8)))
