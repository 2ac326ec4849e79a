use Rattle.std.proofs.Common.{◌∙◌, [], ap, chars, subst, sym}
use Rattle.ink_page.specs.Page.{tagged}
use Rattle.ink_page.specs.Sheet.{laid, opened}
use Rattle.ink_page.proofs.Pages.{Holds}
use Rattle.ink_page.proofs.PageLines.{line-holds, page-lines, tagged-holds}
use Rattle.ink_page.proofs.page.line_page.Goals as goal
use Rattle.ink_page.proofs.page.line_page.Goals.{then-look+in_ok-show_tags, else-look}

pub returns-clause-lines : goal.returns-clause-lines
returns-clause-lines c =
    let look = c.args.look in
    let begun = laid (chars c.args.text.now) (opened look.columns [] 0) in
    let told = c.in_ok-show.ensures ∙ ap (laid (chars c.args.text.now)) c.in_ok-sheet.ensures in
    elim c.if-look.branch [
      | then-look+in_ok-show_tags w ↦
          let shown = w.sheet-is ∙ w.in_ok-show_tags.ensures.shows ∙ ap (tagged look c.args.tags.now) told in
          page-lines look 0 c.if-look.sheet c.end.result c.end.ensures (subst (Holds look.dims look.columns 0) (sym shown)
          (tagged-holds look 0 c.args.tags.now begun w.in_ok-show_tags.ensures.texts (line-holds look c.args.text.now c.utf8.text)))
      | else-look w ↦
          page-lines look 0 c.if-look.sheet c.end.result c.end.ensures (subst (Holds look.dims look.columns 0) (sym (w.sheet-is ∙ told)) (line-holds look c.args.text.now c.utf8.text))
    ]
