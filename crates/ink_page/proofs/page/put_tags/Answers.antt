use Rattle.std.proofs.Common.{◌∙◌, [], ◌∷◌, ◌++◌, take, ap, sym, subst}
use Rattle.std.proofs.lemmas.List.{take_more}
use Rattle.ink_page.specs.Lines.{AreTexts}
use Rattle.ink_page.specs.Page.{tag_laid, tags_laid}
use Rattle.ink_page.proofs.Laying.{tags_laid-push}
use Rattle.ink_page.proofs.PageLines.{texts-push}
use Rattle.ink_page.proofs.page.put_tags.Goals as goal

pub loop-tag-preserved : goal.loop-tag-preserved
loop-tag-preserved c =
    let before = take c.loop-tag.tag-index c.args.tags.now in
    let more = take_more c.args.tags.now c.loop-tag.tag-index c.tag-item.result c.loop-tag-test.true in
    let text = c.as_str.ensures ∙ c.tag-item.is in
    let all = ap (λ t. before ++ t ∷ []) text ∙ sym more in (
      c.in_ok-put_tag.ensures.shows ∙ (ap (tag_laid c.as_str.result.now) c.loop-tag.invariant.0
          ∙ (sym (tags_laid-push before c.as_str.result.now c.args.sheet.now) ∙ ap (λ ts. tags_laid ts c.args.sheet.now) all)),
      subst AreTexts all (texts-push before c.as_str.result.now c.loop-tag.invariant.1 c.in_ok-put_tag.ensures.text),
    )
