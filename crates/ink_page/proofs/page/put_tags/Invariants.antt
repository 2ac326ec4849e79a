use Rattle.std.proofs.Common.{◌≡◌, take}
use Rattle.ink_page.specs.Lines.{AreTexts}
use Rattle.ink_page.specs.Page.{tags_laid}
use Rattle.ink_page.proofs.page.put_tags.Given as goal

abbrev pub invariant-loop-tag : goal.invariant-loop-tag
invariant-loop-tag l = (l.sheet ≡ tags_laid (take l.tag-index l.tags) l.initial.sheet) × AreTexts (take l.tag-index l.tags)
