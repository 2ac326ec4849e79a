use Rattle.std.proofs.Common.{le-leb, sym, ◌∙◌, ap}
use Rattle.json.specs.Print.{escape}
use Rattle.ink_protocol.proofs.Spelling.{given_text_of, in_quotes}
use Rattle.ink_protocol.proofs.given.plain_text.Goals as goal

pub returns : goal.returns
returns c =
    let front = c.in_ok-strip_prefix.ensures.cases in
    let back = c.in_ok-inner.ensures.cases in
    given_text_of _ _ (in_quotes _ _ _ _ _ front.1.1 front.2 back.1.1 back.2) (ap escape (sym c.as_bytes.ensures.value) ∙ c.if-not-is_plain.ensures ∙ c.as_bytes.ensures.value)
    (le-leb _ _ c.if-inner-gt-MAX_TEXT.false)
