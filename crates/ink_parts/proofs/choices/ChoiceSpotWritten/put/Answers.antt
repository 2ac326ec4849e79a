use Rattle.std.proofs.Common.{sym}
use Rattle.ink_tokens.proofs.Adding.{finally}
use Rattle.ink_parts.proofs.choices.ChoiceSpotWritten.put.Goals as goal

pub returns : goal.returns
returns c =
    let r = c.put-2.result in
    let text = rw c.as_str.ensures at c.in_ok-put_text.ensures in
    rw (sym c.self.view_is) (finally r _ _ _ _ _ c.in_ok-put.ensures (finally r _ _ _ _ _ c.in_ok-put_flag.ensures (finally r _ _ _ _ _ c.in_ok-put_member.ensures (finally r _ _ _ _ _ c.in_ok-put_member-2.ensures
    (finally r _ _ _ _ _ text (finally r _ _ _ _ _ c.in_ok-put_member-3.ensures c.put-2.ensures))))))
