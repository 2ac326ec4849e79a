use Rattle.ink_tokens.proofs.Adding.{finally}
use Rattle.ink_parts.proofs.flows.put_named.Goals as goal

pub returns : goal.returns
returns c =
    let r = c.put-2.result in
    finally r _ _ _ _ _ c.in_ok-put.ensures (finally r _ _ _ _ _ c.in_ok-put_member.ensures (finally r _ _ _ _ _ c.in_ok-put_text.ensures
    (finally r _ _ _ _ _ c.in_ok-put_flag.ensures (finally r _ _ _ _ _ c.in_ok-put_member-2.ensures (finally r _ _ _ _ _ c.in_ok-put_member-3.ensures c.put-2.ensures)))))
