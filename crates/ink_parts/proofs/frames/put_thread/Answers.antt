use Rattle.ink_tokens.proofs.Adding.{finally}
use Rattle.ink_parts.proofs.frames.put_thread.Goals as goal

pub returns : goal.returns
returns c =
    let r = c.put-2.result in
    finally r _ _ _ _ _ c.in_ok-put.ensures (finally r _ _ _ _ _ c.in_ok-put_frames.ensures (finally r _ _ _ _ _ c.in_ok-put_member.ensures c.put-2.ensures))
