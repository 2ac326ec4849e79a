use Rattle.ink_tokens.proofs.Adding.{finally}
use Rattle.ink_parts.proofs.frames.FrameSpotWritten.put.Goals as goal

pub returns : goal.returns
returns c =
    let r = c.put-2.result in
    let opened = rw c.depth.ensures at c.in_ok-put_number.ensures in
    let evaluating = rw c.is_evaluating.ensures at c.in_ok-put_flag.ensures in
    let fresh = rw c.is_fresh.ensures at c.in_ok-put_flag-2.ensures in
    let kind = rw c.kind.ensures at c.in_ok-put_member.ensures in
    let place = rw c.place.ensures at c.in_ok-put_member-2.ensures in
    let temps = rw c.temps.ensures.rows at c.in_ok-put_temps.ensures in
    finally r _ _ _ _ _ c.in_ok-put.ensures (finally r _ _ _ _ _ opened (finally r _ _ _ _ _ evaluating (finally r _ _ _ _ _ fresh
    (finally r _ _ _ _ _ kind (finally r _ _ _ _ _ place (finally r _ _ _ _ _ temps c.put-2.ensures))))))
