use Rattle.std.proofs.Common.{◌∙◌, ap}
use Rattle.ink_parts.proofs.Common.{put, members_view, value_data}
use Rattle.ink_parts.proofs.Arrays.{put_more}
use Rattle.ink_parts.proofs.frames.put_rows.Goals as goal

pub loop-row-preserved : goal.loop-row-preserved
loop-row-preserved c =
    let ms = members_view c.loop-row.members.entries in
    put_more c.args.rows.now c.loop-row.row-index c.row-item.result ms (members_view c.put.new.map.entries) _ c.loop-row-test.true
    (c.in_ok-put.ensures.ok ∙ (λ i. put (c.as_str.ensures i) (c.in_ok-value.ensures i) ms) ∙ ap (λ r. put r.0 (value_data r.1) ms) c.row-item.is) c.loop-row.invariant
