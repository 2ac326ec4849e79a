use Rattle.std.proofs.Common.{◌∙◌, ap, codes}
use Rattle.serde_json.proofs.Views.{view-Object}
use Rattle.ink_parts.proofs.Common.{object, members_view}
use Rattle.ink_parts.proofs.Arrays.{put_as, put_in_order}
use Rattle.ink_parts.proofs.frames.add_temps.Goals as goal

pub returns : goal.returns
returns c =
    put_as c.put.result (codes "temps") _ _ (members_view c.args.members.now.entries) (members_view c.put.new.map.entries)
    (view-Object c.in_ok-temps.temps ∙ ap object (c.in_ok-temps.ensures ∙ put_in_order c.args.rows.now c.requires)) c.put.ensures.ok
