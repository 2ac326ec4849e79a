use Rattle.std.proofs.Common.{◌∙◌}
use Rattle.ink_parts.proofs.Common.{view-Array, members_view, row_data}
use Rattle.ink_parts.proofs.Arrays.{listed, put_as}
use Rattle.ink_parts.proofs.counts.add_counts.Goals as goal

pub returns : goal.returns
returns c =
    put_as c.put.result c.args.name.now _ _ (members_view c.args.members.now.entries) (members_view c.put.new.map.entries)
    (view-Array c.in_ok-made.made ∙ listed row_data _ _ c.in_ok-made.ensures) c.put.ensures.ok
