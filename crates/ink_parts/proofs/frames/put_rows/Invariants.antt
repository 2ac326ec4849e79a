use Rattle.std.proofs.Common.{◌≡◌, drop}
use Rattle.serde_json.specs.Data.{no_members}
use Rattle.serde_json.specs.View.{members_view}
use Rattle.ink_parts.specs.Written.{put_all}
use Rattle.ink_parts.proofs.frames.put_rows.Given as goal

abbrev pub invariant-loop-row : goal.invariant-loop-row
invariant-loop-row l = put_all (members_view l.members.entries) (drop l.row-index l.rows) ≡ put_all no_members l.rows
