use Rattle.serde_json.specs.Data.{put, string}
use Rattle.ink_parts.proofs.Arrays.{object_made}
use Rattle.ink_parts.proofs.writing.write_member.Goals as goal

pub returns : goal.returns
returns c = object_made (put c.args.name.now (string c.args.text.now)) _ _ c.new-members.ensures.empty c.in_ok-add_text.ensures
