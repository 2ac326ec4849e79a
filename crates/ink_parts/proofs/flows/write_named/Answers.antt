use Rattle.std.proofs.Common.{◌∙◌, ap, codes}
use Rattle.ink_parts.proofs.Common.{put, string, flow_of, story_tree}
use Rattle.ink_model.specs.Save.Spelling.{flow_members}
use Rattle.ink_parts.proofs.Arrays.{object_made}
use Rattle.ink_parts.proofs.flows.write_named.Goals as goal

pub returns : goal.returns
returns c =
    let members = flow_members (flow_of (story_tree c.args.tree.now) c.args.flow.now) in
    object_made (λ ms. members (put (codes "name") (string c.args.name.now) ms)) _ _ c.new-members.ensures.empty (c.in_ok-add_flow.ensures ∙ ap members c.in_ok-add_text.ensures)
