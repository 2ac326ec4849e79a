use Rattle.std.proofs.Common.{◌∙◌, ap}
use Rattle.ink_flows.specs.Standing.{aside_of, flow_of}
use Rattle.ink_tree.specs.Nodes.{story_tree}
use Rattle.ink_parts.proofs.Arrays.{object_made}
use Rattle.ink_parts.specs.Parts.{flows_members, kept_as}
use Rattle.ink_parts.specs.Written.{shared_members}
use Rattle.ink_parts.proofs.saving.write.Goals as goal

pub returns : goal.returns
returns c =
    let s = story_tree c.args.tree.now in
    let k = c.args.kept.now in
    let flows = flows_members (flow_of s k.flow.now) (aside_of s k.aside.now) in
    object_made (λ ms. flows (shared_members (kept_as s k).now.shared ms)) _ _ c.new-members.ensures.empty (c.in_ok-add_flows.ensures ∙ ap flows c.in_ok-add_shared.ensures)
