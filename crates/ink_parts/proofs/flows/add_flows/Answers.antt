use Rattle.std.proofs.Common.{◌≡◌, ◌∙◌, OnOk, ap, codes, subst, sym}
use Rattle.ink_parts.proofs.Common.{put, string, members_view, flow_of, story_tree}
use Rattle.ink_flows.proofs.Mapped.{current_seen}
use Rattle.ink_parts.proofs.flows.add_flows.Goals as goal

pub returns : goal.returns
returns c =
    let name = ap string (c.current_name.ensures ∙ sym (current_seen (flow_of (story_tree c.args.tree.now)) c.args.aside.now)) in
    let flows = c.in_ok-put.ensures.ok ∙ ap (λ d. put (codes "flows") d (members_view c.args.members.now.entries)) c.in_ok-flows.ensures in
    subst (λ ms. OnOk c.add_text.result (members_view c.add_text.new.members.entries ≡ ms)) (λ i. put (codes "current") (name i) (flows i)) c.add_text.ensures
