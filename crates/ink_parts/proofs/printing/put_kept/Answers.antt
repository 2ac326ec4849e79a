use Rattle.std.proofs.Common.{◌∙◌, ap, sym}
use Rattle.ink_parts.proofs.Common.{string, flow_of, finally, story_tree}
use Rattle.ink_flows.proofs.Mapped.{current_seen}
use Rattle.ink_model.specs.Save.Spelling.{count_data}
use Rattle.ink_parts.proofs.Texts.{member_as}
use Rattle.ink_parts.proofs.printing.put_kept.Goals as goal

pub returns : goal.returns
returns c =
    let r = c.put-2.result in
    let name = member_as _ _ _ _ _ (ap string (c.current_name.ensures ∙ sym (current_seen (flow_of (story_tree c.args.tree.now)) c.args.kept.now.aside.now))) c.in_ok-put_text.ensures in
    let turn = member_as _ _ _ _ _ (ap count_data c.number.ensures.number) c.in_ok-put_number-2.ensures in
    finally r _ _ _ _ _ c.in_ok-put.ensures (finally r _ _ _ _ _ name (finally r _ _ _ _ _ c.in_ok-put_flows.ensures (finally r _ _ _ _ _ c.in_ok-put_number.ensures
    (finally r _ _ _ _ _ c.in_ok-put_globals.ensures (finally r _ _ _ _ _ turn (finally r _ _ _ _ _ c.in_ok-put_counts.ensures
    (finally r _ _ _ _ _ c.in_ok-put_counts-2.ensures c.put-2.ensures)))))))
