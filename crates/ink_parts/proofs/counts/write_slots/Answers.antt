use Rattle.std.proofs.Common.{◌∙◌, ◌+◌, ap, subst, sym}
use Rattle.ink_tree.specs.Nodes.{story_tree}
use Rattle.ink_parts.proofs.Numbering.{Wrote, wrote_none, wrote_row}
use Rattle.ink_parts.proofs.counts.write_slots.Goals.{in-Some+in_ok-write_row+in_ok-push, in_default}
use Rattle.ink_parts.proofs.counts.write_slots.Goals as goal

pub loop-number-preserved : goal.loop-number-preserved
loop-number-preserved c =
    let s = story_tree c.args.tree.now in
    let slots = c.args.slots.now in
    let i = c.loop-number.number in
    let old = c.loop-number.made.items in
    elim c.match-slots-number.branch [
      | in-Some+in_ok-write_row+in_ok-push w ↦
          subst (λ vs. Wrote s slots i c.loop-number-test.true old vs (i + 1)) (sym (ap (λ v. v.items) w.made-is ∙ w.in_ok-push.ensures.items))
          (wrote_row s slots i c.loop-number-test.true old w.in-Some.count w.in_ok-write_row.field-0 w.in-Some.is w.in_ok-write_row.ensures c.loop-number.invariant)
      | in_default w ↦
          subst (λ vs. Wrote s slots i c.loop-number-test.true old vs (i + 1)) (sym (ap (λ v. v.items) w.made-is))
          (wrote_none s slots i c.loop-number-test.true old w.in_default.not-Some c.loop-number.invariant)
    ]
