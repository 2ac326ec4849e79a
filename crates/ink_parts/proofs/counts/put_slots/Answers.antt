use Rattle.ink_tree.specs.Nodes.{story_tree}
use Rattle.ink_parts.proofs.Numbering.{put_no_row, put_row_more}
use Rattle.ink_parts.proofs.counts.put_slots.Goals.{in-Some+in_ok-put_row, in_default}
use Rattle.ink_parts.proofs.counts.put_slots.Goals as goal

pub loop-number-preserved : goal.loop-number-preserved
loop-number-preserved c =
    let s = story_tree c.args.tree.now in
    let slots = c.args.slots.now in
    let i = c.loop-number.number in
    elim c.match-slots-number.branch [
      | in-Some+in_ok-put_row w ↦ rw w.out-is (put_row_more s slots i c.loop-number-test.true _ _ c.loop-number.invariant w.in-Some.count _ w.in-Some.is w.in_ok-put_row.ensures)
      | in_default w ↦ rw w.out-is (put_no_row s slots i c.loop-number-test.true _ _ c.loop-number.invariant w.in_default.not-Some)
    ]
