use Rattle.std.proofs.Common.{◌∙◌, arith}
use Rattle.std.proofs.lemmas.List.{take_all}
use Rattle.ink_frames.proofs.Mapping.{copied_on}
use Rattle.ink_frames.proofs.temp_rows.all_copied.Goals as goal

pub returns-clause-copy : goal.returns-clause-copy
returns-clause-copy c = c.loop-row.invariant.0 ∙ take_all c.loop-row.row-index c.args.rows.now c.loop-row-test.false

pub loop-row-preserved : goal.loop-row-preserved
loop-row-preserved c = (
  copied_on c.args.rows.now c.loop-row.copies.items c.push_reserved.new.self.items c.loop-row.row-index c.in_ok-copied.field-0 c.row-item.result c.loop-row-test.true
      c.push_reserved.ensures.items c.loop-row.invariant.0 c.in_ok-copied.ensures c.row-item.is,
  omega (arith, c.loop-row.invariant.1, c.push_reserved.ensures.capacity),
)
