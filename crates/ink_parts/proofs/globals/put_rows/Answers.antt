use Rattle.std.proofs.Common.{sym}
use Rattle.ink_model.specs.Save.Spelling.{global_data}
use Rattle.ink_parts.proofs.Texts.{row_last, row_more}
use Rattle.ink_parts.proofs.globals.put_rows.Goals as goal

pub loop-index-preserved : goal.loop-index-preserved
loop-index-preserved c = row_more global_data _ _ _ _ _ _ (sym c.in-Some.ensures) c.loop-index.invariant c.in_ok-put_global.ensures

pub returns-in_default : goal.returns-in_default
returns-in_default c = row_last global_data c.args.globals.now.rows c.loop-index.index _ _ (sym c.in_default.ensures) c.loop-index.invariant
