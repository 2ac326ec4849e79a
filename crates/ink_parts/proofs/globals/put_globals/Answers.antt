use Rattle.ink_parts.proofs.Common.{global_data, finally, list_whole}
use Rattle.ink_parts.proofs.globals.put_globals.Goals as goal

pub returns : goal.returns
returns c =
    finally c.put-3.result _ _ _ _ _ c.in_ok-put.ensures
    (list_whole global_data c.args.globals.now.rows c.put-3.result _ _ _ _ c.in_ok-put-2.ensures c.in_ok-put_rows.ensures c.put-3.ensures)
