use Rattle.std.proofs.Common.{ap, arith, is_some}
use Rattle.ink_vars.proofs.Noting.{on_error}
use Rattle.ink_vars.proofs.Numbers.{there_below}
use Rattle.ink_vars.proofs.Taking.{absent_past}
use Rattle.ink_vars.proofs.changes.Changes.put_any.Goals as goal

pub put_new-requires-clause-absent : goal.put_new-requires-clause-absent
put_new-requires-clause-absent c =
    ap is_some (absent_past c.args.name.now c.args.globals.now (omega (arith, c.index_of-index.ensures, c.len.ensures.len, c.if-index-len.true)))

pub returns-then-index-len-clause-memory : goal.returns-then-index-len-clause-memory
returns-then-index-len-clause-memory c =
    on_error c.put_new.result (ap is_some (absent_past c.args.name.now c.args.globals.now (omega (arith, c.index_of-index.ensures, c.len.ensures.len, c.if-index-len.true))))

pub put_at-requires-clause-there : goal.put_at-requires-clause-there
put_at-requires-clause-there c = there_below c.args.name.now c.args.globals.now (omega (arith, c.index_of-index.ensures, c.len.ensures.len, c.if-index-len.false))
