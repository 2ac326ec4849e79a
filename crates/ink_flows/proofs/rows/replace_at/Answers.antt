use Rattle.std.proofs.Common.{sym}
use Rattle.ink_flows.proofs.Current.{beyond}
use Rattle.ink_flows.proofs.rows.replace_at.Goals as goal

pub returns-in-None-clause-rows : goal.returns-in-None-clause-rows
returns-in-None-clause-rows c = sym (beyond c.args.index c.args.flow c.args.rows.now.entries (sym c.in-None.ensures.value))
