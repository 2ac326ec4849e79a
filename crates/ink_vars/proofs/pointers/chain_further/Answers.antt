use Rattle.std.proofs.Common.{rules, to_z-of_z}
use Rattle.ink_vars.proofs.Chains.{chain_step, last_here}
use Rattle.ink_vars.proofs.pointers.chain_further.Goals as goal

pub loop-left-preserved : goal.loop-left-preserved
loop-left-preserved g c = search (rules, to_z-of_z, chain_step)

pub returns-in_default-clause-end : goal.returns-in_default-clause-end
returns-in_default-clause-end g c = search (rules, to_z-of_z, last_here)
