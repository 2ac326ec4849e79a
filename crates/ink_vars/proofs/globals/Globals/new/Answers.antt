use Rattle.std.proofs.Common.{ap, arith, is_some, length, subst, sym}
use Rattle.ink_vars.proofs.Covering.{covers_unmarked}
use Rattle.ink_vars.specs.Globals.{DifferInName}
use Rattle.ink_vars.proofs.Fitting.{fits_none}
use Rattle.ink_vars.proofs.globals.Globals.new.Goals as goal

pub invariant_of-result : goal.invariant_of-result
invariant_of-result c = (
  fits_none c.new-2.result c.new.result c.new-2.ensures (subst DifferInName (sym c.new.ensures) tt) (omega (arith, ap length c.new.ensures)),
  covers_unmarked c.new-2.result.noted (length c.new.result) c.new-3.result.undo (ap is_some c.new-3.ensures),
)
