use Rattle.std.proofs.Common.{◌≡◌, subst, sym, true}
use Rattle.ink_model.specs.Variables.Rows.{name_order, rows_rise}
use Rattle.ink_frames.specs.Temps.{rows_of}
use Rattle.ink_frames.proofs.Cells.{removed_rises}
use Rattle.ink_frames.proofs.temps.Temps.put_back.Goals as goal

pub invariant_of-self : goal.invariant_of-self
invariant_of-self c =
    subst (λ rs. rows_rise name_order rs ≡ true) (sym c.remove.ensures) (removed_rises c.args.index (rows_of c.self.inside.rows) c.self.invariant)
