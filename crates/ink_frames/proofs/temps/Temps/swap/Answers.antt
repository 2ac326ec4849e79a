use Rattle.std.proofs.Common.{◌≡◌, ◌∙◌, ◌≤◌, length, subst, sym, true}
use Rattle.ink_model.specs.Variables.Rows.{name_order, rows_rise}
use Rattle.ink_frames.specs.Temps.{rows_of}
use Rattle.ink_frames.proofs.Cells.{value_past, value_rises}
use Rattle.ink_frames.proofs.temps.Temps.swap.Goals as goal

pub returns-then-index-as_slice : goal.returns-then-index-as_slice
returns-then-index-as_slice c =
    let rows = rows_of c.self.inside.rows in
    let past : length rows ≤ c.args.index = rw c.as_slice.ensures at c.if-index-as_slice.true in
    rw (← c.self.view_is) (sym (value_past c.args.index c.args.value rows past))

pub invariant_of-self : goal.invariant_of-self
invariant_of-self c =
    subst (λ rs. rows_rise name_order rs ≡ true) (sym c.replace.ensures.rows) (value_rises c.args.index c.args.value (rows_of c.self.inside.rows) ∙ c.self.invariant)
