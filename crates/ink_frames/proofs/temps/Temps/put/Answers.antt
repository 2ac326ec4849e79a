use Rattle.std.proofs.Common.{◌≡◌, ◌∙◌, ◌<◌, ℕ, List, [], ap, bytes_eq, get_or, length, subst, sym, true}
use Rattle.std.proofs.lemmas.Bool.{OnTrue_at}
use Rattle.ink_frames.proofs.Common.{name_order, rows_rise, with_row, Value, text_of}
use Rattle.ink_frames.specs.Temps.{rows_of}
use Rattle.ink_frames.proofs.Cells.{value_is, value_rises}
use Rattle.ink_frames.proofs.Searching.{finds_here}
use Rattle.ink_frames.proofs.temps.Temps.put.Goals as goal

pub invariant_of-self : goal.invariant_of-self
invariant_of-self c =
    subst (λ rs. rows_rise name_order rs ≡ true) (sym c.replace.ensures.rows) (value_rises 0 c.args.value (rows_of c.self.inside.rows) ∙ c.self.invariant)

pub returns-clause-ok : goal.returns-clause-ok
returns-clause-ok c =
    let rows = rows_of c.self.inside.rows in
    let d : List ℕ × Value = ([], c.args.value) in
    let some : 0 < length rows = OnTrue_at c.if-not-is_only.false c.is_only.ensures.some in
    let same : bytes_eq (get_or rows 0 d).0 c.as_str.result.now ≡ true = OnTrue_at c.if-not-is_only.false (c.is_only.ensures.same d) in
    let h = finds_here c.as_str.result.now rows 0 d c.self.invariant some same in
    let name : text_of c.args.name ≡ c.as_str.result.now = ap text_of c.in-Shared.is ∙ sym c.as_str.ensures in
    rw (← c.self.view_is)
    (c.replace.ensures.rows ∙ sym (value_is 0 c.args.value rows d some) ∙ sym (h.2 d c.args.value) ∙ ap (λ n. with_row name_order n c.args.value rows) (sym name))
