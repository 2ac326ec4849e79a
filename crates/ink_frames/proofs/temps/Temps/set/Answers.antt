use Rattle.std.proofs.Common.{◌≡◌, ◌∙◌, ◌∷◌, ◌++◌, ℕ, List, Ok, Err, [], ap, drop, sym, take, subst, true}
use Rattle.ink_frames.proofs.Common.{name_order, rows_rise, FindsName, Value, text_of}
use Rattle.std.specs.List.{remove}
use Rattle.ink_frames.specs.Temps.{rows_of}
use Rattle.ink_frames.specs.Cells.{value_at}
use Rattle.ink_frames.proofs.Cells.{removed_back, value_back, value_is, value_rises}
use Rattle.ink_frames.proofs.Rises.{put_rises}
use Rattle.ink_frames.proofs.temps.Temps.set.Goals.{In-Ok, In-Err}
use Rattle.ink_frames.proofs.temps.Temps.set.Goals as goal

found : (c : In-Ok) → FindsName (text_of c.args.name) (rows_of c.self.inside.rows) (Ok c.in-Ok.index)
found c = rw (c.as_slice.ensures, c.as_str.ensures) at c.in-Ok.ensures

absent : (c : In-Err) → FindsName (text_of c.args.name) (rows_of c.self.inside.rows) (Err c.in-Err.index)
absent c = rw (c.as_slice.ensures, c.as_str.ensures) at c.in-Err.ensures

pub invariant_of-self : goal.invariant_of-self
invariant_of-self c =
    subst (λ rs. rows_rise name_order rs ≡ true) (sym c.replace-was.ensures.rows) (value_rises c.in-Ok.index c.args.value (rows_of c.self.inside.rows) ∙ c.self.invariant)

pub invariant_of-self-in-Err : goal.invariant_of-self-in-Err
invariant_of-self-in-Err c =
    let rows = rows_of c.self.inside.rows in
    let h = absent (goal.at.invariant_of-self-in-Err c).In-Err in
    let name = c.in_ok-name-in-Err.ensures in
    subst (λ rs. rows_rise name_order rs ≡ true)
    (h.2 c.args.value ∙ ap (λ n. take c.in-Err.index rows ++ (n, c.args.value) ∷ drop c.in-Err.index rows) (sym name) ∙ sym c.in_ok-insert-in-Err.ensures.ok)
    (put_rises (text_of c.args.name) c.args.value rows c.self.invariant)

pub returns-in-Ok-clause-ok : goal.returns-in-Ok-clause-ok
returns-in-Ok-clause-ok c =
    let rows = rows_of c.self.inside.rows in
    let h = found (goal.at.returns-in-Ok-clause-ok c).In-Ok in
    let d : List ℕ × Value = ([], c.args.value) in
    rw (← c.self.view_is)
    (c.replace-was.ensures.rows ∙ sym (value_is c.in-Ok.index c.args.value rows d h.0) ∙ sym (h.2 d c.args.value))

pub returns-in-Ok-clause-back : goal.returns-in-Ok-clause-back
returns-in-Ok-clause-back c =
    let rows = rows_of c.self.inside.rows in
    rw (← c.self.view_is)
    (ap (value_at c.in-Ok.index c.replace-was.result) c.replace-was.ensures.rows ∙ value_back c.in-Ok.index c.args.value c.replace-was.result rows c.replace-was.ensures.was)

pub returns-in_ok-insert-in-Err-clause-back : goal.returns-in_ok-insert-in-Err-clause-back
returns-in_ok-insert-in-Err-clause-back c =
    let rows = rows_of c.self.inside.rows in
    let h = absent (goal.at.returns-in_ok-insert-in-Err-clause-back c).In-Err in
    rw (← c.self.view_is)
    (ap (λ rs. remove rs c.in-Err.index) c.in_ok-insert-in-Err.ensures.ok ∙ removed_back c.in-Err.index _ rows h.0)
