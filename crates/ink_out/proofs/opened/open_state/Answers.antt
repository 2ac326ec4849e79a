use Rattle.ink_out.proofs.Closing.{nothing_open, on_top}
use Rattle.ink_out.specs.Undo.{open_in}
use Rattle.ink_out.specs.Stands.{IsStateOf}
use Rattle.std.proofs.Common.{refl, reverse, subst, sym}
use Rattle.ink_out.proofs.opened.open_state.Goals as goal

pub returns-in-Some : goal.returns-in-Some
returns-in-Some c = λ n.
    let sections = c.args.sections.now in
    let top = on_top sections sections (reverse sections) c.in-Some.opened.now refl refl (sym c.in-Some.ensures.value) in
    subst (λ xs. IsStateOf (open_in c.args.line.now xs) c.state.result) (sym top) c.state.ensures

pub returns-in-None : goal.returns-in-None
returns-in-None c = λ n.
    let sections = c.args.sections.now in
    let none = nothing_open sections sections (reverse sections) refl refl (sym c.in-None.ensures.value) in
    subst (λ xs. IsStateOf (open_in c.args.line.now xs) c.state-in-None.result) (sym none) c.state-in-None.ensures
