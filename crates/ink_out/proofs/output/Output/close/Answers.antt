use Rattle.std.proofs.Common.{◌∙◌, ◌≤◌, ap, arith, length, refl, reverse, sym, vec_capacity}
use Rattle.std.proofs.lemmas.List.{length-reverse}
use Rattle.ink_out.proofs.Closing.{closed_popped, some_open}
use Rattle.ink_out.proofs.Undoing.{goes-unmarked}
use Rattle.ink_out.proofs.output.Output.close.Goals as goal

pub invariant_of-self : goal.invariant_of-self
invariant_of-self c =
    let s = c.self.inside in
    let popped = c.pop.new.self in
    let few : length (reverse popped.items) ≤ vec_capacity popped = omega (arith, length-reverse popped.items, popped.ok.0, popped.ok.1) in
    (c.self.invariant.0, goes-unmarked (vec_capacity popped) s.trail.undo _ (sym c.is_marked.ensures ∙ c.if-is_marked.false) (c.self.invariant.0, few))

pub returns-clause-page : goal.returns-clause-page
returns-clause-page c =
    let s = c.self.inside in
    let some = some_open s.sections.items c.args.self.now.page.sections (ap (λ w. w.page.sections) c.self.view_is) c.requires in
    rw (← c.self.view_is, closed_popped s.line s.sections.items c.pop.new.self.items s.sections.len s.next_enter s.sections.ok.0 some c.pop.ensures.rest) (refl, tt)
