use Rattle.std.proofs.Common.{◌∙◌, ap, arith, length}
use Rattle.ink_out.specs.Stands.{Passing}
use Rattle.ink_out.proofs.Starting.{passes_one}
use Rattle.ink_out.proofs.enters.Passed.pass.Goals as goal

pub returns-then-self : goal.returns-then-self
returns-then-self c starts before n leads passes =
    let is = ap (λ (p : Passing). p.count) c.self.view_is ∙ passes.count in
    record { same = ap (λ (p : Passing). p.starts) c.self.view_is ∙ passes.same; count = omega (arith, is) }

pub returns-else-self : goal.returns-else-self
returns-else-self c starts before n leads passes =
    let same = ap (λ (p : Passing). length p.starts) c.self.view_is ∙ ap length passes.same in
    let is = ap (λ (p : Passing). p.count) c.self.view_is ∙ passes.count in
    let more = passes_one starts before n c.self.inside.count leads is in
    record { same = passes.same; count = omega (arith, same, more, c.if-self.false) }
