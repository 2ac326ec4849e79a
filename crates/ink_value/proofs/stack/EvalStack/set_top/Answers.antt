use Rattle.std.proofs.Common.{◌≡◌, ◌-◌, ap, arith, length, rules}
use Rattle.ink_value.proofs.Tops.{last_put}
use Rattle.ink_value.proofs.stack.EvalStack.set_top.Goals as goal

pub returns-clause-items : goal.returns-clause-items
returns-clause-items c =
    let vs = c.args.self.now.items in
    let same : c.self.inside.items.items ≡ vs = ap (λ s. s.items) c.self.view_is in
    let last : c.len-last.result - 1 ≡ length vs - 1 = search (rules, arith) in
    rw (same, last) (last_put vs (length vs - 1) c.args.value (omega (arith, c.requires.there)))
