use Rattle.std.proofs.Common.{◌≡◌, ◌∙◌, [], ◌∷◌, ◌++◌, ◌+◌, suc, None, ap, arith, is_some, length, subst, sym}
use Rattle.ink_stack.proofs.Common.{Settled}
use Rattle.ink_stack.proofs.Settling.{no_number, settled_below, settled_next}
use Rattle.ink_stack.proofs.running.settled_above.Goals as goal

pub returns-then-is_none : goal.returns-then-is_none
returns-then-is_none g c = λ fs many h.
    let f = c.args.frame.now in
    let none : f.enter ≡ None = no_number f.enter c.is_none.result (ap is_some (sym c.number.ensures) ∙ c.is_none.ensures) c.if-is_none.true in
    let next : suc (length fs) ≡ c.args.count + 1 = omega (arith, many) in
    let all : Settled (length fs) fs = subst (λ n. Settled n fs) (c.if-settled-count.true ∙ sym many) h in
    subst (λ n. Settled n (fs ++ f ∷ [])) next (settled_next f fs none all)

pub returns : goal.returns
returns g c = λ fs many h. settled_below c.args.settled fs (c.args.frame.now ∷ []) h
