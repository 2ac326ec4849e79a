use Rattle.std.proofs.Common.{◌≡◌, ◌∙◌, ap, arith, sym}
use Rattle.ink_protocol.proofs.Reading.{none_unread}
use Rattle.ink_protocol.proofs.input.Ahead.next.Goals as goal

pub returns-then-self-eq0-clause-gives : goal.returns-then-self-eq0-clause-gives
returns-then-self-eq0-clause-gives g c = (c.in_ok-fill.ensures.takes, ap (λ v. v.spare) (sym c.self.view_is) ∙ c.if-self-eq0.true, omega (arith, c.len.ensures))

pub returns-clause-gives : goal.returns-clause-gives
returns-clause-gives g c =
    let same : c.fill.new.self.spare ≡ c.self.inside.spare = ap (λ v. v.spare) (sym c.self.view_is) in
    (c.in_ok-fill.ensures.takes, omega (arith, c.len.ensures), omega (arith, c.in_ok-fill.ensures.bound))

pub returns-then-len-eq0-clause-gives : goal.returns-then-len-eq0-clause-gives
returns-then-len-eq0-clause-gives g c =
    let none = none_unread c.fill.new.self.unread (sym c.len.ensures ∙ c.if-len-eq0.true) in
    (c.in_ok-fill.ensures.takes, none, c.in_ok-fill.ensures.end none)
