use Rattle.std.proofs.Common.{refl, sym, subst, arith}
use Rattle.json_tape.proofs.Common.{InMembers}
use Rattle.json_tape.proofs.Elements.{fewer, member_over, no_member_here, member_next}
use Rattle.json_tape.proofs.element.Members.next.Goals as goal

pub returns-then-at-saturating_sub-clause-value : goal.returns-then-at-saturating_sub-clause-value
returns-then-at-saturating_sub-clause-value c ms h =
    member_over c.self.inside.tape.now c.self.inside.at ms (omega arith) (subst (λ ts. InMembers ts ms) (sym c.self.view_is) h)

pub returns-in_default : goal.returns-in_default
returns-in_default c =
    record {
      value = λ ms h. no_member_here c.self.inside.tape.now c.self.inside.at c.node.result ms c.node.ensures.token c.in_default.not-Key (subst (λ ts. InMembers ts ms) (sym c.self.view_is) h);
      shorter = tt;
      stays = refl;
    }

pub returns-clause-value : goal.returns-clause-value
returns-clause-value c ms h =
    let all = c.self.inside.tape.now in
    let value = c.node-2.ensures in
    member_next all c.self.inside.at c.behind-self-inside.result c.node.result c.in-Key.name ms c.node.ensures.token c.in-Key.is
    (c.behind-self-inside.ensures.value all value.link value.token) (subst (λ ts. InMembers ts ms) (sym c.self.view_is) h)

pub returns-clause-shorter : goal.returns-clause-shorter
returns-clause-shorter c =
    let later = c.behind-self-inside.ensures.later c.self.inside.tape.now c.node-2.ensures.link in
    fewer c.self.inside.tape.now c.args.self.now c.self.inside.at c.behind-self-inside.result c.self.view_is (omega arith) (omega (arith, later))
