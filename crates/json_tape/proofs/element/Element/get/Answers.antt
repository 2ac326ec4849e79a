use Rattle.std.proofs.Common.{None, Some, refl, sym, ap, ◌∙◌, subst, arith}
use Rattle.json_tape.proofs.Common.{Finds, later_or, get_member, get}
use Rattle.json_tape.proofs.Elements.{get_nothing, or_nothing, found_now, passed_by}
use Rattle.json_tape.proofs.element.Element.get.Goals as goal

pub returns-in_err-members : goal.returns-in_err-members
returns-in_err-members c j h = rw c.from_residual.ensures (get_nothing c.args.name.now j (c.in_err-members.ensures j h))

pub loop-key-init : goal.loop-key-init
loop-key-init c j h =
    let all = c.in_ok-members.ensures j h in
    (all.0, None, all.2, refl, ap (get c.args.name.now) all.1 ∙ sym (or_nothing _))

pub loop-key-preserved-then-eq : goal.loop-key-preserved-then-eq
loop-key-preserved-then-eq c j h =
    let name = c.args.name.now in
    let now = c.loop-key.invariant j h in
    let next = c.in-Some.ensures.value now.0 now.2 in
    (next.1, Some next.0, next.4, (next.0, refl, next.3), now.4 ∙ ap (λ ms. later_or (get_member name ms) now.1) next.2 ∙ found_now name c.in-Some.key.now next.0 next.1 now.1 (grind arith))

pub loop-key-preserved : goal.loop-key-preserved
loop-key-preserved c j h =
    let name = c.args.name.now in
    let now = c.loop-key.invariant j h in
    let next = c.in-Some.ensures.value now.0 now.2 in
    (next.1, now.1, next.4, now.3, now.4 ∙ ap (λ ms. later_or (get_member name ms) now.1) next.2 ∙ passed_by name c.in-Some.key.now next.0 next.1 now.1 (grind arith))

pub returns : goal.returns
returns c j h =
    let now = c.loop-key.invariant j h in
    let over = c.in_default.ensures.value now.0 now.2 in
    subst (Finds c.loop-key.last) (sym (now.4 ∙ ap (λ ms. later_or (get_member c.args.name.now ms) now.1) over)) now.3
