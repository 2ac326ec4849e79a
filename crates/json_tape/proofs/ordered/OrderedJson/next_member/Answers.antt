use Rattle.std.proofs.Common.{sym, ap}
use Rattle.json_tape.specs.Shape.{first_member}
use Rattle.json_tape.proofs.Left.{next_one, no_one, members_left}
use Rattle.json_tape.proofs.ordered.OrderedJson.next_member.Goals as goal

pub invariant_of-left : goal.invariant_of-left
invariant_of-left c =
    let left = c.args.left.now in
    let kept = members_left left.rest c.next.new.self c.next.result left.readable left.ordered c.next.ensures.value c.next.ensures.stays in
    record { readable = kept.readable; ordered = kept.ordered }

pub invariant_of-result : goal.invariant_of-result
invariant_of-result c =
    let left = c.args.left.now in
    record { readable = (next_one left.rest _ c.in-Some.element c.in-Some.name.now left.readable left.ordered c.in-Some.ensures.value).readable }

pub invariant_of-result-in-Some : goal.invariant_of-result-in-Some
invariant_of-result-in-Some c =
    let left = c.args.left.now in
    record { ordered = (next_one left.rest _ c.in-Some.element c.in-Some.name.now left.readable left.ordered c.in-Some.ensures.value).ordered }

pub returns-in-Some : goal.returns-in-Some
returns-in-Some c =
    let left = c.args.left.now in
    ap first_member (sym (next_one left.rest _ c.in-Some.element c.in-Some.name.now left.readable left.ordered c.in-Some.ensures.value).same)

pub returns-in-None : goal.returns-in-None
returns-in-None c = ap first_member (sym (no_one c.args.left.now.rest c.next.new.self c.args.left.now.readable c.in-None.ensures.value))
