use Rattle.std.proofs.Common.{sym, ap}
use Rattle.json_tape.specs.Shape.{first_item}
use Rattle.json_tape.proofs.Left.{next_ordered, items_left}
use Rattle.json_tape.proofs.Shapes.{next_item, no_item, left_readable}
use Rattle.json_tape.proofs.ordered.OrderedJson.next_item.Goals as goal

pub invariant_of-left : goal.invariant_of-left
invariant_of-left c =
    let left = c.args.left.now in
    record {
      readable = left_readable left.rest c.next.new.self c.next.result left.readable c.next.ensures.value c.next.ensures.stays;
      ordered = items_left left.rest c.next.new.self c.next.result left.readable left.ordered c.next.ensures.value c.next.ensures.stays;
    }

pub invariant_of-result : goal.invariant_of-result
invariant_of-result c = record { readable = (next_item c.args.left.now.rest _ c.in-Some.element c.args.left.now.readable c.in-Some.ensures.value).0 }

pub invariant_of-result-in-Some : goal.invariant_of-result-in-Some
invariant_of-result-in-Some c = record { ordered = (next_ordered c.args.left.now.rest _ c.in-Some.element c.args.left.now.readable c.args.left.now.ordered c.in-Some.ensures.value).0 }

pub returns-in-Some : goal.returns-in-Some
returns-in-Some c = ap first_item (sym (next_item c.args.left.now.rest _ c.in-Some.element c.args.left.now.readable c.in-Some.ensures.value).2)

pub returns-in-None : goal.returns-in-None
returns-in-None c = ap first_item (sym (no_item c.args.left.now.rest c.next.new.self c.args.left.now.readable c.in-None.ensures.value))
