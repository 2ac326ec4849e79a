use Rattle.std.proofs.Common.{ap, arith}
use Rattle.json_tape.specs.Size.{items_size}
use Rattle.json_tape.proofs.Common.{json_data, items_left, items_count}
use Rattle.json_tape.proofs.Counts.{items_are, count_within}
use Rattle.json_tape.proofs.value.Value.len.Goals as goal

pub loop-count-init : goal.loop-count-init
loop-count-init c =
    let all = items_are (json_data c.args.self.now) (items_left c.in-Some.items) c.in-Some.ensures in
    record {
      counted = omega (arith, ap items_count all);
      within = omega (arith, c.requires, count_within (items_left c.in-Some.items), ap items_size all);
    }
