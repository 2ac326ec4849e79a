use Rattle.std.proofs.Common.{◌≡◌, ◌⊎◌, arith}
use Rattle.std.proofs.lemmas.Grind.{common_steps}
use Rattle.ink_tree.proofs.Powers.{power_or_least}
use Rattle.ink_tree.proofs.children.slots_for.Goals as goal

pub returns-clause-power : goal.returns-clause-power
returns-clause-power c =
    let which : (c.max.result ≡ c.next_power_of_two-slots.result) ⊎ (c.max.result ≡ 1024) = grind (arith, common_steps) in
    power_or_least c.next_power_of_two-slots.result c.max.result which c.next_power_of_two-slots.ensures.power
