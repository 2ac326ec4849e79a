use Rattle.ink_spelling.proofs.Lists.{fewer}
use Rattle.ink_spelling.proofs.spelled.read_items.Goals as goal

pub loop-item-smaller : goal.loop-item-smaller
loop-item-smaller g c = fewer (g.J.Json.elements c.loop-item.rest) (g.J.Json.spells c.in-Some.item) (g.J.Json.elements c.next_item.new.left) c.in-Some.ensures
