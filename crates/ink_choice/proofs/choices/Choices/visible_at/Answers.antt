use Rattle.ink_choice.proofs.Nth.{none_at, seen_at}
use Rattle.ink_choice.proofs.choices.Choices.visible_at.Goals as goal

pub returns-in-Some : goal.returns-in-Some
returns-in-Some g c =
    let found = rw c.as_slice.ensures.value at c.in-Some.ensures in
    rw (← c.self.view_is) (seen_at c.args.number c.in-Some.index c.self.inside.items.items c.index.result.now found c.index.ensures)

pub returns-in-None : goal.returns-in-None
returns-in-None g c = rw (← c.self.view_is) (none_at c.args.number c.self.inside.items.items (rw c.as_slice.ensures.value at c.in-None.ensures))
