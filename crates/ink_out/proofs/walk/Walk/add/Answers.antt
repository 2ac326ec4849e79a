use Rattle.std.proofs.Common.{◌∷◌}
use Rattle.ink_model.specs.declared.mark.Mark.TheVariants.{Enter, Leave}
use Rattle.ink_out.specs.Stands.{Leads}
use Rattle.ink_out.proofs.walk.Walk.add.Goals as goal

pub returns-in-Enter : goal.returns-in-Enter
returns-in-Enter c cleans starts before at leads k =
    let known : Leads starts (Enter c.in-Enter.field-0 ∷ before) = rw (← c.mark.view_is, c.in-Enter.is) at leads in
    rw (← c.mark.view_is, c.in-Enter.is) (c.enter.ensures cleans starts before _ known k)

pub returns-in-Leave : goal.returns-in-Leave
returns-in-Leave c cleans starts before at leads k =
    let known : Leads starts (Leave c.in-Leave.number ∷ before) = rw (← c.mark.view_is, c.in-Leave.is) at leads in
    rw (← c.mark.view_is, c.in-Leave.is) (c.leave.ensures cleans starts before known k)
