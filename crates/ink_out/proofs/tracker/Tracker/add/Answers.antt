use Rattle.std.proofs.Common.{ℕ, List, ◌∷◌, Option}
use Rattle.ink_out.proofs.Common.{Mark, Leave, Enters, Knows}
use Rattle.ink_out.proofs.tracker.Tracker.add.Goals as goal

pub returns-in-Text : goal.returns-in-Text
returns-in-Text c before settled at knows t = rw (← c.mark.view_is, c.in-Text.is) (c.text.ensures before _ settled t)

pub returns-in-Part : goal.returns-in-Part
returns-in-Part c before settled at knows t = rw (← c.mark.view_is, c.in-Part.is) (c.text-in-Part.ensures before _ settled t)

pub returns-in-Blank : goal.returns-in-Blank
returns-in-Blank c before settled at knows t = rw (← c.mark.view_is, c.in-Blank.is) (c.blank.ensures before _ settled at t)

pub returns-in-BlankPart : goal.returns-in-BlankPart
returns-in-BlankPart c before settled at knows t = rw (← c.mark.view_is, c.in-BlankPart.is) (c.blank-in-BlankPart.ensures before _ settled at t)

pub returns-in-Newline : goal.returns-in-Newline
returns-in-Newline c before settled at knows t = rw (← c.mark.view_is, c.in-Newline.is) (c.newline.ensures.tracks before settled at t)

pub returns-in-Glue : goal.returns-in-Glue
returns-in-Glue c before settled at knows t = rw (← c.mark.view_is, c.in-Glue.is) (c.glue.ensures before settled t)

pub returns-in-Tag : goal.returns-in-Tag
returns-in-Tag c before settled at knows t = rw (← c.mark.view_is, c.in-Tag.is) (c.tag.ensures before _ settled t)

pub returns-in-Enter : goal.returns-in-Enter
returns-in-Enter c before settled at knows t = rw (← c.mark.view_is, c.in-Enter.is) (c.enter.ensures before _ settled t)

-- an end adds no start
started : (n : Option ℕ) (enters : Enters) (before : List Mark) → Knows enters (Leave n ∷ before) → Knows enters before
started n enters before k = record { starts = k.starts }

pub returns-in-Leave : goal.returns-in-Leave
returns-in-Leave c before settled at knows t =
    let known : Knows c.args.enters.now (Leave c.in-Leave.number ∷ before) = rw (← c.mark.view_is, c.in-Leave.is) at knows in
    rw (← c.mark.view_is, c.in-Leave.is) (c.end.ensures before settled (started c.in-Leave.number c.args.enters.now before known) t)
