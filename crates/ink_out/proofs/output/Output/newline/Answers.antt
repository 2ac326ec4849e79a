use Rattle.ink_out.proofs.Marks.{spare_after, stood_after}
use Rattle.ink_out.proofs.output.Output.newline.Goals as goal
use Rattle.std.proofs.Common.{refl}
use Rattle.ink_out.proofs.Noting.{nothing_written}

pub returns-then-fresh-clause-page : goal.returns-then-fresh-clause-page
returns-then-fresh-clause-page c =
    let written = nothing_written c.self.inside.line c.self.inside.sections.items c.self.inside.next_enter c.self.invariant.0 in
    rw (c.if-fresh.true, ← c.self.view_is, written) (refl, tt)

pub returns-then-fresh-clause-limit : goal.returns-then-fresh-clause-limit
returns-then-fresh-clause-limit c =
    let written = nothing_written c.self.inside.line c.self.inside.sections.items c.self.inside.next_enter c.self.invariant.0 in
    rw (c.if-fresh.true, ← c.self.view_is, written) tt

pub returns-clause-stood : goal.returns-clause-stood
returns-clause-stood c = stood_after c.note.result 1 _ _ c.note.ensures.trail

pub returns-clause-spare : goal.returns-clause-spare
returns-clause-spare c = spare_after c.note.result 1 _ _ c.note.ensures.trail
