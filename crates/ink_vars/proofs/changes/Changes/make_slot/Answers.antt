use Rattle.std.proofs.Common.{arith}
use Rattle.ink_vars.proofs.Marking.{few_noted}
use Rattle.ink_vars.proofs.changes.Changes.make_slot.Goals as goal

pub overflow_sub-free : goal.overflow_sub-free
overflow_sub-free c =
    let marked = c.self.inside.marked in
    let noted = c.self.inside.noted in
    omega (arith, few_noted marked.items noted.items c.self.invariant.0, c.len-2.ensures, c.len-3.ensures, marked.ok.0, noted.ok.0)
