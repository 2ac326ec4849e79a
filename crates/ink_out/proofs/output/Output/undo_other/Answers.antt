use Rattle.std.proofs.Common.{subst, sym, vec_capacity}
use Rattle.ink_out.specs.Undo.{GoesBack, output_back, room_of}
use Rattle.ink_out.proofs.Common.{page_of, trail_of}
use Rattle.ink_out.proofs.Undoing.{goes-more, goes-now}
use Rattle.ink_out.proofs.output.Output.undo_other.Goals as goal

pub put_one_back-requires-clause-keeps : goal.put_one_back-requires-clause-keeps
put_one_back-requires-clause-keeps c =
    let o = c.self.inside in
    let back = subst (λ es. GoesBack (vec_capacity o.sections) es (page_of o.line o.sections.items o.next_enter)) c.in-Some.ensures.pair c.self.invariant.1 in
    back.1

pub put_one_back-requires-clause-held : goal.put_one_back-requires-clause-held
put_one_back-requires-clause-held c =
    let o = c.self.inside in
    let pair = c.in-Some.pair in
    let page = page_of o.line o.sections.items o.next_enter in
    let back = subst (λ es. GoesBack (vec_capacity o.sections) es page) c.in-Some.ensures.pair c.self.invariant.1 in
    goes-now (room_of pair (vec_capacity o.sections)) (trail_of c.take_last.new.self.undo) (output_back pair page) back.2

pub invariant_of-self-2 : goal.invariant_of-self-2
invariant_of-self-2 c =
    let o = c.self.inside in
    let pair = c.in-Some.pair in
    let left = trail_of c.take_last.new.self.undo in
    let page = page_of o.line o.sections.items o.next_enter in
    let new = c.put_one_back.new in
    let back = subst (λ es. GoesBack (vec_capacity o.sections) es page) c.in-Some.ensures.pair c.self.invariant.1 in
    let goes : GoesBack (vec_capacity new.sections) left (page_of new.line new.sections.items new.next_enter) =
    subst (λ p. GoesBack (vec_capacity new.sections) left p) (sym c.put_one_back.ensures.page)
    (goes-more (room_of pair (vec_capacity o.sections)) (vec_capacity new.sections) left (output_back pair page) c.put_one_back.ensures.room back.2) in
    ((goes-now (vec_capacity new.sections) left (page_of new.line new.sections.items new.next_enter) goes).0, goes)
