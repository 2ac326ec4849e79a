use Rattle.std.proofs.Common.{◌≡◌, [], ◌∷◌, ◌++◌, length, reverse, sym, ◌∙◌, rules}
use Rattle.std.proofs.lemmas.List.{length-reverse}
use Rattle.ink_out.proofs.Standing.{sees_more}
use Rattle.ink_out.proofs.section.Section.add.Goals as goal

pub invariant_of-self-2 : goal.invariant_of-self-2
invariant_of-self-2 c =
    let s = c.self.inside in
    let before = reverse s.marks.items in
    let marks : c.push_reserved.new.self.items ≡ s.marks.items ++ c.args.mark ∷ [] = search rules in
    let at : c.len-at.result ≡ length before = let len : c.len-at.result ≡ length s.marks.items = search rules in len ∙ sym (length-reverse s.marks.items) in
    rw marks
    (sees_more s.marks.items s.settled.items c.settle.new.settled.items s.state c.add.new.self s.enters c.note.new.self c.args.mark
    (search rules)
    (c.add.ensures before (reverse s.settled.items) at (c.in_ok-note.ensures.ok before at c.self.invariant.knows))
    (c.in_ok-note.ensures.ok before at c.self.invariant.knows)
    c.self.invariant)

pub invariant_of-self-in_err-make_room : goal.invariant_of-self-in_err-make_room
invariant_of-self-in_err-make_room c = rw (c.reserve.ensures.items, c.make_room.ensures.items) c.self.invariant

pub invariant_of-self-in_err-note : goal.invariant_of-self-in_err-note
invariant_of-self-in_err-note c = rw (c.reserve.ensures.items, c.make_room.ensures.items) (record { stands = c.self.invariant.stands; knows = c.in_err-note.ensures.err _ c.self.invariant.knows })

pub settle-requires : goal.settle-requires
settle-requires c = c.in_ok-make_room.ensures.room
