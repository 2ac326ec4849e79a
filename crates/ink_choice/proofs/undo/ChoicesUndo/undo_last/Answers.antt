use Rattle.std.proofs.Common.{◌∙◌, ap, arith, refl, subst, sym, vec_capacity}
use Rattle.ink_trail.proofs.Parting.{stays-last}
use Rattle.ink_trail.specs.Undo.{trail_of, writes_of}
use Rattle.ink_choice.specs.Undo.{Held, StaysHeld, choices_back, room_of}
use Rattle.ink_choice.proofs.Undoing.{held-as, held-more, held-now}
use Rattle.ink_choice.proofs.undo.ChoicesUndo.undo_last.Goals as goal

pub put_one_back-requires : goal.put_one_back-requires
put_one_back-requires g c =
    let room = vec_capacity c.self.inside.items in
    let old = c.self.inside.items.items in
    let left = trail_of c.take_last.new.self.undo in
    held-now (room_of c.in-Some.pair room) left (choices_back c.in-Some.pair old) (stays-last choices_back room_of Held c.in-Some.pair room _ left old c.in-Some.ensures.pair c.self.invariant.1)

pub invariant_of-self-2 : goal.invariant_of-self-2
invariant_of-self-2 g c =
    let room = vec_capacity c.self.inside.items in
    let old = c.self.inside.items.items in
    let new = c.put_one_back.new.items in
    let left = trail_of c.take_last.new.self.undo in
    let held : StaysHeld (vec_capacity new) left new.items =
    subst (λ cs. StaysHeld (vec_capacity new) left cs) (sym c.put_one_back.ensures.items) (held-more (room_of c.in-Some.pair room) (vec_capacity new) left (choices_back c.in-Some.pair old) c.put_one_back.ensures.room
    (stays-last choices_back room_of Held c.in-Some.pair room _ left old c.in-Some.ensures.pair c.self.invariant.1)) in
    ((held-now (vec_capacity new) left new.items held).0, held, tt)

pub invariant_of-self : goal.invariant_of-self
invariant_of-self g c = (
  c.self.invariant.0,
  held-as _ _ c.self.inside.trail.undo _ c.self.inside.items.items _ c.in_default.ensures.pair.1 refl (omega arith) c.self.invariant.1,
  c.self.invariant.2,
)

pub returns-in_default-clause-cells : goal.returns-in_default-clause-cells
returns-in_default-clause-cells g c =
    let none = c.in_default.ensures.pair in
    rw (← c.self.view_is) (none.0, refl, ap trail_of none.1 ∙ none.0, c.take_last.ensures.room)

pub returns-clause-cells : goal.returns-clause-cells
returns-clause-cells g c = rw (← c.self.view_is) (c.in-Some.pair, c.in-Some.ensures.pair, c.put_one_back.ensures.items, c.take_last.ensures.room)

pub returns-clause-writes : goal.returns-clause-writes
returns-clause-writes g c = c.take_last.ensures.writes ∙ ap (λ s. writes_of s.trail.undo) c.self.view_is

pub returns-in_default-clause-writes : goal.returns-in_default-clause-writes
returns-in_default-clause-writes g c = c.take_last.ensures.writes ∙ ap (λ s. writes_of s.trail.undo) c.self.view_is
