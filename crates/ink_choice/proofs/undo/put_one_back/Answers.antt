use Rattle.std.proofs.Common.{◌≡◌, ◌∙◌, ◌-◌, ◌≤◌, ap, arith, length, rules, subst, sym, take, vec_capacity}
use Rattle.ink_trail.proofs.Ending.{but_last-take}
use Rattle.ink_choice.specs.Undo.{Held, choices_back, room_of}
use Rattle.ink_choice.proofs.Undoing.{one_longer, put_at_end, cleared_room}
use Rattle.ink_choice.proofs.undo.put_one_back.Goals as goal

pub returns-in-Added-clause-items : goal.returns-in-Added-clause-items
returns-in-Added-clause-items g c =
    let old = c.args.items.now in
    c.pop-added.ensures.rest ∙ ap (λ n. take (n - 1) old.items) old.ok.0 ∙ sym (but_last-take old.items) ∙ ap (λ p. choices_back p old.items) (sym c.in-Added.is)

pub insert_reserved-requires-clause-room : goal.insert_reserved-requires-clause-room
insert_reserved-requires-clause-room g c =
    let old = c.args.items.now in
    let held = subst (λ p. Held (room_of p (vec_capacity old)) (choices_back p old.items)) c.in-Taken.is c.requires in
    omega (arith, held.1, old.ok.0, one_longer old.items c.in-Taken.index c.in-Taken.choice)

pub returns-then-index-len-clause-items : goal.returns-then-index-len-clause-items
returns-then-index-len-clause-items g c = c.insert_reserved.ensures.items ∙ ap (λ p. choices_back p c.args.items.now.items) (sym c.in-Taken.is)

pub returns-then-index-len-clause-room : goal.returns-then-index-len-clause-room
returns-then-index-len-clause-room g c =
    let room = vec_capacity c.args.items.now in
    subst (λ p. room_of p room ≤ vec_capacity c.insert_reserved.new.items) (sym c.in-Taken.is) c.insert_reserved.ensures.capacity

pub push_reserved-requires : goal.push_reserved-requires
push_reserved-requires g c =
    let old = c.args.items.now in
    let held = subst (λ p. Held (room_of p (vec_capacity old)) (choices_back p old.items)) c.in-Taken.is c.requires in
    omega (arith, held.1, old.ok.0, one_longer old.items c.in-Taken.index c.in-Taken.choice)

pub returns-else-index-len-clause-items : goal.returns-else-index-len-clause-items
returns-else-index-len-clause-items g c =
    let old = c.args.items.now in
    let len : c.len.result ≡ length old.items = search rules in
    let behind = put_at_end old.items c.in-Taken.index c.in-Taken.choice (omega (arith, c.if-index-len.false, len)) in
    c.push_reserved.ensures.items ∙ behind ∙ ap (λ p. choices_back p old.items) (sym c.in-Taken.is)

pub returns-else-index-len-clause-room : goal.returns-else-index-len-clause-room
returns-else-index-len-clause-room g c =
    let room = vec_capacity c.args.items.now in
    subst (λ p. room_of p room ≤ vec_capacity c.push_reserved.new.self) (sym c.in-Taken.is) (omega (arith, c.push_reserved.ensures.capacity))

pub returns-in-Cleared-clause-room : goal.returns-in-Cleared-clause-room
returns-in-Cleared-clause-room g c = cleared_room c.args.pair c.in-Cleared.list (vec_capacity c.args.items.now) c.in-Cleared.is
