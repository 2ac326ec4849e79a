use Rattle.std.proofs.Common.{◌≡◌, ◌∙◌, Option, ap, arith, if◌then◌else◌, length, subst, sym, unwrap_or, ◌<◌, true}
use Rattle.ink_vars.proofs.Common.{with_items_is, nat_cmp, row, with_row, Undo, trail_of, AreCounts, rows_from, CountPair}
use Rattle.ink_model.specs.Variables.Counts.{one_more, counts}
use Rattle.ink_trail.proofs.Undoing.{stood-trails, spare-trails}
use Rattle.ink_vars.specs.Undo.{HaveSlots, counts_back, counts_stood, rows_of, with_rows, counts_spare}
use Rattle.ink_vars.proofs.Restored.{as_before}
use Rattle.ink_vars.proofs.Slotting.{have_more, have_rows, visit_trails, counts_late, counts_start, visit_counts}
use Rattle.ink_vars.proofs.counts.Counts.visit.Goals.{else-not-at_start-via-then-not-at_start+else-counts_at_start, else-not-at_start-via-else-not-at_start}
use Rattle.ink_vars.proofs.counts.Counts.visit.Goals as goal

pub invariant_of-self : goal.invariant_of-self
invariant_of-self c =
    let inv = c.self.invariant in
    (c.make_room.ensures.counts inv.0, inv.1, have_more _ _ _ _ _ c.make_room.ensures.grows (omega arith) inv.2)

pub invariant_of-self-in_err-make_room-2 : goal.invariant_of-self-in_err-make_room-2
invariant_of-self-in_err-make_room-2 c =
    let inv = c.self.invariant in
    (c.make_room.ensures.counts inv.0, c.make_room-2.ensures.counts inv.1, have_more _ _ _ _ _ c.make_room.ensures.grows c.make_room-2.ensures.grows inv.2)

pub invariant_of-self-in_err-add_rows : goal.invariant_of-self-in_err-add_rows
invariant_of-self-in_err-add_rows c =
    let inv = c.self.invariant in (
      c.make_room.ensures.counts inv.0,
      c.make_room-2.ensures.counts inv.1,
      subst (λ (u : Option (Undo CountPair)). HaveSlots (length c.make_room.new.slots.items) (length c.make_room-2.new.slots.items) (trail_of u)) (sym c.in_err-add_rows.ensures.err.0)
          (have_more _ _ _ _ _ c.make_room.ensures.grows c.make_room-2.ensures.grows inv.2),
    )

pub invariant_of-self-2 : goal.invariant_of-self-2
invariant_of-self-2 c =
    let inv = c.self.invariant in
    let vis = with_items_is c.make_room.new.slots c.add_one.new.slots (c.add_one.auto.slots ∙ c.as_mut_slice.ensures.len) in
    let tur = with_items_is c.make_room-2.new.slots c.put.new.slots (c.put.auto.slots ∙ c.as_mut_slice-2.ensures.len) in
    let vs = c.make_room.new.slots.items in
    let ts = c.make_room-2.new.slots.items in
    let v = length c.add_one.new.slots in
    let t = length c.put.new.slots in
    let node = c.args.node in
    let same_v : length vs ≡ v = sym (c.add_one.auto.slots ∙ ap length c.as_mut_slice.ensures.value) in
    let same_t : length ts ≡ t = sym (c.put.auto.slots ∙ ap length c.as_mut_slice-2.ensures.value) in
    let counts_v : AreCounts vs = c.make_room.ensures.counts inv.0 in
    let counts_t : AreCounts ts = c.make_room-2.ensures.counts inv.1 in
    let noted : c.add_rows.new.trail.undo ≡ with_rows node c.counts_visits-visits.result c.notes_turns-turns.result (rows_of vs ts) c.self.inside.trail.undo =
    c.in_ok-add_rows.ensures.ok ∙ ap (λ s. with_rows node c.counts_visits-visits.result c.notes_turns-turns.result (rows_of s c.as_slice-2.result.now) c.self.inside.trail.undo) c.as_slice.ensures.value
    ∙ ap (λ s. with_rows node c.counts_visits-visits.result c.notes_turns-turns.result (rows_of vs s) c.self.inside.trail.undo) c.as_slice-2.ensures.value in
    let have : HaveSlots (length vs) (length ts) (trail_of c.add_rows.new.trail.undo) =
    rw noted (have_rows c.counts_visits-visits.result c.notes_turns-turns.result node vs ts c.self.inside.trail.undo counts_v counts_t
    c.in_ok-make_room.ensures.room c.in_ok-make_room-2.ensures.room (have_more _ _ _ _ _ c.make_room.ensures.grows c.make_room-2.ensures.grows inv.2)) in
    rw (vis, tur) (
      c.add_one.ensures.counts (subst AreCounts (sym c.as_mut_slice.ensures.value) counts_v),
      c.put.ensures.counts (subst AreCounts (sym c.as_mut_slice-2.ensures.value) counts_t) c.number.ensures.most,
      have_more _ _ _ _ _ (omega (arith, same_v)) (omega (arith, same_t)) have,
    )

pub returns-clause-trail : goal.returns-clause-trail
returns-clause-trail c =
    let vis = with_items_is c.make_room.new.slots c.add_one.new.slots (c.add_one.auto.slots ∙ c.as_mut_slice.ensures.len) in
    let tur = with_items_is c.make_room-2.new.slots c.put.new.slots (c.put.auto.slots ∙ c.as_mut_slice-2.ensures.len) in
    let node = c.args.node in
    let b = c.counts_visits-visits.result in
    let t = c.notes_turns-turns.result in
    let was = c.args.self.now.rows in
    let vrows : rows_from 0 c.make_room.new.slots.items ≡ was.visits = c.make_room.ensures.rows ∙ ap (λ g. g.rows.visits) c.self.view_is in
    let trows : rows_from 0 c.make_room-2.new.slots.items ≡ was.turns = c.make_room-2.ensures.rows ∙ ap (λ g. g.rows.turns) c.self.view_is in
    let rows : rows_of c.as_slice.result.now c.as_slice-2.result.now ≡ was =
    as_before was _ _ (ap (rows_from 0) c.as_slice.ensures.value ∙ vrows) (ap (rows_from 0) c.as_slice-2.ensures.value ∙ trows) in
    let undo : c.add_rows.new.trail.undo ≡ with_rows node b t was c.args.self.now.trail.undo =
    c.in_ok-add_rows.ensures.ok ∙ ap (λ r. with_rows node b t r c.self.inside.trail.undo) rows ∙ ap (λ g. with_rows node b t was g.trail.undo) c.self.view_is in
    rw (vis, tur) (visit_trails b t node (one_more (unwrap_or (row nat_cmp node was.visits) 0)) c.number.result was _ c.args.self.now.trail c.add_rows.new.trail
    (c.add_one.ensures.rows ∙ ap (λ rows. if b then with_row nat_cmp node (one_more (unwrap_or (row nat_cmp node rows) 0)) rows else rows) (ap (rows_from 0) c.as_mut_slice.ensures.value ∙ vrows))
    (c.put.ensures.rows ∙ ap (λ rows. if t then with_row nat_cmp node c.number.result rows else rows) (ap (rows_from 0) c.as_mut_slice-2.ensures.value ∙ trows))
    undo (omega (arith, c.add_rows.ensures.room, ap (λ g. g.trail.room) c.self.view_is)))

pub returns-clause-stood : goal.returns-clause-stood
unfolding counts_stood
returns-clause-stood c = stood-trails counts_back (returns-clause-trail c)

pub put-requires : goal.put-requires
put-requires c = subst (λ slots. c.notes_turns-turns.result ≡ true → c.args.node < length slots) (sym c.as_mut_slice-2.ensures.value) c.in_ok-make_room-2.ensures.room

pub add_one-requires : goal.add_one-requires
add_one-requires c = subst (λ slots. c.counts_visits-visits.result ≡ true → c.args.node < length slots) (sym c.as_mut_slice.ensures.value) c.in_ok-make_room.ensures.room

pub returns-clause-spare : goal.returns-clause-spare
unfolding counts_spare
returns-clause-spare c = spare-trails counts_back (returns-clause-trail c)

pub returns-clause-ok : goal.returns-clause-ok
returns-clause-ok c =
    let vis = with_items_is c.make_room.new.slots c.add_one.new.slots (c.add_one.auto.slots ∙ c.as_mut_slice.ensures.len) in
    let tur = with_items_is c.make_room-2.new.slots c.put.new.slots (c.put.auto.slots ∙ c.as_mut_slice-2.ensures.len) in
    let node = c.args.node in
    let b = c.counts_visits-visits.result in
    let t = c.notes_turns-turns.result in
    let was = c.args.self.now.rows in
    let counted : counts c.args.flags c.args.at_start ≡ true =
    elim c.else-not-at_start.branch [
      | else-not-at_start-via-then-not-at_start+else-counts_at_start w ↦ counts_late c.args.flags c.args.at_start (sym w.counts_at_start.ensures ∙ w.if-counts_at_start.false)
      | else-not-at_start-via-else-not-at_start w ↦ counts_start c.args.flags c.args.at_start w.if-not-at_start.false
    ] in
    let vrows : rows_from 0 c.make_room.new.slots.items ≡ was.visits = c.make_room.ensures.rows ∙ ap (λ g. g.rows.visits) c.self.view_is in
    let trows : rows_from 0 c.make_room-2.new.slots.items ≡ was.turns = c.make_room-2.ensures.rows ∙ ap (λ g. g.rows.turns) c.self.view_is in
    rw (vis, tur) (visit_counts c.args.flags node c.args.turn c.args.at_start b t was _ counted c.counts_visits-visits.ensures c.notes_turns-turns.ensures
    (c.add_one.ensures.rows ∙ ap (λ rows. if b then with_row nat_cmp node (one_more (unwrap_or (row nat_cmp node rows) 0)) rows else rows) (ap (rows_from 0) c.as_mut_slice.ensures.value ∙ vrows))
    (c.put.ensures.rows ∙ ap (λ rows. if t then with_row nat_cmp node c.number.result rows else rows) (ap (rows_from 0) c.as_mut_slice-2.ensures.value ∙ trows)
    ∙ ap (λ turn. if t then with_row nat_cmp node turn was.turns else was.turns) c.number.ensures.number))
