use Rattle.std.proofs.Common.{◌≡◌, ◌∙◌, ◌≤◌, ◌+◌, ◌&&◌, Option, ap, arith, length, nat_lt, subst, sym}
use Rattle.ink_vars.proofs.Common.{with_items_is, nat_cmp, row, Undo, trail_of, AreCounts, rows_from, with_slot, CountPair}
use Rattle.ink_model.specs.Variables.Counts.{counts, one_more, visits_at}
use Rattle.ink_model.specs.Story.Flags.{counts_visits, notes_turns}
use Rattle.ink_trail.proofs.Undoing.{stood-trails}
use Rattle.ink_vars.specs.Undo.{HaveSlots, counts_back, counts_stood, rows_of, with_rows}
use Rattle.ink_vars.proofs.Restored.{as_before, differs}
use Rattle.ink_vars.proofs.Slotting.{have_more, have_rows, noted_slots, rows_trails, unchanged_past, within}
use Rattle.ink_vars.proofs.counts.Counts.restore.Goals as goal

pub returns-clause-restored : goal.returns-clause-restored
returns-clause-restored c before is flags at_start turn was =
    let n = c.args.node in
    let known = c.noted.view_is ∙ is in
    let now = ap (λ g. g.rows) c.self.view_is ∙ was in
    let visits = c.put_back.ensures.rows before.visits (ap (λ r. r.0) known) (differs n (counts flags at_start && counts_visits flags) (one_more (visits_at nat_cmp n before)) _ _
    (ap (rows_from 0) c.as_mut_slice.ensures.value ∙ ap (λ r. r.visits) now)) in
    let turns = c.put_back-2.ensures.rows before.turns (ap (λ r. r.1) known) (differs n (counts flags at_start && notes_turns flags) turn _ _
    (ap (rows_from 0) c.as_mut_slice-2.ensures.value ∙ ap (λ r. r.turns) now)) in
    as_before before _ _ (ap (rows_from 0) (with_items_is c.self.inside.visits c.put_back.new.slots (c.put_back.auto.slots ∙ c.as_mut_slice.ensures.len)) ∙ visits)
    (ap (rows_from 0) (with_items_is c.self.inside.turns c.put_back-2.new.slots (c.put_back-2.auto.slots ∙ c.as_mut_slice-2.ensures.len)) ∙ turns)

pub invariant_of-self : goal.invariant_of-self
invariant_of-self c =
    let inv = c.self.invariant in
    let vis = with_items_is c.self.inside.visits c.put_back.new.slots (c.put_back.auto.slots ∙ c.as_mut_slice.ensures.len) in
    let tur = with_items_is c.self.inside.turns c.put_back-2.new.slots (c.put_back-2.auto.slots ∙ c.as_mut_slice-2.ensures.len) in
    let n = c.args.node in
    let vs = c.self.inside.visits.items in
    let ts = c.self.inside.turns.items in
    let same_v : length vs ≡ length c.put_back.new.slots = sym (c.put_back.auto.slots ∙ ap length c.as_mut_slice.ensures.value) in
    let same_t : length ts ≡ length c.put_back-2.new.slots = sym (c.put_back-2.auto.slots ∙ ap length c.as_mut_slice-2.ensures.value) in
    let have : HaveSlots (length vs) (length ts) (trail_of c.note_slots.new.trail.undo) =
    subst (λ (u : Option (Undo CountPair)). HaveSlots (length vs) (length ts) (trail_of u)) (sym (noted_slots n c.as_slice.result.now c.as_slice-2.result.now vs ts c.self.inside.trail.undo c.note_slots.new.trail.undo c.note_slots.ensures.undo c.as_slice.ensures.value c.as_slice-2.ensures.value))
    (have_rows (nat_lt n (length vs)) (nat_lt n (length ts)) n vs ts c.self.inside.trail.undo inv.0 inv.1 (within n (length vs)) (within n (length ts)) inv.2) in
    rw (vis, tur) (
      c.put_back.ensures.counts (subst AreCounts (sym c.as_mut_slice.ensures.value) inv.0) c.noted.invariant.0,
      c.put_back-2.ensures.counts (subst AreCounts (sym c.as_mut_slice-2.ensures.value) inv.1) c.noted.invariant.1,
      have_more _ _ _ _ _ (omega (arith, same_v)) (omega (arith, same_t)) have,
    )

pub returns-clause-trail : goal.returns-clause-trail
returns-clause-trail c =
    let vis = with_items_is c.self.inside.visits c.put_back.new.slots (c.put_back.auto.slots ∙ c.as_mut_slice.ensures.len) in
    let tur = with_items_is c.self.inside.turns c.put_back-2.new.slots (c.put_back-2.auto.slots ∙ c.as_mut_slice-2.ensures.len) in
    let n = c.args.node in
    let vs = c.self.inside.visits.items in
    let ts = c.self.inside.turns.items in
    let was = c.args.self.now.rows in
    let same : rows_of vs ts ≡ was = ap (λ g. g.rows) c.self.view_is in
    let visits : rows_from 0 c.as_mut_slice.result.now ≡ was.visits = ap (rows_from 0) c.as_mut_slice.ensures.value ∙ ap (λ r. r.visits) same in
    let turns : rows_from 0 c.as_mut_slice-2.result.now ≡ was.turns = ap (rows_from 0) c.as_mut_slice-2.ensures.value ∙ ap (λ r. r.turns) same in
    let undo : c.note_slots.new.trail.undo ≡ with_rows n (nat_lt n (length vs)) (nat_lt n (length ts)) was c.args.self.now.trail.undo =
    noted_slots n c.as_slice.result.now c.as_slice-2.result.now vs ts c.self.inside.trail.undo c.note_slots.new.trail.undo c.note_slots.ensures.undo c.as_slice.ensures.value c.as_slice-2.ensures.value
    ∙ ap (λ r. with_rows n (nat_lt n (length vs)) (nat_lt n (length ts)) r c.self.inside.trail.undo) same
    ∙ ap (λ g. with_rows n (nat_lt n (length vs)) (nat_lt n (length ts)) was g.trail.undo) c.self.view_is in
    let back_v : with_slot n (row nat_cmp n was.visits) (rows_from 0 c.put_back.new.slots) ≡ was.visits =
    ap (λ r. with_slot n (row nat_cmp n r) (rows_from 0 c.put_back.new.slots)) (sym visits) ∙ c.put_back.ensures.undo ∙ visits in
    let back_t : with_slot n (row nat_cmp n was.turns) (rows_from 0 c.put_back-2.new.slots) ≡ was.turns =
    ap (λ r. with_slot n (row nat_cmp n r) (rows_from 0 c.put_back-2.new.slots)) (sym turns) ∙ c.put_back-2.ensures.undo ∙ turns in
    let room : c.args.self.now.trail.room ≤ c.note_slots.new.trail.room + 2 = omega (arith, c.note_slots.ensures.room, ap (λ g. g.trail.room) c.self.view_is) in
    rw (vis, tur) (rows_trails (nat_lt n (length vs)) (nat_lt n (length ts)) n was (rows_of c.put_back.new.slots c.put_back-2.new.slots) c.args.self.now.trail c.note_slots.new.trail
    (λ k. back_v) (λ k. back_t)
    (λ k. ap (rows_from 0) (unchanged_past n (length vs) (length c.as_mut_slice.result.now) _ _ k (ap length c.as_mut_slice.ensures.value) c.put_back.ensures.past) ∙ visits)
    (λ k. ap (rows_from 0) (unchanged_past n (length ts) (length c.as_mut_slice-2.result.now) _ _ k (ap length c.as_mut_slice-2.ensures.value) c.put_back-2.ensures.past) ∙ turns)
    undo room)

pub returns-clause-stood : goal.returns-clause-stood
unfolding counts_stood
returns-clause-stood c = stood-trails counts_back (returns-clause-trail c)
