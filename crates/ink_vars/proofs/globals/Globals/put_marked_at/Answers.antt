use Rattle.std.proofs.Common.{◌≡◌, ◌∙◌, ◌≤◌, ap, arith, inl, inr, is_some, length, subst, sym, true}
use Rattle.std.proofs.lemmas.Result.{on_err_weaker}
use Rattle.ink_vars.proofs.Common.{trail_of, Tracks, as_they_were, noted_at, global_index, Covers, global_back}
use Rattle.ink_vars.proofs.Covering.{covers_noted, is_noted}
use Rattle.ink_vars.proofs.Either.{either-after}
use Rattle.ink_vars.proofs.Fitting.{as_it_stood, fits_put, fits_same, tracked}
use Rattle.ink_vars.proofs.Noting.{either_way}
use Rattle.ink_vars.proofs.globals.Globals.put_marked_at.Goals as goal

pub note-requires : goal.note-requires
note-requires c = record { slots = c.self.invariant.0.slots; index = c.requires.index ∙ ap (λ g. global_index c.args.name.now g.rows) (sym c.self.view_is) }

-- the start stays
stays : (c : goal.After-put_noted) → Tracks (as_they_were c.self.inside.changes.noted 0 c.self.inside.table) c.note.new.self.noted c.put_noted.new.table
stays c =
    let start = as_they_were c.self.inside.changes.noted 0 c.self.inside.table in
    let tracks = tracked c.self.inside.changes c.self.inside.table c.self.invariant.0 in
    either_way c.put_noted.result c.put_noted.ensures.ok c.put_noted.ensures.err
    (λ is. subst (λ rows. Tracks start c.note.new.self.noted rows) (sym is) (c.in-Ok.ensures.stored start c.args.value tracks))
    (λ is. subst (λ rows. Tracks start c.note.new.self.noted rows) (sym is) (c.note.ensures.tracks start tracks))

-- each global has a slot
slots : (c : goal.After-put_noted) → length c.put_noted.new.table ≤ c.note.new.self.slots
slots c =
    let n = c.note.new.self.slots in
    let same : length c.self.inside.table ≤ n = omega (arith, c.self.invariant.0.slots, c.note.ensures.more) in
    either_way c.put_noted.result c.put_noted.ensures.ok c.put_noted.ensures.err
    (λ is. subst (λ rows. length rows ≤ n) (sym is) (c.in-Ok.ensures.slots c.args.value)) (λ is. subst (λ rows. length rows ≤ n) (sym is) same)

pub invariant_of-self-in-Ok : goal.invariant_of-self-in-Ok
invariant_of-self-in-Ok c =
    let name = c.args.name.now in
    let old = c.self.inside.changes in
    let now = c.self.inside.table in
    let start = as_they_were old.noted 0 now in
    let bs = c.note.new.self.noted in
    let tracks : Tracks start bs now = c.note.ensures.tracks start (tracked old now c.self.invariant.0) in
    let noted : is_some (noted_at (global_index name now) bs) ≡ true =
    ap (λ ns. is_some (noted_at (global_index name now) ns)) c.in-Ok.ensures.ok ∙ is_noted name now old.noted in
    let before : Covers old.noted (length now) (trail_of c.ready.new.self.undo) = subst (λ u. Covers old.noted (length now) (trail_of u)) (sym c.ready.ensures.kept.0) c.self.invariant.1 in
    let covers : Covers bs (length now) (trail_of c.ready.new.self.undo) =
    subst (λ ns. Covers ns (length now) (trail_of c.ready.new.self.undo)) (sym c.in-Ok.ensures.ok) (covers_noted name now old.noted (length now) (trail_of c.ready.new.self.undo) before) in (
      fits_put c.put_noted.result name c.args.value now c.put_noted.new.table start c.note.new.self c.self.invariant.0.differ (stays c) c.put_noted.ensures.ok c.put_noted.ensures.err (slots c),
      c.put_noted.ensures.covers bs noted tracks.new covers,
    )

pub invariant_of-self-in-Err : goal.invariant_of-self-in-Err
invariant_of-self-in-Err c =
    let now = c.self.inside.table in (
      fits_same c.self.inside.changes c.note.new.self now c.in-Err.ensures.err c.note.ensures.more c.self.invariant.0,
      rw (c.ready.ensures.kept.0, c.in-Err.ensures.err) c.self.invariant.1,
    )

pub returns-in-Ok-clause-start : goal.returns-in-Ok-clause-start
returns-in-Ok-clause-start c = (stays c).were ∙ ap (λ g. g.start) c.self.view_is

pub returns-in-Ok-clause-asks : goal.returns-in-Ok-clause-asks
returns-in-Ok-clause-asks c =
    rw (sym c.self.view_is) (on_err_weaker c.put_noted.result (λ absent. inl (as_it_stood c.args.name.now c.self.inside.changes.noted c.self.inside.table (inr absent))) c.put_noted.ensures.memory)

pub returns-in-Ok-clause-trail : goal.returns-in-Ok-clause-trail
returns-in-Ok-clause-trail c =
    rw (← c.self.view_is) (either-after global_back c.put_noted.result 1 _ _ _ c.ready.new.self _ c.ready.ensures.kept c.put_noted.ensures.trail)

pub returns-in-Err-clause-asks : goal.returns-in-Err-clause-asks
returns-in-Err-clause-asks c =
    rw (sym c.self.view_is) (inl (as_it_stood c.args.name.now c.self.inside.changes.noted c.self.inside.table (inl c.in-Err.ensures.memory)))
