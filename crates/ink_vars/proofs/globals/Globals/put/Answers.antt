use Rattle.std.proofs.Common.{◌∙◌, ap, inl, inr, is_some, length, sym, ◌≡◌, subst, true}
use Rattle.std.proofs.lemmas.Result.{on_err_weaker}
use Rattle.ink_vars.proofs.Common.{stored, Tracks, as_they_were, global_back, globals_stood}
use Rattle.ink_trail.proofs.Undoing.{stood-or-kept, stood-marked}
use Rattle.ink_vars.proofs.Covering.{covers_unmarked}
use Rattle.ink_vars.proofs.Either.{either-unmarked, on_err}
use Rattle.ink_vars.proofs.Fitting.{as_it_stood, fits_put, tracked}
use Rattle.ink_vars.proofs.globals.Globals.put.Goals as goal

-- the start stays
stays : (c : goal.After-put) → Tracks (as_they_were c.self.inside.changes.noted 0 c.self.inside.table) c.put.new.self.noted c.put.new.globals
stays c = c.put.ensures.tracks (as_they_were c.self.inside.changes.noted 0 c.self.inside.table) (tracked c.self.inside.changes c.self.inside.table c.self.invariant.0)

pub put-requires : goal.put-requires
put-requires c = record { slots = c.self.invariant.0.slots }

pub invariant_of-self : goal.invariant_of-self
invariant_of-self c = (
  fits_put c.put.result c.args.name.now c.args.value c.self.inside.table c.put.new.globals (as_they_were c.self.inside.changes.noted 0 c.self.inside.table) c.put.new.self
      c.self.invariant.0.differ (stays c) c.put.ensures.ok c.put.ensures.err c.put.ensures.slots,
  covers_unmarked c.put.new.self.noted (length c.put.new.globals) c.self.inside.trail.undo (sym c.is_marked.ensures ∙ c.if-is_marked.false),
)

pub returns-clause-start : goal.returns-clause-start
returns-clause-start c = (stays c).were ∙ ap (λ g. g.start) c.self.view_is

pub returns-clause-memory : goal.returns-clause-memory
returns-clause-memory c = on_err_weaker c.put.result (λ absent. inl (ap (λ g. is_some (stored c.args.name.now g.rows)) (sym c.self.view_is) ∙ absent)) c.put.ensures.memory

pub returns-clause-asks : goal.returns-clause-asks
returns-clause-asks c =
    rw (sym c.self.view_is) (on_err_weaker c.put.result (λ absent. inl (as_it_stood c.args.name.now c.self.inside.changes.noted c.self.inside.table (inr absent))) c.put.ensures.memory)

pub returns-clause-trail : goal.returns-clause-trail
returns-clause-trail c =
    rw (← c.self.view_is) (either-unmarked global_back c.put.result 1 _ _ c.self.inside.trail (sym c.is_marked.ensures ∙ c.if-is_marked.false) c.put.ensures.err)

pub returns-then-is_marked-clause-stood : goal.returns-then-is_marked-clause-stood
unfolding globals_stood
returns-then-is_marked-clause-stood c = stood-or-kept global_back c.put_marked.result 1 _ _ _ _ c.put_marked.ensures.trail

pub returns-then-is_marked-clause-memory : goal.returns-then-is_marked-clause-memory
unfolding globals_stood
returns-then-is_marked-clause-memory c =
    let marked = stood-marked global_back c.self.inside.trail c.self.inside.table ∙ sym c.is_marked.ensures ∙ c.if-is_marked.true in
    on_err c.put_marked.result (inr (subst (λ g. is_some (globals_stood g) ≡ true) c.self.view_is marked))
