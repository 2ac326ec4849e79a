use Rattle.std.proofs.Common.{◌∙◌, ap, is_some, length, subst, sym}
use Rattle.ink_vars.proofs.Common.{none-stood, Tracks, as_they_were, DifferInName, global_back, globals_stood}
use Rattle.ink_vars.proofs.Covering.{covers_unmarked}
use Rattle.ink_vars.proofs.Fitting.{differ_stored, tracked}
use Rattle.ink_vars.proofs.globals.Globals.put_at.Goals as goal

-- the start stays
stays : (c : goal.After-put_at) → Tracks (as_they_were c.self.inside.changes.noted 0 c.self.inside.table) c.put_at.new.self.noted c.put_at.new.globals
stays c = c.put_at.ensures.tracks (as_they_were c.self.inside.changes.noted 0 c.self.inside.table) (tracked c.self.inside.changes c.self.inside.table c.self.invariant.0)

pub invariant_of-self : goal.invariant_of-self
unfolding globals_stood
invariant_of-self c =
    let none = ap (λ g. is_some g.trail.undo) c.self.view_is ∙ ap is_some (none-stood global_back _ _ c.requires.unmarked) in (
      record {
        differ = subst DifferInName (sym c.put_at.ensures.globals) (differ_stored c.args.name.now c.args.value c.self.inside.table c.self.invariant.0.differ);
        new = (stays c).new;
        slots = c.put_at.ensures.slots;
      },
      covers_unmarked c.put_at.new.self.noted (length c.put_at.new.globals) c.self.inside.trail.undo none,
    )

pub returns-clause-start : goal.returns-clause-start
returns-clause-start c = (stays c).were ∙ ap (λ g. g.start) c.self.view_is
