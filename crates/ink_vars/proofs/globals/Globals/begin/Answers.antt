use Rattle.std.proofs.Common.{◌∙◌, ap, arith, is_some, length}
use Rattle.ink_vars.proofs.Common.{none-stood, global_back, globals_stood}
use Rattle.ink_vars.proofs.Covering.{covers_unmarked}
use Rattle.ink_vars.proofs.Fitting.{fits_none, was_none}
use Rattle.ink_vars.proofs.globals.Globals.begin.Goals as goal

pub invariant_of-self : goal.invariant_of-self
unfolding globals_stood
invariant_of-self c = (
  fits_none c.start.new.self c.self.inside.table c.start.ensures.none c.self.invariant.0.differ (omega (arith, c.self.invariant.0.slots, c.start.ensures.slots)),
  covers_unmarked c.start.new.self.noted (length c.self.inside.table) c.self.inside.trail.undo (ap (λ g. is_some g.trail.undo) c.self.view_is ∙ ap is_some (none-stood global_back _ _ c.requires.unmarked)),
)

pub returns-clause-start : goal.returns-clause-start
returns-clause-start c = was_none c.start.new.self.noted c.self.inside.table c.start.ensures.none ∙ ap (λ g. g.rows) c.self.view_is
