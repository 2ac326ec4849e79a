use Rattle.std.proofs.Common.{◌∙◌, ap, arith, is_some, length, subst, sym}
use Rattle.ink_vars.proofs.Common.{none-stood, global_back, globals_stood, DifferInName}
use Rattle.ink_vars.proofs.Covering.{covers_unmarked}
use Rattle.ink_vars.proofs.Fitting.{differ_stored, fits_none, no_longer, was_none}
use Rattle.ink_vars.proofs.Noting.{either_way}
use Rattle.ink_vars.proofs.globals.Globals.replace.Goals as goal

pub invariant_of-self : goal.invariant_of-self
unfolding globals_stood
invariant_of-self c =
    let old = c.self.inside.table in
    let differ = c.self.invariant.0.differ in
    let none = ap (λ g. is_some g.trail.undo) c.self.view_is ∙ ap is_some (none-stood global_back _ _ c.requires.unmarked) in (
      fits_none c.start.new.self c.replace.new.self c.start.ensures.none (either_way c.replace.result c.replace.ensures.ok c.replace.ensures.kept
          (λ is. subst DifferInName (sym is) (differ_stored c.args.name.now c.args.value old differ)) (λ is. subst DifferInName (sym is) differ))
          (no_longer c.replace.result c.args.name.now c.args.value old c.replace.new.self c.start.new.self.slots c.replace.ensures.found c.replace.ensures.ok c.replace.ensures.kept (omega (arith, c.self.invariant.0.slots, c.start.ensures.slots))),
      covers_unmarked c.start.new.self.noted (length c.replace.new.self) c.self.inside.trail.undo none,
    )

pub returns-clause-start : goal.returns-clause-start
returns-clause-start c = was_none c.start.new.self.noted c.replace.new.self c.start.ensures.none
