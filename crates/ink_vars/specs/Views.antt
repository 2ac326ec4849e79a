-- Globals and counts, as contracts see them.
use Rattle.std.specs.Prelude.{ℕ, List}
use Rattle.ink_model.specs.Variables.Counts.{CountsOf}
use Rattle.ink_model.specs.Variables.Store.{Values}
use Rattle.ink_trail.specs.Undo.{TrailView}
use Rattle.ink_vars.specs.declared.changes.Before.{Before}
use Rattle.ink_vars.specs.declared.undo.CountPair.{CountPair}
use Rattle.ink_vars.specs.declared.undo.GlobalPair.{GlobalPair}

-- the globals in order of declaration, what they were at the moment that was begun last, and the trail of what they were
pub record GlobalsView : Type 0 where
  pub rows : Values
  pub start : Values
  pub trail : TrailView GlobalPair

-- what was noted of globals since the moment, in order, and how many of the first globals can be noted without memory
pub record ChangesView : Type 0 where
  pub noted : List Before
  pub slots : ℕ

-- the rows of visits and turns, by number, and the trail of what they were
pub record CountsView : Type 0 where
  pub rows : CountsOf ℕ
  pub trail : TrailView CountPair
