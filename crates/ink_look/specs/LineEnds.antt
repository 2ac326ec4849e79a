-- How lines end, with the calls that they made.
use Rattle.std.specs.Prelude.{◌≡◌, ◌⊎◌, ⊤, ℕ, List, [], Bool, true, false, Result, Ok, Err}
use Rattle.ink_host.specs.Desk.{DeskView}
use Rattle.ink_model.specs.Run.Line.{EndsLine, IsLineOf, goes_on}
use Rattle.ink_model.specs.Memory.Refusals.{LineFallsShort, LooksFrom, NoneSoFar}
use Rattle.ink_look.specs.Ends.{EndsWith}
use Rattle.ink_look.specs.declared.lines.LineEnd.{LineEnd}
use Rattle.ink_look.specs.declared.lines.LineEnd.TheVariants as line_end
use Rattle.ink_look.specs.declared.said.Said.{Said}
use Rattle.ink_model.specs.Run.Configuration.{Configuration}
use Rattle.ink_model.specs.Host.Bindings.{Bound}
use Rattle.ink_model.specs.Memory.Refusals.{CallsAt, GetsTo}
use Rattle.ink_model.specs.Run.Moments.{At, Faulted, Kept, Made, Moment, RunEnd, Stopped, answers_of, moment}
use Rattle.ink_model.specs.Variables.Store.{Values}
use Rattle.ink_model.specs.Story.Tree.{StoryTree}
use Rattle.ink_model.specs.declared.fault.Fault.{Fault}
use Rattle.ink_model.specs.declared.fault.Fault.TheVariants.{OutOfMemory}
use Rattle.ink_model.specs.declared.limits.TheConstants.{MAX_STEPS}
use Rattle.ink_effects.specs.Refusals.{KeepsRefusals, StopsAtRefusal}

-- what was said, or the fault
abbrev pub handed : LineEnd → Result Said Fault
handed (line_end.Line said) = Ok said
handed (line_end.Stopped said) = Ok said
handed (line_end.Fault f) = Err f

-- a line that was cut is told apart from a stop
abbrev pub TellsCut : Bool → LineEnd → Type 0
TellsCut is_cut (line_end.Line said) = is_cut ≡ true
TellsCut is_cut (line_end.Stopped said) = is_cut ≡ false
TellsCut is_cut (line_end.Fault f) = ⊤

-- what is handed out of the configuration that is kept, and which of them ask for memory for it
module _ (hands : Configuration → Said) (asks : Configuration → Bool) where
  -- what is said of a configuration that is kept
  abbrev pub SaysLine : Bool → Configuration → Configuration → LineEnd → Type 0
  SaysLine is_cut c new result = TellsCut is_cut result × EndsWith hands asks (Kept c) new (handed result)

  -- A line, with these calls made, comes to its end; or memory was refused to it, and it leaves these globals.
  abbrev pub RunsLine : StoryTree → Bound → Configuration → List Made → Configuration → LineEnd → Type 0
  RunsLine s b old made new result =
      ((end : RunEnd) × (line : EndsLine s b old made end) × TellsCut (goes_on line.0) result × EndsWith hands asks end new (handed result))
      ⊎ ((result ≡ line_end.Fault OutOfMemory) × LineFallsShort s b old made new.shared.globals)

-- ---- from where a command has begun

-- Memory was refused to a line, with these calls made, which leaves the globals of a configuration.
abbrev pub LineShort : StoryTree → Bound → Configuration → List Made → Configuration → Type 0
LineShort s b start made kept = ((got : GetsTo s b start made kept) × NoneSoFar s b start made got.steps)
    ⊎ (((got : CallsAt s b start made kept) × NoneSoFar s b start made got.steps) ⊎ LooksFrom s b start made kept)

-- the line, under the answers of these calls, comes to a moment
abbrev pub ComesToLine : StoryTree → Bound → Configuration → List Made → Moment → Type 0
ComesToLine s b start made x = IsLineOf s b MAX_STEPS (moment s b start (answers_of made)) x

-- A line ended with a fault, or memory was refused to it, and it leaves these globals.
pub record LineFalls (s : StoryTree) (b : Bound) (start : Configuration) (made : List Made) (globals : Values) (f : Fault) : Type 0 where
  pub kept : Configuration
  pub leaves : globals ≡ kept.shared.globals
  pub why : ComesToLine s b start made (Faulted f kept [] made) ⊎ ((f ≡ OutOfMemory) × LineShort s b start made kept)

-- A line to where it was cut, or to its stop; or to a fault, with the globals that it leaves.
abbrev pub RunsToLine : StoryTree → Bound → Configuration → List Made → Configuration → Result Bool Fault → Type 0
RunsToLine s b start made new (Ok true) = ComesToLine s b start made (At new [] made)
RunsToLine s b start made new (Ok false) = ComesToLine s b start made (Stopped new [] made)
RunsToLine s b start made new (Err f) = LineFalls s b start made new.shared.globals f

-- ---- turn functions that were refused memory

-- A line ends with OutOfMemory where a turn function was refused memory: one at the most was, and once.
abbrev pub LineStopsAtRefusal : {P T W : Type 0} → (T → ℕ) → DeskView P T W → DeskView P T W → LineEnd → Type 0
LineStopsAtRefusal refusals old new (line_end.Line said) = KeepsRefusals refusals old new
LineStopsAtRefusal refusals old new (line_end.Stopped said) = KeepsRefusals refusals old new
LineStopsAtRefusal refusals old new (line_end.Fault f) = StopsAtRefusal refusals old new (f ≡ OutOfMemory)
