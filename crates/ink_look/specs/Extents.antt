-- How far a running command goes, and how it ends there (docs/RUNNING.md, "Runs", "Lines").
use Rattle.std.specs.Prelude.{◌≡◌, ◌⊎◌, List, Bool, Result, Err}
use Rattle.ink_look.specs.Ends.{EndsWith}
use Rattle.ink_look.specs.declared.passages.Extent.{Extent}
use Rattle.ink_look.specs.declared.passages.Extent.TheVariants as extent
use Rattle.ink_model.specs.Run.Configuration.{Configuration}
use Rattle.ink_model.specs.Host.Bindings.{Bound}
use Rattle.ink_model.specs.Run.Line.{EndsLine}
use Rattle.ink_model.specs.Memory.Refusals.{FallsShort, LineFallsShort}
use Rattle.ink_model.specs.Run.Moments.{EndsThrough, Made, RunEnd}
use Rattle.ink_model.specs.Variables.Store.{Values}
use Rattle.ink_model.specs.Story.Tree.{StoryTree}
use Rattle.ink_model.specs.declared.fault.Fault.{Fault}
use Rattle.ink_model.specs.declared.fault.Fault.TheVariants.{OutOfMemory}

-- an end to which it comes
abbrev pub EndsBy : Extent → StoryTree → Bound → Configuration → List Made → RunEnd → Type 0
EndsBy extent.Line = EndsLine
EndsBy extent.Stop = EndsThrough

-- the globals that it leaves where memory was refused on the way
abbrev pub FallsShortBy : Extent → StoryTree → Bound → Configuration → List Made → Values → Type 0
FallsShortBy extent.Line = LineFallsShort
FallsShortBy extent.Stop = FallsShort

-- what is handed out of the configuration that is kept, and which of them ask for memory for it
module _ {A : Type 0} (hands : Configuration → A) (asks : Configuration → Bool) where
  -- It comes to its end, with these calls made; or memory was refused to it, and it leaves these globals.
  abbrev pub RunsBy : Extent → StoryTree → Bound → Configuration → List Made → Configuration → Result A Fault → Type 0
  RunsBy x s b old made new result = ((end : RunEnd) × EndsBy x s b old made end × EndsWith hands asks end new result)
      ⊎ ((result ≡ Err OutOfMemory) × FallsShortBy x s b old made new.shared.globals)
