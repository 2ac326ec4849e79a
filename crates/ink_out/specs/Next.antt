-- What one more mark does to a tracker.
use Rattle.std.specs.Prelude.{ℕ, Option, None, Some, if◌then◌else◌}
use Rattle.ink_out.specs.declared.tracker.Hides.{Hides}
use Rattle.ink_out.specs.declared.tracker.Hides.TheVariants.{Near, Any}
use Rattle.ink_out.specs.declared.tracker.First.{First}
use Rattle.ink_out.specs.declared.tracker.Waiting.{Waiting}
use Rattle.ink_out.specs.declared.tracker.Tracker.{Tracker}
use Rattle.ink_out.specs.Tracks.{reached}

abbrev pub hides_behind : Option First → Option Hides
hides_behind None = None
hides_behind (Some b) = Some (if b.broken then Any else Near)

-- which glue would hide a newline that comes next, where it may be shown at all and none waits
abbrev pub hides_next : Tracker → Option Hides
hides_next s = if s.glue then None else (if s.text then Some Near else hides_behind s.blank)

-- what the end of a function's text that reaches back so far leaves
abbrev pub newline_left : Option Waiting → Option ℕ → Option Waiting
newline_left None reach = None
newline_left (Some w) reach = if reached w.at reach then None else Some w

abbrev pub blank_left : Option First → Option ℕ → Option First
blank_left None reach = None
blank_left (Some b) reach = if reached b.at reach then None else Some b
