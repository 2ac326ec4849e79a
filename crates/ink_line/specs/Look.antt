-- Looking for a line, forward: at a newline the moment is kept; then the run goes on, until it goes back there or forgets it.
use Rattle.std.specs.Prelude.{◌≡◌, ℕ, zero, suc, length, Bool, true, false, if◌then◌else◌, Option, Some, None}
use Rattle.ink_model.specs.Host.Bindings.{Bound}
use Rattle.ink_model.specs.Run.Line.{IsLineOf, NoneBelow, NoneOpen, StaysOpen, at_least, calls_in, goes_on, goes_past, newline_in, shows}
use Rattle.ink_model.specs.Text.Output.{is_line}
use Rattle.ink_model.specs.Text.Page.{Page}
use Rattle.ink_model.specs.Run.Moments.{Moment, At, Stopped, cut_off, next}
use Rattle.ink_model.specs.Text.Shown.{open_newline}
use Rattle.ink_model.specs.Story.Tree.{StoryTree}

-- no newline is open; or one is, by its index, and the moment after its step is kept; or the line is known
pub data Search : Type 0 where
  Seeking : (now : Moment) → Search
  Looking : (kept : Moment) → (newline : ℕ) → (now : Moment) → Search
  Over : (end : Moment) → Search

abbrev pub kept_at : Moment → Option ℕ → Search
kept_at m None = Seeking m
kept_at m (Some newline) = Looking m newline m

-- after a step from a moment with no open newline, or with one that is hidden now: the newline of that step, if it has one, is open
abbrev pub sought : Moment → Moment → Search
sought old (At c left made) = kept_at (At c left made) (newline_in old (At c left made))
sought old end = Over end

-- the newline stays open, unless the run has ended
abbrev pub stays_open : Moment → ℕ → Moment → Search
stays_open kept newline (At c left made) = Looking kept newline (At c left made)
stays_open kept newline end = Over end

-- the newline is shown or not, and a Text or Tag stands behind it or not
abbrev pub looked_by : Bool → Bool → Moment → ℕ → Moment → Moment → Search
looked_by false past kept newline old new = sought old new
looked_by true true kept newline old new = Over kept
looked_by true false kept newline old new = stays_open kept newline new

-- after a step from a moment with an open newline; a fault makes it firm
abbrev pub looked : Moment → ℕ → Moment → Moment → Search
looked kept newline old (At c left made) = looked_by (shows (At c left made) newline) (goes_past (At c left made) newline) kept newline old (At c left made)
looked kept newline old (Stopped c left made) =
    looked_by (shows (Stopped c left made) newline) (goes_past (Stopped c left made) newline) kept newline old (Stopped c left made)
looked kept newline old end = Over kept

-- a step that makes a call is not taken
abbrev pub looked_on : Bool → Moment → ℕ → Moment → Moment → Search
looked_on true kept newline old new = Over kept
looked_on false kept newline old new = looked kept newline old new

-- one step
abbrev pub look_on : StoryTree → Bound → Search → Search
look_on s b (Seeking now) = sought now (next s b now)
look_on s b (Looking kept newline now) = looked_on (calls_in s b now) kept newline now (next s b now)
look_on s b (Over end) = Over end

unfoldable pub search : StoryTree → Bound → ℕ → Search → Search
search s b zero x = x
search s b (suc n) x = look_on s b (search s b n x)

-- what it comes to, where no more steps may be taken
abbrev pub found : Search → Moment
found (Seeking now) = cut_off now
found (Looking kept newline now) = kept
found (Over end) = end

-- what a search knows of a run, by its moments, after n steps of it
abbrev pub Knows : StoryTree → Bound → ℕ → (ℕ → Moment) → ℕ → Search → Type 0
Knows s b limit m n (Seeking now) = (m n ≡ now) × (goes_on now ≡ true) × NoneBelow s b limit m n × NoneOpen s b m n
Knows s b limit m n (Looking kept newline now) =
    (p : ℕ) × (opens : StaysOpen s b m p n) × (opens.newline ≡ newline) × NoneBelow s b limit m p × (m (suc p) ≡ kept) × (m n ≡ now)
Knows s b limit m n (Over end) = IsLineOf s b limit m end

-- ---- for a loop that looks

-- The newline of a step between two pages: with the line alone open, the open one, where it stands behind the marks before.
abbrev pub newline_between : Page → Page → Option ℕ
newline_between before after = if is_line after.sections then at_least (length before.line) (open_newline after.line) else None
