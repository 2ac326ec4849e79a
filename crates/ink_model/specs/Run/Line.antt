-- A line: a run cut at the first newline that is sure to stand (docs/RUNNING.md, "Lines").
use Rattle.std.specs.Prelude.{◌≡◌, ◌⊎◌, ℕ, suc, ◌<◌, ◌≤◌, nat_le, List, [], length, Bool, true, false, if◌then◌else◌, Option, Some, None}
use Rattle.ink_model.specs.Host.Bindings.{Bound}
use Rattle.ink_model.specs.Run.Configuration.{Configuration, begun}
use Rattle.ink_model.specs.Run.Moments.{Made, Moment, At, Stopped, Faulted, Waits, RunEnd, Kept, answers_of, cut_off, end_of, moment}
use Rattle.ink_model.specs.Run.Step.{Stepped, Comes, Wants, step}
use Rattle.ink_model.specs.Story.Tree.{StoryTree}
use Rattle.ink_model.specs.Text.Output.{empty_page, is_line}
use Rattle.ink_model.specs.Text.Page.{Page}
use Rattle.ink_model.specs.Text.Shown.{is_shown, more_from, open_newline}
use Rattle.ink_model.specs.declared.host.Given.{Given}
use Rattle.ink_model.specs.declared.limits.TheConstants.{MAX_STEPS}

-- ---- what is asked of a moment

-- the run has not ended, and does not wait for an answer
abbrev pub goes_on : Moment → Bool
goes_on (At c left made) = true
goes_on m = false

abbrev pub has_faulted : Moment → Bool
has_faulted (Faulted f c left made) = true
has_faulted m = false

-- the step from here calls a turn function, whether an answer is left for it or not
abbrev pub is_call : Stepped → Bool
is_call (Comes outcome) = false
is_call (Wants name arguments f c) = true

abbrev pub calls_in : StoryTree → Bound → Moment → Bool
calls_in s b (At c left made) = is_call (step s b c)
calls_in s b m = false

-- the text as it stands; after a fault as it stood before the step that faulted
abbrev pub page_at : Moment → Page
page_at (At c left made) = c.page
page_at (Stopped c left made) = c.page
page_at (Faulted f c left made) = c.page
page_at (Waits name made) = empty_page

-- ---- newlines

-- a Newline is shown in the line, by its index there
abbrev pub shows : Moment → ℕ → Bool
shows m i = is_shown (page_at m).line i

-- a Text or Tag stands behind that index
abbrev pub goes_past : Moment → ℕ → Bool
goes_past m i = more_from (page_at m).line (suc i)

-- the Newline that is shown in the line, with no Text or Tag behind it
abbrev pub open_in : Moment → Option ℕ
open_in m = open_newline (page_at m).line

abbrev pub at_least : ℕ → Option ℕ → Option ℕ
at_least n None = None
at_least n (Some i) = if nat_le n i then Some i else None

-- The newline that the step between two moments has: with the line alone open after it, a Newline that it wrote, and that is
-- shown, with no Text or Tag behind it.
abbrev pub newline_in : Moment → Moment → Option ℕ
newline_in old new = if is_line (page_at new).sections then at_least (length (page_at old).line) (open_in new) else None

-- ---- firm newlines

-- The newline of the step after moment p stays open up to moment n: after each step it is shown, with no Text or Tag behind it; no
-- step makes a call; and the run goes on.
pub record StaysOpen (s : StoryTree) (b : Bound) (m : ℕ → Moment) (p n : ℕ) : Type 0 where
  pub newline : ℕ
  pub has : newline_in (m p) (m (suc p)) ≡ Some newline
  pub later : p < n
  pub stays : (k : ℕ) → p < k → k ≤ n → open_in (m k) ≡ Some newline
  pub quiet : (k : ℕ) → p < k → k < n → calls_in s b (m k) ≡ false
  pub going : goes_on (m n) ≡ true

-- The step after moment n makes an open newline firm: it is one more than a command may take, or calls a turn function, or faults,
-- or leaves the newline shown with a Text or Tag behind it.
abbrev pub MakesFirm : StoryTree → Bound → ℕ → (ℕ → Moment) → ℕ → ℕ → Type 0
MakesFirm s b limit m n newline = (n ≡ limit) ⊎ ((calls_in s b (m n) ≡ true) ⊎ ((has_faulted (m (suc n)) ≡ true)
    ⊎ ((shows (m (suc n)) newline ≡ true) × (goes_past (m (suc n)) newline ≡ true))))

-- The newline of the step after moment p is firm: it stays open until a step that makes it firm.
pub record IsFirm (s : StoryTree) (b : Bound) (limit : ℕ) (m : ℕ → Moment) (p : ℕ) : Type 0 where
  pub until : ℕ
  pub within : until ≤ limit
  pub opens : StaysOpen s b m p until
  pub makes : MakesFirm s b limit m until opens.newline

-- no step before moment n has a firm newline
abbrev pub NoneBelow : StoryTree → Bound → ℕ → (ℕ → Moment) → ℕ → Type 0
NoneBelow s b limit m n = (p : ℕ) → p < n → IsFirm s b limit m p → ⊥

-- at moment n no newline is open: that of no step before stays open up to there
abbrev pub NoneOpen : StoryTree → Bound → (ℕ → Moment) → ℕ → Type 0
NoneOpen s b m n = (p : ℕ) → StaysOpen s b m p n → ⊥

-- ---- the line

-- the moment after the first step that has a firm newline
pub record IsCut (s : StoryTree) (b : Bound) (limit : ℕ) (m : ℕ → Moment) (end : Moment) : Type 0 where
  pub step : ℕ
  pub firm : IsFirm s b limit m step
  pub first : NoneBelow s b limit m step
  pub ends : m (suc step) ≡ end

-- the end of a run that has none: its stop, or its fault
pub record IsWhole (s : StoryTree) (b : Bound) (limit : ℕ) (m : ℕ → Moment) (end : Moment) : Type 0 where
  pub none : (p : ℕ) → IsFirm s b limit m p → ⊥
  pub ends : cut_off (m limit) ≡ end

abbrev pub IsLineOf : StoryTree → Bound → ℕ → (ℕ → Moment) → Moment → Type 0
IsLineOf s b limit m end = IsCut s b limit m end ⊎ IsWhole s b limit m end

-- The line of a command from a configuration, under answers: what is kept, the answers that are left, and the calls made stand in
-- the moment in which it ends.
abbrev pub Line : StoryTree → Bound → Configuration → List (Option Given) → Moment → Type 0
Line s b c answers end = IsLineOf s b MAX_STEPS (moment s b (begun c) answers) end

-- the end of a line that used all its answers, with its calls: where it was cut, or as its run ended
abbrev pub line_end : Moment → Option (RunEnd × List Made)
line_end (At c [] made) = Some (Kept c, made)
line_end m = end_of m

-- the line of a command, with just these calls made, ends so
abbrev pub EndsLine : StoryTree → Bound → Configuration → List Made → RunEnd → Type 0
EndsLine s b c made end = (x : Moment) × Line s b c (answers_of made) x × (line_end x ≡ Some (end, made))
