-- Steps of a loop that looks for a line, by the definition of the search.
use Rattle.std.specs.Prelude.{◌≡◌, ⊤, ℕ, List, [], Bool, true, false, if◌then◌else◌, Option, Some, None, Result, Ok, Err}
use Rattle.ink_model.specs.Run.Line.{at_least, is_call}
use Rattle.ink_line.specs.Look.{Looking, Over, Search, Seeking, look_on, newline_between}
use Rattle.ink_look.specs.declared.looking.Looked.{Looked}
use Rattle.ink_look.specs.declared.looking.Looked.TheVariants as looked
use Rattle.ink_look.specs.declared.looking.Standing.{Standing}
use Rattle.ink_look.specs.declared.looking.Standing.TheVariants as standing
use Rattle.ink_model.specs.Memory.Asks.{asks}
use Rattle.ink_model.specs.Run.Ahead.{writes_words}
use Rattle.ink_model.specs.Run.Configuration.{Configuration}
use Rattle.ink_model.specs.Host.Bindings.{Bound}
use Rattle.ink_model.specs.Text.Output.{is_line}
use Rattle.ink_model.specs.Text.Page.{Page}
use Rattle.ink_model.specs.Run.Moments.{At, Made, Stopped}
use Rattle.ink_model.specs.Text.Shown.{open_newline}
use Rattle.ink_model.specs.Run.Step.{step}
use Rattle.ink_model.specs.Story.Tree.{StoryTree}
use Rattle.ink_model.specs.declared.fault.Fault.{Fault}
use Rattle.ink_model.specs.declared.fault.Fault.TheVariants.{OutOfMemory}
use Rattle.ink_model.specs.declared.host.Event.{Event}
use Rattle.ink_model.specs.declared.host.Given.{Given}
use Rattle.ink_step.specs.Marks.{marked_at, stood_of, unmarked}
use Rattle.ink_step.specs.Steps.{StepMakes}
use Rattle.ink_moves.specs.declared.flow.StepEnd.{StepEnd}
use Rattle.ink_moves.specs.declared.flow.StepEnd.TheVariants as ends
use Rattle.ink_step.specs.declared.machine.Machine.{Machine}

-- ---- newlines

-- the newline of a step, after it, by the number of marks before it
abbrev pub newline_from : ℕ → Page → Option ℕ
newline_from marks page = if is_line page.sections then at_least marks (open_newline page.line) else None

abbrev pub found_of : Option ℕ → Looked
found_of None = looked.Nothing
found_of (Some newline) = looked.Newline newline

-- by whether a newline is shown, and whether a text or a tag stands behind it
abbrev pub StandsAs : Standing → Bool → Bool → Type 0
StandsAs standing.Last shown past = (shown ≡ true) × (past ≡ false)
StandsAs standing.Past shown past = (shown ≡ true) × (past ≡ true)
StandsAs standing.Hidden shown past = shown ≡ false

-- ---- marks

-- the newline that waits after a step
abbrev pub waiting_after : Looked → Option ℕ
waiting_after (looked.Newline newline) = Some newline
waiting_after l = None

-- none where the step was refused memory or faulted
abbrev pub waiting_then : Result Looked Fault → Option ℕ
waiting_then (Ok l) = waiting_after l
waiting_then (Err f) = None

-- a mark stands, and there each part was as it is in some machine
abbrev pub IsMarked : Machine → Type 0
IsMarked m = (there : Machine) × (stood_of m ≡ marked_at there)

-- a mark stands where a newline waits, and else none
abbrev pub Waits : Option ℕ → Machine → Type 0
Waits None m = stood_of m ≡ unmarked
Waits (Some newline) m = IsMarked m

-- ---- the search

-- before a step, by where the mark is and where flow is
abbrev pub search_at : Option ℕ → Configuration → Configuration → List (Option Given) → List Made → Search
search_at None kept now left made = Seeking (At now left made)
search_at (Some newline) kept now left made = Looking (At kept left made) newline (At now left made)

-- after it
abbrev pub search_after : Looked → Configuration → Configuration → List (Option Given) → List Made → Search
search_after looked.Cut kept now left made = Over (At now left made)
search_after looked.Stopped kept now left made = Over (Stopped now left made)
search_after looked.Nothing kept now left made = Seeking (At now left made)
search_after (looked.Newline newline) kept now left made = Looking (At kept left made) newline (At now left made)

-- how the step ended
abbrev pub stepped : Result Looked Fault → Result StepEnd Fault
stepped (Ok looked.Nothing) = Ok ends.Went
stepped (Ok (looked.Newline newline)) = Ok ends.Went
stepped (Ok looked.Cut) = Ok ends.Went
stepped (Ok looked.Stopped) = Ok ends.Stopped
stepped (Err f) = Err f

-- a newline that is found has its mark where flow is
abbrev pub MarksHere : Looked → Configuration → Configuration → Type 0
MarksHere (looked.Newline newline) kept now = kept ≡ now
MarksHere l kept now = ⊤

-- a step that went on has this newline
abbrev pub FindsAs : Option ℕ → Configuration → Configuration → Result Looked Fault → Type 0
FindsAs newline kept now (Ok looked.Stopped) = ⊤
FindsAs newline kept now (Ok l) = (l ≡ found_of newline) × MarksHere l kept now
FindsAs newline kept now (Err f) = ⊤

-- A step past a newline, which may be refused memory, unless it would call a turn function, or write a text of more than white behind
-- a newline that is open: then it has gone back to the newline.
abbrev pub LooksAs : StoryTree → Bound → ℕ → Configuration → Configuration → Configuration → Configuration → Result Looked Fault → Type 0
LooksAs s b newline kept old kept_then new (Ok l) = (left : List (Option Given)) (made : List Made) → look_on s b (Looking (At kept left made) newline (At old left made)) ≡ search_after l kept_then new left made
LooksAs s b newline kept old kept_then new (Err f) =
    (f ≡ OutOfMemory) × (is_call (step s b old) ≡ false) × (writes_words s old ≡ true → open_newline old.page.line ≡ Some newline → ⊥) × (new ≡ kept)

-- A step, with its events, which count on from a stamp: where no newline waits, one of a run, by what it writes; else one that calls
-- nothing.
abbrev pub StepsOn : StoryTree → Bound → ℕ → Option ℕ → Configuration → Configuration → List Event → Configuration → Configuration → Result Looked Fault → Type 0
StepsOn s b n None kept old es kept_then new result =
    StepMakes s b n false (asks s b old) (step s b old) es old.shared.globals new (stepped result) × FindsAs (newline_between old.page new.page) kept_then new result
StepsOn s b n (Some newline) kept old es kept_then new result = (es ≡ []) × LooksAs s b newline kept old kept_then new result
