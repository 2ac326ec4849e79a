-- The laws of lines.
use Rattle.std.specs.Prelude.{◌≡◌, ℕ, suc, ◌<◌, ◌≤◌, List, [], ◌++◌, length, true, false, Option, Some}
use Rattle.std.proofs.Common.{inl, inr}
use Rattle.ink_model.specs.Run.Configuration.{Configuration, begun}
use Rattle.ink_model.specs.Host.Bindings.{Bindings, Bound}
use Rattle.ink_model.specs.Run.Line.{IsFirm, IsLineOf, Line, MakesFirm, calls_in, goes_on, goes_past, newline_in, open_in, page_at, shows}
use Rattle.ink_model.specs.Run.Moments.{Made, Moment, At, answers_of, moment, next}
use Rattle.ink_model.specs.Text.Shown.{more_from}
use Rattle.ink_model.specs.Protocol.State.{State, Ready}
use Rattle.ink_model.specs.Story.Tree.{StoryTree}
use Rattle.ink_model.specs.declared.host.Event.{Event}
use Rattle.ink_model.specs.declared.host.Given.{Given}
use Rattle.ink_line.specs.Look.{Knows, Over, Seeking, found, search}
use Rattle.ink_line.specs.Rows.{Continues, EachCommand, EachLine, IsAnswered, Lines, called, extended, joined, laid}

-- ---- rows of lines

-- Lines one after another, with nothing between, are one run laid end to end: given the answers of all their calls, in order, it
-- uses them all, makes just these calls, each once, and comes to where the last line leaves the story. It begins anew once for each
-- line, where that line was kept, with that line's calls made.
abbrev pub LinesAreLaid : Type 0
LinesAreLaid = (s : StoryTree) (b : Bound) (c e : Configuration) (lines : List (List Made)) → (row : Lines s b c lines e)
    → (steps : List ℕ) × (laid s b steps (At (begun c) (answers_of (joined lines)) []) ≡ At (begun e) [] (joined lines)) × EachLine s b c e lines row steps []

-- The same of a row of `continue` commands: the calls among its events are the calls of one run, which begins anew once for each
-- command, where that command left the story.
abbrev pub ContinuesAreLaid : Type 0
ContinuesAreLaid = (s : StoryTree) (h : Bindings) (es : List Event) (n : ℕ) (old new : State) → (row : Continues s h es n old new)
    → (c e : Configuration) → old.condition ≡ Ready c → new.condition ≡ Ready e
    → (steps : List ℕ) × (laid s h.functions steps (At (begun c) (answers_of (called es)) []) ≡ At (begun e) [] (called es)) × EachCommand s h es n old new row c steps []

-- ---- calls

-- a step of a line: up to its newline, or of the whole run
abbrev pub IsOfLine : {s : StoryTree} {b : Bound} {limit : ℕ} {m : ℕ → Moment} {x : Moment} → IsLineOf s b limit m x → ℕ → Type 0
IsOfLine {limit = limit} (inl cut) n = n ≤ cut.step
IsOfLine {limit = limit} (inr whole) n = n < limit

-- No step of a line that calls a turn function begins where the newline of a step before is shown still, as it was since.
abbrev pub CallsAlone : Type 0
CallsAlone = (s : StoryTree) (b : Bound) (limit : ℕ) (c : Configuration) (answers : List (Option Given)) (x : Moment) → let m = moment s b c answers in
    (line : IsLineOf s b limit m x) (n : ℕ) → IsOfLine line n → calls_in s b (m n) ≡ true
    → (p newline : ℕ) → p < n → newline_in (m p) (m (suc p)) ≡ Some newline → ((k : ℕ) → p < k → k ≤ n → shows (m k) newline ≡ true) → ⊥

-- More answers than a line needs are left over, and change nothing.
abbrev pub OnlyItsAnswers : Type 0
OnlyItsAnswers = (s : StoryTree) (b : Bound) (c : Configuration) (given later : List (Option Given)) (x : Moment)
    → Line s b c given x → IsAnswered x → Line s b c (given ++ later) (extended [] later x)

-- ---- one line

-- a run has one line, whatever the limit
abbrev pub OneLine : Type 0
OneLine = (s : StoryTree) (b : Bound) (limit : ℕ) (m : ℕ → Moment) (x y : Moment) → IsLineOf s b limit m x → IsLineOf s b limit m y → x ≡ y

-- A newline that is shown up to a step that makes it firm is firm, also where a Text or Tag stands behind it before that step.
abbrev pub ShownIsFirm : Type 0
ShownIsFirm = (s : StoryTree) (b : Bound) (limit : ℕ) (m : ℕ → Moment) → ((n : ℕ) → m (suc n) ≡ next s b (m n))
    → (p newline until : ℕ) → newline_in (m p) (m (suc p)) ≡ Some newline → p < until → until ≤ limit → goes_on (m until) ≡ true
    → ((k : ℕ) → p < k → k ≤ until → shows (m k) newline ≡ true) → ((k : ℕ) → p < k → k < until → calls_in s b (m k) ≡ false)
    → MakesFirm s b limit m until newline → IsFirm s b limit m p

-- Where a newline is open before a step, a Text or Tag stands behind it after the step exactly where the step wrote one into the line.
abbrev pub WrittenBehind : Type 0
WrittenBehind = (s : StoryTree) (b : Bound) (c : Configuration) (left : List (Option Given)) (made : List Made) (newline : ℕ)
    → open_in (At c left made) ≡ Some newline → let new = next s b (At c left made) in
    goes_past new newline ≡ more_from (page_at new).line (length c.page.line)

-- ---- looking for it

-- after each step a search knows what it says
abbrev pub SearchesKnow : Type 0
SearchesKnow = (s : StoryTree) (b : Bound) (limit : ℕ) (c : Configuration) (answers : List (Option Given)) (n : ℕ) → n ≤ limit
    → Knows s b limit (moment s b c answers) n (search s b n (Seeking (At c answers [])))

-- a search comes to the line
abbrev pub SearchesFind : Type 0
SearchesFind = (s : StoryTree) (b : Bound) (limit : ℕ) (c : Configuration) (answers : List (Option Given))
    → IsLineOf s b limit (moment s b c answers) (found (search s b limit (Seeking (At c answers []))))

-- once a search is over the line is known, whatever steps are left
abbrev pub OverIsTheLine : Type 0
OverIsTheLine = (s : StoryTree) (b : Bound) (limit : ℕ) (c : Configuration) (answers : List (Option Given)) (n : ℕ) (x : Moment) → n ≤ limit
    → search s b n (Seeking (At c answers [])) ≡ Over x → IsLineOf s b limit (moment s b c answers) x
