-- Lines one after another, with nothing between them, and the one run that they are.
use Rattle.std.specs.Prelude.{◌≡◌, ℕ, zero, suc, List, [], ◌∷◌, ◌++◌, Option, Some}
use Rattle.ink_model.specs.Protocol.Answer.{Tells}
use Rattle.ink_model.specs.Protocol.Command as command
use Rattle.ink_model.specs.Run.Configuration.{Configuration, begun, settled}
use Rattle.ink_model.specs.Host.Bindings.{Bindings, Bound}
use Rattle.ink_model.specs.Run.Line.{EndsLine}
use Rattle.ink_model.specs.Run.Moments.{Made, Moment, At, Stopped, Faulted, Waits, Kept, answers_of, run}
use Rattle.ink_model.specs.Protocol.Session.{Does}
use Rattle.ink_model.specs.Protocol.State.{State, Ready}
use Rattle.ink_model.specs.Story.Tree.{StoryTree}
use Rattle.ink_model.specs.declared.host.Event.{Event}
use Rattle.ink_model.specs.declared.host.Event.TheVariants as event
use Rattle.ink_model.specs.declared.host.Given.{Given}
use Rattle.ink_model.specs.declared.passage.Passage.{Passage}

-- ---- lines

-- lines, by the calls that each made: each is kept, and where it leaves the story settled the next one begins
abbrev pub Lines : StoryTree → Bound → Configuration → List (List Made) → Configuration → Type 0
Lines s b c [] e = e ≡ c
Lines s b c (made ∷ rest) e = (d : Configuration) × EndsLine s b c made (Kept d) × Lines s b (settled d) rest e

-- all their calls, in order
abbrev pub joined : List (List Made) → List Made
joined [] = []
joined (made ∷ rest) = made ++ joined rest

-- ---- one run

-- a line begins: no marks, no numbers of Enters, no safe stop; all else stays
abbrev pub anew : Moment → Moment
anew (At c left made) = At (begun (settled c)) left made
anew (Stopped c left made) = At (begun (settled c)) left made
anew end = end

-- one run of so many steps, then a line begins, then so many more, and so on
abbrev pub laid : StoryTree → Bound → List ℕ → Moment → Moment
laid s b [] m = m
laid s b (n ∷ ns) m = laid s b ns (anew (run s b n m))

-- From where a line begins, so many steps of the one run come to where the next one begins: the line's calls are made, and of the
-- answers only the later ones are left.
abbrev pub Passes : StoryTree → Bound → Configuration → List Made → Configuration → ℕ → List Made → List (Option Given) → Type 0
Passes s b c made d n before later = anew (run s b n (At (begun c) (answers_of made ++ later) before)) ≡ At (begun d) later (before ++ made)

-- One entry for each line: it goes from where the line begins to where it was kept.
abbrev pub EachLine : (s : StoryTree) (b : Bound) (c e : Configuration) (lines : List (List Made)) → Lines s b c lines e → List ℕ → List Made → Type 0
EachLine s b c e [] row steps before = steps ≡ []
EachLine s b c e (made ∷ rest) row [] before = ⊥
EachLine s b c e (made ∷ rest) (d, kept, on) (n ∷ steps) before =
    Passes s b c made (settled d) n before (answers_of (joined rest)) × EachLine s b (settled d) e rest on steps (before ++ made)

-- ---- commands

-- `continue` so many times, with nothing between, and each was answered with a line
abbrev pub Continues : StoryTree → Bindings → List Event → ℕ → State → State → Type 0
Continues s h es zero old new = (es ≡ []) × (new ≡ old)
Continues s h es (suc n) old new = (first : List Event) × (others : List Event) × (line : Passage) × (mid : State)
    × (es ≡ first ++ others) × Does s h first (Some command.Continue) old (Tells line) mid × Continues s h others n mid new

-- the calls among events
abbrev pub called : List Event → List Made
called [] = []
called (event.Call name arguments gave stamp ∷ es) = record { name = name; arguments = arguments; gave = gave } ∷ called es
called (event.Saw name stamp value ∷ es) = called es

-- One entry for each command: it goes from where the command found the story to where it left it, and makes the calls among its
-- events.
abbrev pub EachCommand : (s : StoryTree) (h : Bindings) (es : List Event) (n : ℕ) (old new : State) → Continues s h es n old new → Configuration → List ℕ → List Made → Type 0
EachCommand s h es zero old new row c steps before = steps ≡ []
EachCommand s h es (suc n) old new row c [] before = ⊥
EachCommand s h es (suc n) old new (first, others, line, mid, parts, does, on) c (k ∷ steps) before =
    (d : Configuration) × (mid.condition ≡ Ready d) × Passes s h.functions c (called first) d k before (answers_of (called others))
    × EachCommand s h others n mid new on d steps (before ++ called first)

-- ---- more answers

-- with these calls before, and these answers left over
abbrev pub extended : List Made → List (Option Given) → Moment → Moment
extended before later (At c left made) = At c (left ++ later) (before ++ made)
extended before later (Stopped c left made) = Stopped c (left ++ later) (before ++ made)
extended before later (Faulted f c left made) = Faulted f c (left ++ later) (before ++ made)
extended before later (Waits name made) = Waits name (before ++ made)

-- no answer was missing
abbrev pub IsAnswered : Moment → Type 0
IsAnswered (Waits name made) = ⊥
IsAnswered m = Unit {0}
