-- Steps of a loop that looks for a line, by what a step of the machine comes to.
use Rattle.std.proofs.Common.{◌≡◌, ◌∙◌, ◌||◌, ap, arith, sym, refl, subst, length, nat_le, if◌then◌else◌, ◌≤◌, ◌<◌, ℕ, suc, List, [], Bool, true, false, Option, None, Some, Result, Ok, Err}
use Rattle.std.proofs.lemmas.Bool.{leb-true}
use Rattle.ink_model.specs.Run.Line.{at_least, is_call}
use Rattle.ink_line.specs.Look.{Looking, Over, Search, kept_at, look_on, looked, looked_by, looked_on, newline_between}
use Rattle.ink_line.proofs.Opens.{is_open, open_is, shown_below}
use Rattle.ink_look.specs.Looking.{FindsAs, MarksHere, StandsAs, StepsOn, found_of, newline_from, search_after, stepped}
use Rattle.ink_look.proofs.Common.{Looked, asks, Configuration, Bound, StoryTree, Fault, OutOfMemory, Event, Given, config_of}
use Rattle.ink_look.specs.declared.looking.Looked.TheVariants as after
use Rattle.ink_look.specs.declared.looking.Standing.TheVariants as standing
use Rattle.ink_model.specs.Run.Move.{Outcome, Next, Stop, Faults}
use Rattle.ink_model.specs.Text.Output.{is_line}
use Rattle.ink_model.specs.Text.Page.{Page}
use Rattle.ink_model.specs.Run.Moments.{Made, Moment, At, Stopped, came, moment_after}
use Rattle.ink_model.specs.Text.Shown.{is_shown, more_from, open_newline}
use Rattle.ink_model.specs.Run.Step.{Stepped, Comes, Wants, step}
use Rattle.ink_model.specs.declared.mark.Mark.{Mark}
use Rattle.ink_step.specs.Marks.{presses, stood_of, unmarked}
use Rattle.ink_step.specs.Steps.{StepEnds, StepMakes, Steps}
use Rattle.ink_step.specs.declared.machine.Machine.{Machine}
use Rattle.ink_moves.specs.declared.flow.StepEnd.{StepEnd}
use Rattle.ink_moves.specs.declared.flow.StepEnd.TheVariants as ends
use Rattle.ink_step.proofs.Follows.{never_wants}
use Rattle.ink_step.proofs.Marks.{not_presses}

-- ---- quiet steps

went_wants : let r : Result StepEnd Fault = Ok ends.Went in r ≡ Ok ends.WantsCall → ⊥
went_wants e = cc

stopped_wants : let r : Result StepEnd Fault = Ok ends.Stopped in r ≡ Ok ends.WantsCall → ⊥
stopped_wants e = cc

err_wants : (f : Fault) → let r : Result StepEnd Fault = Err f in r ≡ Ok ends.WantsCall → ⊥
err_wants f e = cc

module _ (asking : Bool) (old new : Configuration) where
  went : (o : Outcome) → StepEnds asking o old.shared.globals new (Ok ends.Went) → (left : List (Option Given)) (made : List Made) → moment_after old o left made ≡ At new left made
  went (Next c) h left made = ap (λ d. At d left made) (sym h)
  went o h left made = absurd h

  stopped : (o : Outcome) → StepEnds asking o old.shared.globals new (Ok ends.Stopped) → (left : List (Option Given)) (made : List Made) → moment_after old o left made ≡ Stopped new left made
  stopped (Stop c) h left made = ap (λ d. Stopped d left made) (sym h)
  stopped o h left made = absurd h

-- how a quiet step ends
abbrev pub QuietEnds : StoryTree → Stepped → List Event → Configuration → Configuration → Result StepEnd Fault → Type 0
QuietEnds s o es old new (Ok ends.Went) = (es ≡ []) × (is_call o ≡ false) × ((left : List (Option Given)) (made : List Made) → came s old o left made ≡ At new left made)
QuietEnds s o es old new (Ok ends.Stopped) = (es ≡ []) × (is_call o ≡ false) × ((left : List (Option Given)) (made : List Made) → came s old o left made ≡ Stopped new left made)
QuietEnds s o es old new (Ok ends.WantsCall) = es ≡ []
QuietEnds s o es old new (Err f) = (es ≡ []) × (is_call o ≡ false)

module _ (s : StoryTree) (b : Bound) (n : ℕ) (pressed asking : Bool) (es : List Event) (old new : Configuration) where
  pub quiet_ends : (o : Stepped) (r : Result StepEnd Fault) → Steps true s b n pressed asking o es old.shared.globals old new r → QuietEnds s o es old new r
  quiet_ends (Wants name arguments f d) (Ok ends.Went) h = absurd (went_wants h.0)
  quiet_ends (Wants name arguments f d) (Ok ends.Stopped) h = absurd (stopped_wants h.0)
  quiet_ends (Wants name arguments f d) (Ok ends.WantsCall) h = h.1
  quiet_ends (Wants name arguments f d) (Err g) h = absurd (err_wants g h.0)
  quiet_ends (Comes o) (Ok ends.Went) h = (h.0, refl, went (pressed || asking) old new o h.1)
  quiet_ends (Comes o) (Ok ends.Stopped) h = (h.0, refl, stopped (pressed || asking) old new o h.1)
  quiet_ends (Comes o) (Ok ends.WantsCall) h = absurd (never_wants (pressed || asking) o old.shared.globals new h.1)
  quiet_ends (Comes o) (Err f) h = (h.0, refl)

  -- the same by what it returned
  pub quiet_so : (o : Stepped) (r k : Result StepEnd Fault) → r ≡ k → Steps true s b n pressed asking o es old.shared.globals old new r → QuietEnds s o es old new k
  quiet_so o r k is h = quiet_ends o k (subst (λ r. Steps true s b n pressed asking o es old.shared.globals old new r) is h)

-- ---- a look past a newline

module _ (s : StoryTree) (b : Bound) (newline : ℕ) (kept old : Configuration) (left : List (Option Given)) (made : List Made) where
  abbrev pub looking : Search
  looking = Looking (At kept left made) newline (At old left made)

  -- by the moment that comes next
  comes : (x : Moment) → is_call (step s b old) ≡ false → came s old (step s b old) left made ≡ x → look_on s b looking ≡ looked (At kept left made) newline (At old left made) x
  comes x none e = ap (λ c. looked_on c (At kept left made) newline (At old left made) (came s old (step s b old) left made)) none
      ∙ ap (looked (At kept left made) newline (At old left made)) e

  module _ (new : Configuration) (none : is_call (step s b old) ≡ false) (other : Configuration) (same : other ≡ kept) (x : Search) where
    abbrev by : Configuration → Moment → Search
    by k m = looked_by (is_shown new.page.line newline) (more_from new.page.line (suc newline)) (At k left made) newline (At old left made) m

    pub goes : came s old (step s b old) left made ≡ At new left made → by other (At new left made) ≡ x → look_on s b looking ≡ x
    goes e h = comes (At new left made) none e ∙ (ap (λ k. by k (At new left made)) (sym same) ∙ h)

    pub stops : came s old (step s b old) left made ≡ Stopped new left made → by other (Stopped new left made) ≡ x → look_on s b looking ≡ x
    stops e h = comes (Stopped new left made) none e ∙ (ap (λ k. by k (Stopped new left made)) (sym same) ∙ h)

  -- at the newline
  pub cut_at : (l : Looked) → l ≡ after.Cut → (kept_then new : Configuration) → new ≡ kept → Over (At kept left made) ≡ search_after l kept_then new left made
  cut_at l is kept_then new same = subst (λ l. Over (At kept left made) ≡ search_after l kept_then new left made) (sym is) (ap (λ c. Over (At c left made)) (sym same))

-- a step that would call, or faults, is not taken
module _ (s : StoryTree) (b : Bound) (n : ℕ) (pressed asking : Bool) (es : List Event) (newline : ℕ) (kept old new : Configuration) where
  abbrev Cuts : Stepped → Type 0
  Cuts o = (es ≡ []) × ((left : List (Option Given)) (made : List Made) → looked_on (is_call o) (At kept left made) newline (At old left made) (came s old o left made) ≡ Over (At kept left made))

  pub cuts_call : (o : Stepped) (r : Result StepEnd Fault) → r ≡ Ok ends.WantsCall → Steps true s b n pressed asking o es old.shared.globals old new r → Cuts o
  cuts_call o r is h = by o (subst (λ r. Steps true s b n pressed asking o es old.shared.globals old new r) is h)
    where
      by : (o : Stepped) → Steps true s b n pressed asking o es old.shared.globals old new (Ok ends.WantsCall) → Cuts o
      by (Wants name arguments f d) h = (h.1, λ left made. refl)
      by (Comes o) h = absurd (never_wants (pressed || asking) o old.shared.globals new h.1)

  pub cuts_fault : (o : Stepped) (r : Result StepEnd Fault) (f : Fault) → r ≡ Err f → (f ≡ OutOfMemory → ⊥) → Steps true s b n pressed asking o es old.shared.globals old new r → Cuts o
  cuts_fault o r f is other h = by o (subst (λ r. Steps true s b n pressed asking o es old.shared.globals old new r) is h)
    where
      by : (o : Stepped) → Steps true s b n pressed asking o es old.shared.globals old new (Err f) → Cuts o
      by (Wants name arguments g d) h = absurd (err_wants f h.0)
      by (Comes (Faults g)) h = (h.0, λ left made. refl)
      by (Comes o) h = absurd (other h.1.0.0)

-- ---- where it stands

pub stands_last : (ms : List Mark) (last newline : ℕ) → Some last ≡ open_newline ms → last ≡ newline → StandsAs standing.Last (is_shown ms newline) (more_from ms (suc newline))
stands_last ms last newline is same = open_is ms newline (sym is ∙ ap Some same)

-- one that is shown, and not last, has more behind it
pub stands_past : (ms : List Mark) (newline : ℕ) → (open_newline ms ≡ Some newline → ⊥) → is_shown ms newline ≡ true → StandsAs standing.Past (is_shown ms newline) (more_from ms (suc newline))
stands_past ms newline other shown = (shown, by (more_from ms (suc newline)) refl)
  where
    by : (past : Bool) → more_from ms (suc newline) ≡ past → past ≡ true
    by true e = refl
    by false e = absurd (other (is_open ms newline shown e))

-- ---- a newline that a step is found to have

-- none where it left no mark
pub none_new : (marks : ℕ) (page : Page) → length page.line ≤ marks → newline_from marks page ≡ None
none_new marks page few = by (is_line page.sections)
  where
    at_last : (i : ℕ) → i < length page.line → (b : Bool) → nat_le marks i ≡ b → (if b then Some i else None) ≡ None
    at_last i within true is = absurd (omega (arith, few, within, leb-true marks i is))
    at_last i within false is = refl

    last : (o : Option ℕ) → open_newline page.line ≡ o → at_least marks o ≡ None
    last None is = refl
    last (Some i) is = at_last i (shown_below page.line i (open_is page.line i is).0) (nat_le marks i) refl

    by : (b : Bool) → (if b then at_least marks (open_newline page.line) else None) ≡ None
    by true = last (open_newline page.line) refl
    by false = refl

module _ (kept new : Configuration) where
  pub kept_found : (o : Option ℕ) → MarksHere (found_of o) kept new → (left : List (Option Given)) (all : List Made) → kept_at (At new left all) o ≡ search_after (found_of o) kept new left all
  kept_found None here left all = refl
  kept_found (Some i) here left all = ap (λ c. Looking (At c left all) i (At new left all)) (sym here)

-- past one that is hidden
module _ (newline : ℕ) (kept old mid kept_then new : Configuration) (same : new ≡ mid) (left : List (Option Given)) (made : List Made) where
  pub hidden_so : (marks : ℕ) (l : Looked) → length old.page.line ≡ marks → is_shown mid.page.line newline ≡ false → l ≡ found_of (newline_from marks mid.page) → MarksHere l kept_then new
      → looked_by (is_shown mid.page.line newline) (more_from mid.page.line (suc newline)) (At kept left made) newline (At old left made) (At mid left made) ≡ search_after l kept_then new left made
  hidden_so marks l count hidden is here =
      let found : l ≡ found_of (newline_between old.page mid.page) = is ∙ ap (λ k. found_of (newline_from k mid.page)) (sym count) in
      ap (λ shown. looked_by shown (more_from mid.page.line (suc newline)) (At kept left made) newline (At old left made) (At mid left made)) hidden
      ∙ ap (λ c. kept_at (At c left made) (newline_between old.page mid.page)) (sym same)
      ∙ kept_found kept_then new (newline_between old.page mid.page) (subst (λ l. MarksHere l kept_then new) found here) left made
      ∙ ap (λ l. search_after l kept_then new left made) (sym found)

stepped_found : (o : Option ℕ) → stepped (Ok (found_of o)) ≡ Ok ends.Went
stepped_found None = refl
stepped_found (Some newline) = refl

finds_found : (kept new : Configuration) (newline o : Option ℕ) → found_of o ≡ found_of newline → MarksHere (found_of o) kept new → FindsAs newline kept new (Ok (found_of o))
finds_found kept new newline None is here = (is, here)
finds_found kept new newline (Some i) is here = (is, here)

module _ (s : StoryTree) (b : Bound) (n : ℕ) (es : List Event) (kept old mid kept_then new : Configuration) (same : new ≡ mid) where
  pub seeks_on : (marks : ℕ) (l : Looked) → length old.page.line ≡ marks → l ≡ found_of (newline_from marks mid.page) → MarksHere l kept_then new
      → StepMakes s b n false (asks s b old) (step s b old) es old.shared.globals mid (Ok ends.Went) → StepsOn s b n None kept old es kept_then new (Ok l)
  seeks_on marks l count is here h =
      let o = newline_from marks mid.page in
      let newline : o ≡ newline_between old.page new.page = ap (λ k. newline_from k mid.page) (sym count) ∙ ap (λ c. newline_between old.page c.page) (sym same) in
      let makes : StepMakes s b n false (asks s b old) (step s b old) es old.shared.globals new (stepped (Ok (found_of o))) =
      subst (λ r. StepMakes s b n false (asks s b old) (step s b old) es old.shared.globals new r) (sym (stepped_found o))
      (subst (λ c. StepMakes s b n false (asks s b old) (step s b old) es old.shared.globals c (Ok ends.Went)) (sym same) h) in
      let finds : FindsAs (newline_between old.page new.page) kept_then new (Ok (found_of o)) =
      finds_found kept_then new (newline_between old.page new.page) o (ap found_of newline) (subst (λ l. MarksHere l kept_then new) is here) in
      subst (λ l. StepsOn s b n None kept old es kept_then new (Ok l)) (sym is) (makes, finds)

-- no mark stands at a step of a run
pub unmarked_makes : (s : StoryTree) (b : Bound) (n : ℕ) (m new : Machine) (es : List Event) (r k : Result StepEnd Fault) → stood_of m ≡ unmarked → stood_of new ≡ stood_of m → r ≡ k
    → let old = config_of s m in StepMakes s b n (presses s m new) (asks s b old) (step s b old) es old.shared.globals (config_of s new) r
    → StepMakes s b n false (asks s b old) (step s b old) es old.shared.globals (config_of s new) k
unmarked_makes s b n m new es r k free same is h =
    let old = config_of s m in
    subst (λ pressed. StepMakes s b n pressed (asks s b old) (step s b old) es old.shared.globals (config_of s new) k) (not_presses s m new free (same ∙ free))
    (subst (λ r. StepMakes s b n (presses s m new) (asks s b old) (step s b old) es old.shared.globals (config_of s new) r) is h)
