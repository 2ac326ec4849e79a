-- A run with its desk, step by step.
use Rattle.std.proofs.Common.{◌≡◌, ◌∙◌, ◌++◌, ◌∷◌, ◌+◌, ◌<◌, ℕ, List, [], Option, Result, Ok, Err, ap, subst, Bool, true, false}
use Rattle.ink_step.proofs.Common.{Configuration, step, StoryTree, Fault, Event, Given, MAX_STEPS, Value, StepMakes, step_end, StepEnd}
use Rattle.ink_model.specs.Host.Events.{Made, calls}
use Rattle.ink_model.specs.Host.Bindings.{Bound as Binds, nothing_bound}
use Rattle.ink_model.specs.Memory.Refusals.{asks}
use Rattle.ink_model.specs.declared.fault.Fault.TheVariants.{OutOfSteps}
use Rattle.ink_host.specs.Desk.{DeskView, Grew, bound_by, empty_desk}
use Rattle.ink_host.specs.declared.objects.Called.{Called}
use Rattle.ink_host.specs.declared.objects.Seen.{Seen}
use Rattle.ink_step.specs.Runs.{AreBound, RunsToStop}
use Rattle.ink_host.proofs.Laws.{bound-same, grew-grew, grew-none}
use Rattle.ink_step.proofs.Growing.{calls_on}
use Rattle.ink_step.proofs.Openings.{runs_alone}
use Rattle.ink_step.proofs.Moments.{Did, GotTo, is_pressed, begins, did, run_faulted, run_out, run_stopped, run_went}

bound_too : (b : Binds) (made more : List Made) → AreBound b made → AreBound b more → AreBound b (made ++ more)
bound_too b [] more h k = k
bound_too b (m ∷ made) more h k = (h.0, bound_too b made more h.1 k)

module _ {P T W : Type 0} (turn_log : T → List Called) (watch_log : W → List Seen) (meaning : P → List Value → Option Given) (s : StoryTree) (first : DeskView P T W) (start : Configuration) where
  abbrev pub bound_first : Binds
  bound_first = bound_by meaning first.functions

  -- after n steps the run has come here, with the calls that the desk has kept
  pub record Ran (n : ℕ) (desk : DeskView P T W) (now : Configuration) : Type 0 where
    pub made : List Made
    pub grew : Grew turn_log watch_log first (calls first.next made) desk
    pub got_there : GotTo s bound_first start n now made
    pub bound : AreBound bound_first made

  -- how the run ends
  abbrev pub EndsRun : Bool → Bool → DeskView P T W → Configuration → Result (Unit {0}) Fault → Type 0
  EndsRun marked pressed desk new result = (made : List Made) × Grew turn_log watch_log first (calls first.next made) desk × RunsToStop s bound_first marked pressed start made new result × AreBound bound_first made

  pub ran_none : Ran 0 first start
  ran_none = record { made = []; grew = grew-none turn_log watch_log first; got_there = begins s bound_first start; bound = tt }

  -- what a step does, with what is bound at the start, and as the mark stands
  abbrev pub Stepped : Bool → Bool → DeskView P T W → Configuration → DeskView P T W → Configuration → Result StepEnd Fault → Type 0
  Stepped standing pressed before old after new result = let b = bound_by meaning before.functions in
      (es : List Event) × Grew turn_log watch_log before es after × StepMakes s b before.next (is_pressed s standing pressed old) (asks s b old) (step s b old) es old.shared.globals new result

  module _ (n : ℕ) (marked standing pressed : Bool) (stands : standing ≡ marked) (before after : DeskView P T W) (old new : Configuration) (ran : Ran n before old) where
    same_bound : bound_by meaning before.functions ≡ bound_first
    same_bound = bound-same turn_log watch_log meaning first before (calls first.next ran.made) ran.grew

    did_in : (result : Result StepEnd Fault) (h : Stepped standing pressed before old after new result) → Did s bound_first marked pressed ran.made before.next h.0 old new result
    did_in result h = did s bound_first marked pressed ran.made before.next h.0 old new result
        (subst (λ b. StepMakes s b before.next (is_pressed s marked pressed old) (asks s b old) (step s b old) h.0 old.shared.globals new result) same_bound
        (subst (λ m. let b = bound_by meaning before.functions in StepMakes s b before.next (is_pressed s m pressed old) (asks s b old) (step s b old) h.0 old.shared.globals new result) stands h.2))

    grown_by : (result : Result StepEnd Fault) (h : Stepped standing pressed before old after new result) (d : Did s bound_first marked pressed ran.made before.next h.0 old new result)
        → Grew turn_log watch_log first (calls first.next (ran.made ++ d.more)) after
    grown_by result h d =
        let events : calls first.next ran.made ++ h.0 ≡ calls first.next (ran.made ++ d.more) =
        ap (λ es. calls first.next ran.made ++ es) (d.events ∙ ap (λ n. calls n d.more) ran.grew.next) ∙ calls_on first.next ran.made d.more in
        subst (λ es. Grew turn_log watch_log first es after) events (grew-grew turn_log watch_log first before after (calls first.next ran.made) h.0 ran.grew h.1)

    -- a step that ended so
    ended_so : (on so : Bool) → on ≡ so → Stepped standing pressed before old after new (step_end (Ok on)) → Stepped standing pressed before old after new (step_end (Ok so))
    ended_so on so is h = subst (λ w. Stepped standing pressed before old after new (step_end (Ok w))) is h

    pub ran_on : (on : Bool) → on ≡ true → Stepped standing pressed before old after new (step_end (Ok on)) → Ran (n + 1) after new
    ran_on on is stepped = let h = ended_so on true is stepped in let d = did_in (step_end (Ok true)) h in record {
      made = ran.made ++ d.more;
      grew = grown_by (step_end (Ok true)) h d;
      got_there = run_went s bound_first start marked pressed n old new ran.made d.more ran.got_there d.ends;
      bound = bound_too bound_first ran.made d.more ran.bound d.bound;
    }

    pub ran_to_stop : (on : Bool) → n < MAX_STEPS → on ≡ false → Stepped standing pressed before old after new (step_end (Ok on)) → (m p : Bool) → EndsRun m p after new (Ok tt)
    ran_to_stop on below is stepped m p = let h = ended_so on false is stepped in let d = did_in (step_end (Ok false)) h in
        (ran.made ++ d.more, grown_by (step_end (Ok false)) h d, run_stopped s bound_first start marked pressed n MAX_STEPS old new ran.made d.more below ran.got_there d.ends, bound_too bound_first ran.made d.more ran.bound d.bound)

    pub ran_to_fault : (f : Fault) → n < MAX_STEPS → Stepped standing pressed before old after new (Err f) → EndsRun marked pressed after new (Err f)
    ran_to_fault f below h = let d = did_in (Err f) h in
        (ran.made ++ d.more, grown_by (Err f) h d, run_faulted s bound_first start marked pressed n old new ran.made d.more f below ran.got_there d.ends, bound_too bound_first ran.made d.more ran.bound d.bound)

  pub ran_out : (marked pressed : Bool) (n : ℕ) (desk : DeskView P T W) (now : Configuration) → MAX_STEPS ≡ n → Ran n desk now → EndsRun marked pressed desk now (Err OutOfSteps)
  ran_out marked pressed n desk now e ran = (ran.made, ran.grew, run_out s bound_first start marked pressed n now ran.made e ran.got_there, ran.bound)

-- ---- a run with nothing bound

pub runs_alone_at : {P T W : Type 0} (turn_log : T → List Called) (watch_log : W → List Seen) (meaning : P → List Value → Option Given) (s : StoryTree) (marked pressed : Bool) (first after : DeskView P T W) (start new : Configuration)
    (result : Result (Unit {0}) Fault) → first ≡ empty_desk → marked ≡ false → pressed ≡ false → EndsRun turn_log watch_log meaning s first start marked pressed after new result → RunsToStop s nothing_bound false false start [] new result
runs_alone_at turn_log watch_log meaning s marked pressed first after start new result empty unmarked free h =
    runs_alone s (bound_by meaning first.functions) marked pressed start new h.0 result (ap (λ d. bound_by meaning d.functions) empty) unmarked free h.2 h.3
