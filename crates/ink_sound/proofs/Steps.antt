-- A step keeps a configuration sound, and so do an answer and a run.
use Rattle.std.proofs.Common.{◌≡◌, refl, subst, ℕ, zero, suc, lit≤, inl, inr, List, [], ◌∷◌, slice_get, Bool, true, if◌then◌else◌, Option, Some, None, is_some}
use Rattle.ink_sound.proofs.Common.{cond_both, ThreadOf, StoryTree, at, Given, Part, Each, ChoiceFits, ChoicesFit, FlowStands, PlaceFits, SomePlace, Sound, ThreadFits, ThreadStands}
use Rattle.ink_model.specs.Choices.Making.{behind, can_take, only_invisible, choice_gone, taken_of, visible}
use Rattle.ink_model.specs.Choices.Choosing.{chosen, default_choice, following, jumped, open_choice, stopped_by, taken_up}
use Rattle.ink_model.specs.Run.Configuration.{ChoiceOf, Configuration, begun, can_go_on, current_place, ended, next_turn}
use Rattle.ink_model.specs.Run.Effect.{Effect, Fields, context_of, fields_of}
use Rattle.ink_model.specs.Run.Entered.{passed_places}
use Rattle.ink_model.specs.Host.Bindings.{Bound}
use Rattle.ink_model.specs.Run.Line.{Line}
use Rattle.ink_model.specs.Run.Move.{Outcome, Stop, Faults, move}
use Rattle.ink_model.specs.Run.Place.{content_place}
use Rattle.ink_model.specs.Run.Moments.{Made, Moment, At, answered, came, cut_off, moment, moment_after, next, run, through}
use Rattle.ink_model.specs.Run.Step.{Stepped, Comes, Wants, acted, call_made, effect, gone_in, performed, step, step_at}
use Rattle.ink_model.specs.Run.Step.Host.{Acts, Suspends, Call, CallEffect, answering, call_at, call_external}
use Rattle.ink_model.specs.Run.Visits.{around, entering_around, entering_at}
use Rattle.ink_model.specs.declared.limits.TheConstants.{MAX_STEPS}
use Rattle.ink_sound.specs.Kept.{CallFits, EffectFits, FieldsFit, Finds, MomentFits, OutcomeFits, Runs, SteppedFits, StoryFits}
use Rattle.ink_sound.proofs.Counts.{one_more_most}
use Rattle.ink_sound.proofs.Effects.{effect_fits}
use Rattle.ink_sound.proofs.Flows.{top_fits}
use Rattle.ink_sound.proofs.Leads.{answering_fits, external_fits}
use Rattle.ink_sound.proofs.Moves.{context_fits, ended_sound, entering_runs, fields_fit, move_fits}
use Rattle.ink_sound.proofs.Places.{entered_fits}
use Rattle.ink_sound.proofs.Values.{map_finds}

-- ---- choices that are taken

module _ {X : Type 0} (P : X → Type 0) where
  pub get_finds : (xs : List X) (n : ℕ) → Each P xs → Finds P (slice_get xs n)
  get_finds [] n h = tt
  get_finds (x ∷ xs) zero h = h.0
  get_finds (x ∷ xs) (suc n) h = get_finds xs n h.1

module _ (P : ChoiceOf (List Part) → Type 0) where
  taken_finds : (test : ChoiceOf (List Part) → Bool) (cs : List (ChoiceOf (List Part))) (n : ℕ) → Each P cs → Finds (λ r. P r.0) (taken_of test n cs)
  taken_finds test (c ∷ cs) zero h = cond_both (test c) _ _ (Finds (λ r. P r.0)) (λ _. h.0) (λ _. map_finds (λ r. P r.0) (λ r. P r.0) (taken_of test zero cs) (behind c) (taken_finds test cs zero h.1) (λ r k. k))
  taken_finds test (c ∷ cs) (suc n) h = map_finds (λ r. P r.0) (λ r. P r.0) (taken_of test (if test c then n else suc n) cs) (behind c) (taken_finds test cs (if test c then n else suc n) h.1) (λ r k. k)
  taken_finds test cs n h = tt

  pub default_finds : (cs : List (ChoiceOf (List Part))) → Each P cs → Finds P (default_choice cs)
  default_finds cs h = cond_both (only_invisible cs) _ _ (Finds P) (λ _. map_finds (λ r. P r.0) P (choice_gone 0 cs) (λ r. r.0) (taken_finds (can_take cs) cs 0 h) (λ r k. k)) (λ _. tt)

  pub visible_each : (cs : List (ChoiceOf (List Part))) → Each P cs → Each P (visible cs)
  visible_each [] h = tt
  visible_each (c ∷ cs) h = cond_both c.hidden _ _ (Each P) (λ _. visible_each cs h.1) (λ _. (h.0, visible_each cs h.1))

  pub open_finds : (n : ℕ) (c : Configuration) → Each P c.flow.choices → Finds P (open_choice n c)
  open_finds n c h = cond_both (can_go_on c) _ _ (Finds P) (λ _. tt) (λ _. get_finds P (visible c.flow.choices) n (visible_each c.flow.choices h))

module _ (s : StoryTree) where
  -- ---- flow is put at a place

  placed : (p : List Part) (t : ThreadOf (List Part)) → PlaceFits s p → ThreadFits s t → ThreadStands s (record t { frame = record t.frame { place = Some p } })
  placed p t h k = assumption

  pub taken_runs : (choice : ChoiceOf (List Part)) (c : Configuration) → ChoiceFits s choice → Sound s c → Runs s (taken_up choice c)
  taken_runs choice c h k =
      let threads = top_fits s _ [] (placed choice.target choice.thread h.target h.thread.thread) tt (lit≤ tt) in
      let choices : ChoicesFit s [] = record { each = tt; few = lit≤ tt } in assumption

  pub enters_around : (c : Configuration) → Runs s c → Runs s (entering_around s c)
  enters_around c h = (entering_runs s (around s c.flow.threads) c h.0, h.1)

  following_fits : (o : Outcome) → OutcomeFits s o → OutcomeFits s (following s o)
  following_fits (Stop c) h = (elim (default_choice c.flow.choices) as (λ o. Finds (ChoiceFits s) o → OutcomeFits s (stopped_by s o c))
      [ None ↦ λ k. h | Some choice ↦ λ k. enters_around (taken_up choice c) (taken_runs choice c k h) ]) (default_finds (ChoiceFits s) c.flow.choices h.flow.choices.each)
  following_fits o h = h

  -- ---- steps

  gone_in_runs : (p : List Part) (c : Configuration) → current_place c ≡ Some p → Sound s c → Runs s (gone_in s p c)
  gone_in_runs p c is h =
      let here : PlaceFits s (content_place s p) = entered_fits s p (subst (λ o. FlowStands s o c.flow.threads.below) is h.flow.threads.flow) in
      let d : Configuration = entering_at s p c in
      let k : Sound s d = entering_runs s (passed_places s p) c h in
      let top = placed (content_place s p) d.flow.threads.thread here k.flow.threads.thread in assumption here

  module _ (story : StoryFits s) (b : Bound) where
    acted_fits : (e : Effect) (c : Configuration) → EffectFits s e → Runs s c → OutcomeFits s (acted s e c)
    acted_fits e c k h = following_fits (move s e c) (move_fits s e c k h)

    made_fits : (k : CallEffect) (c : Configuration) → CallFits s k → Runs s c → SteppedFits s (call_made s k c)
    made_fits (Acts e) c k h = acted_fits e c k h
    made_fits (Suspends name arguments f) c k h = (k, h)

    performed_fits : (p : List Part) (call : Option Call) (c : Configuration) → Runs s c → SteppedFits s (performed s b p (at s p) call c)
    performed_fits p None c h =
        acted_fits (effect s p (at s p) (context_of c) (fields_of c)) c (effect_fits s p (context_of c) (context_fits s c h) (fields_of c) (fields_fit s c h.0) story (at s p) refl) h
    performed_fits p (Some k) c h = made_fits (call_external s b k.name k.arguments k.conditional (fields_of c)) c (external_fits s b k.name k.arguments k.conditional (fields_of c) (fields_fit s c h.0)) h

    -- each step of a sound configuration leads to a sound one
    pub step_fits : (c : Configuration) → Sound s c → SteppedFits s (step s b c)
    unfolding step
    step_fits c h = (elim (current_place c) as (λ o. current_place c ≡ o → SteppedFits s (step_at s b o c))
        [ None ↦ λ is. h | Some p ↦ λ is. performed_fits (content_place s p) (call_at (at s (content_place s p))) (gone_in s p c) (gone_in_runs p c is h) ]) refl

    -- ---- answers and runs

    pub answered_fits : (f : Fields) (c : Configuration) (gave : Option Given) → FieldsFit s f → Runs s c → OutcomeFits s (answered s f c gave)
    answered_fits f c gave h k = acted_fits (answering gave f) c (answering_fits s gave f h) k

    -- where a run goes on, flow is at a place
    abbrev MomentRuns : Moment → Type 0
    MomentRuns (At c left made) = Runs s c
    MomentRuns m = MomentFits s m

    after_runs : (c : Configuration) (o : Outcome) (left : List (Option Given)) (made : List Made) → Sound s c → OutcomeFits s o → MomentRuns (moment_after c o left made)
    after_runs c (Faults f) left made h k = h
    after_runs c o left made h k = k

    came_runs : (c : Configuration) (o : Stepped) (left : List (Option Given)) (made : List Made) → Sound s c → SteppedFits s o → MomentRuns (came s c o left made)
    came_runs c (Comes o) left made h k = after_runs c o left made h k
    came_runs c (Wants name arguments f d) [] made h k = tt
    came_runs c (Wants name arguments f d) (a ∷ left) made h k = after_runs c (answered s f d a) left _ h (answered_fits f d a k.0 k.1)

    next_runs : (m : Moment) → MomentFits s m → MomentRuns (next s b m)
    next_runs (At c left made) h = came_runs c (step s b c) left made h (step_fits c h)
    next_runs m h = h

    runs_fit : (m : Moment) → MomentRuns m → MomentFits s m
    runs_fit (At c left made) h = h.0
    runs_fit m h = h

    pub run_fits : (n : ℕ) (m : Moment) → MomentFits s m → MomentFits s (run s b n m)
    unfolding run
    run_fits zero m h = h
    run_fits (suc n) m h = runs_fit _ (next_runs (run s b n m) (run_fits n m h))

    pub begun_sound : (c : Configuration) → Sound s c → Sound s (begun c)
    begun_sound c h = assumption

    cut_fits : (m : Moment) → MomentFits s m → MomentFits s (cut_off m)
    cut_fits (At c left made) h = h
    cut_fits m h = h

    pub through_fits : (c : Configuration) (answers : List (Option Given)) → Sound s c → MomentFits s (through s b c answers)
    through_fits c answers h = cut_fits (moment s b (begun c) answers MAX_STEPS) (run_fits MAX_STEPS (At (begun c) answers []) (begun_sound c h))

    -- ---- lines

    pub line_fits : (c : Configuration) (answers : List (Option Given)) (x : Moment) → Line s b c answers x → Sound s c → MomentFits s x
    line_fits c answers x (inl cut) h = subst (MomentFits s) cut.ends (run_fits (suc cut.step) (At (begun c) answers []) (begun_sound c h))
    line_fits c answers x (inr whole) h = subst (MomentFits s) whole.ends (through_fits c answers h)

    never_at : (m : Moment) (d : Configuration) (left : List (Option Given)) (made : List Made) → cut_off m ≡ At d left made → ⊥
    never_at (At c l k) d left made e = cc
    never_at m d left made e = cc

    line_runs : (c : Configuration) (answers : List (Option Given)) (d : Configuration) (left : List (Option Given)) (made : List Made)
        → Line s b c answers (At d left made) → Sound s c → Runs s d
    unfolding run
    line_runs c answers d left made (inl cut) h = subst MomentRuns cut.ends
        (next_runs (run s b cut.step (At (begun c) answers [])) (run_fits cut.step (At (begun c) answers []) (begun_sound c h)))
    line_runs c answers d left made (inr whole) h = absurd (never_at (moment s b (begun c) answers MAX_STEPS) d left made whole.ends)

    -- a line that was cut is kept in a sound configuration, and flow has not stopped
    pub cut_fits_on : (c : Configuration) (answers : List (Option Given)) (d : Configuration) (left : List (Option Given)) (made : List Made)
        → Line s b c answers (At d left made) → Sound s c → Sound s d × (can_go_on d ≡ true)
    cut_fits_on c answers d left made line h =
        let runs = line_runs c answers d left made line h in
        (runs.0, (elim (current_place d) as (λ o. SomePlace s o → is_some o ≡ true) [ Some p ↦ λ k. refl | None ↦ λ k. absurd k ]) runs.1)

  -- ---- choosing and jumping

  next_sound : (c : Configuration) → Sound s c → Sound s (next_turn c)
  next_sound c h = record { flow = h.flow; shared = record { globals = h.shared.globals; counts = h.shared.counts; turn = one_more_most s c.shared.turn h.shared.turn }; page = h.page }

  pub chosen_sound : (choice : ChoiceOf (List Part)) (c : Configuration) → ChoiceFits s choice → Sound s c → Sound s (entering_around s (chosen choice c))
  chosen_sound choice c h k = (enters_around (chosen choice c) (taken_runs choice (next_turn c) h (next_sound c k))).0

  pub jumped_sound : (q : List Part) (c : Configuration) → PlaceFits s q → Sound s c → Sound s (entering_around s (jumped q c))
  jumped_sound q c h k =
      let e : Configuration = next_turn (ended c) in
      let r : Sound s e = next_sound (ended c) (ended_sound s c k) in
      entering_runs s (around s (jumped q c).flow.threads) (jumped q c) (record {
        flow = record { threads = top_fits s _ [] (placed q e.flow.threads.thread h r.flow.threads.thread) tt (lit≤ tt); stack = r.flow.stack; choices = r.flow.choices };
        shared = r.shared;
        page = r.page;
      })
