-- Runs, moment by moment.
use Rattle.std.proofs.Common.{◌≡◌, ◌∙◌, ◌⊎◌, ◌++◌, ◌∷◌, ◌&&◌, ◌||◌, ℕ, zero, suc, Bool, true, false, List, Option, Some, None, Result, ◌+◌, ◌-◌, ◌≤◌, ◌<◌, ap, sym, refl, subst, inl, inr, [], Ok, Err, arith, append_assoc}
use Rattle.std.proofs.lemmas.List.{append-nil, map-append}
use Rattle.ink_step.proofs.Common.{Configuration, Fields, Outcome, Next, Stop, Faults, Stepped, Comes, Wants, step, Values, StoryTree, Fault, LacksMemory, Event, Given, MAX_STEPS, Value, takes_first, StepEnds, StepMakes, StepEnd}
use Rattle.ink_model.specs.Host.Events.{calls}
use Rattle.ink_model.specs.Host.Bindings.{Bound, turn_function}
use Rattle.ink_model.specs.Memory.Refusals.{GetsTo, IsRefusedMemory, answered_asks, asks}
use Rattle.ink_model.specs.Run.Moments.{Made, Moment, At, Stopped, Faulted, answered, answers_of, came, cut_off, moment, moment_after, next, run}
use Rattle.ink_model.specs.declared.fault.Fault.TheVariants.{OutOfMemory, OutOfSteps}
use Rattle.ink_step.specs.Runs.{AreBound, RunFalls, StepCalls, TakesAt}
use Rattle.ink_moves.specs.declared.flow.StepEnd.TheVariants as ends
use Rattle.ink_step.proofs.Follows.{never_wants}
use Rattle.ink_step.proofs.Marks.{takes_calls}

-- ---- the moment after an outcome

module _ (left : List (Option Given)) (made : List Made) (asking : Bool) (old new : Configuration) where
  went : (o : Outcome) → StepEnds asking o old.shared.globals new (Ok ends.Went) → moment_after old o left made ≡ At new left made
  went (Next c) h = ap (λ d. At d left made) (sym h)
  went o h = absurd h

  stopped : (o : Outcome) → StepEnds asking o old.shared.globals new (Ok ends.Stopped) → moment_after old o left made ≡ Stopped new left made
  stopped (Stop c) h = ap (λ d. Stopped d left made) (sym h)
  stopped o h = absurd h

-- a fault of the story, or a step that asks for memory and got none
faulted : (made : List Made) (asking : Bool) (old new : Configuration) (f : Fault) (o : Outcome) → StepEnds asking o old.shared.globals new (Err f)
    → (((left : List (Option Given)) → moment_after old o left made ≡ Faulted f old left made) ⊎ LacksMemory asking f)
faulted made asking old new f (Faults g) h = elim h.0 [
  | inl same ↦ inl (λ left. ap (λ x. Faulted x old left made) (sym same))
  | inr short ↦ inr short
]
faulted made asking old new f o h = inr h.0

kept_globals : (asking : Bool) (globals : Values) (new : Configuration) (f : Fault) (o : Outcome) → StepEnds asking o globals new (Err f) → new.shared.globals ≡ globals
kept_globals asking globals new f (Faults g) h = h.1
kept_globals asking globals new f o h = h.1

-- ---- what a step did in a run

-- a step is pressed: its stack keeps a mark, and it takes a value, or for what a mark wants
abbrev pub is_pressed : StoryTree → Bool → Bool → Configuration → Bool
is_pressed s marked pressed old = (takes_first s old && marked) || pressed

-- memory was refused before a call that the step wants, or for what came of its answer; or where it was pressed
abbrev pub Short : StoryTree → Bound → Bool → Bool → Configuration → List Made → Type 0
Short s b marked pressed old more = (((more ≡ []) × (asks s b old ≡ true))
    ⊎ ((name : List ℕ) × (arguments : List Value) × (given : Given) × (f : Fields) × (d : Configuration)
    × (step s b old ≡ Wants name arguments f d) × (more ≡ (record { name = name; arguments = arguments; gave = Some given }) ∷ []) × (answered_asks s arguments f d (Some given) ≡ true)))
    ⊎ (((more ≡ []) × (takes_first s old ≡ true) × (marked ≡ true)) ⊎ (StepCalls s b old more × (pressed ≡ true)))

-- the moment after a step with these calls, by what it returned
abbrev pub Ends : StoryTree → Bound → Bool → Bool → List Made → List Made → Configuration → Configuration → Result StepEnd Fault → Type 0
Ends s b marked pressed made more old new (Ok ends.Went) = (left : List (Option Given)) → came s old (step s b old) (answers_of more ++ left) made ≡ At new left (made ++ more)
Ends s b marked pressed made more old new (Ok ends.Stopped) = (left : List (Option Given)) → came s old (step s b old) (answers_of more ++ left) made ≡ Stopped new left (made ++ more)
Ends s b marked pressed made more old new (Ok ends.WantsCall) = ⊥
Ends s b marked pressed made more old new (Err f) = (new.shared.globals ≡ old.shared.globals)
    × (((left : List (Option Given)) → came s old (step s b old) (answers_of more ++ left) made ≡ Faulted f old left (made ++ more)) ⊎ ((f ≡ OutOfMemory) × Short s b marked pressed old more))

pub record Did (s : StoryTree) (b : Bound) (marked pressed : Bool) (made : List Made) (n : ℕ) (es : List Event) (old new : Configuration) (result : Result StepEnd Fault) : Type 0 where
  pub more : List Made
  pub events : es ≡ calls n more
  pub bound : AreBound b more
  pub ends : Ends s b marked pressed made more old new result

-- what asks for memory, by itself or as it is pressed
either : (by asking : Bool) → by || asking ≡ true → (asking ≡ true) ⊎ (by ≡ true)
either true asking h = inr refl
either false asking h = inl h

-- why it is pressed
taken_or : (takes marked pressed : Bool) → (takes && marked) || pressed ≡ true → ((takes ≡ true) × (marked ≡ true)) ⊎ (pressed ≡ true)
taken_or true true pressed h = inl (refl, refl)
taken_or true false pressed h = inr h
taken_or false marked pressed h = inr h

module _ (s : StoryTree) (b : Bound) (marked pressed : Bool) (made : List Made) (n : ℕ) (es : List Event) (old new : Configuration) where
  abbrev by_mark : Bool
  by_mark = is_pressed s marked pressed old

  -- refused without a call
  short_plainly : by_mark || asks s b old ≡ true → Short s b marked pressed old []
  short_plainly h = elim (either by_mark (asks s b old) h) [
    | inl asking ↦ inl (inl (refl, asking))
    | inr by ↦ inr (elim (taken_or (takes_first s old) marked pressed by) [ inl takes ↦ inl (refl, takes.0, takes.1) | inr is ↦ inr (inl refl, is) ])
  ]

  -- ---- without a call

  module _ (o : Outcome) (is : step s b old ≡ Comes o) where
    came_so : (left : List (Option Given)) (m : List Made → Moment) → moment_after old o left made ≡ m made → came s old (step s b old) left made ≡ m (made ++ [])
    came_so left m h = ap (λ x. came s old x left made) is ∙ h ∙ ap m (sym (append-nil made))

    ends_plainly : (result : Result StepEnd Fault) → StepEnds (by_mark || asks s b old) o old.shared.globals new result → Ends s b marked pressed made [] old new result
    ends_plainly (Ok ends.Went) h = λ left. came_so left (At new left) (went left made (by_mark || asks s b old) old new o h)
    ends_plainly (Ok ends.Stopped) h = λ left. came_so left (Stopped new left) (stopped left made (by_mark || asks s b old) old new o h)
    ends_plainly (Ok ends.WantsCall) h = never_wants (by_mark || asks s b old) o old.shared.globals new h
    ends_plainly (Err f) h = (
      kept_globals (by_mark || asks s b old) old.shared.globals new f o h,
      elim (faulted made (by_mark || asks s b old) old new f o h) [
        | inl faults ↦ inl (λ left. came_so left (Faulted f old left) (faults left))
        | inr short ↦ inr (short.0, short_plainly short.1)
      ],
    )

    did_plainly : (result : Result StepEnd Fault) → (es ≡ []) × StepEnds (by_mark || asks s b old) o old.shared.globals new result → Did s b marked pressed made n es old new result
    did_plainly result h = record { more = []; events = h.0; bound = tt; ends = ends_plainly result h.1 }

  -- ---- with a call

  module _ (name : List ℕ) (arguments : List Value) (f : Fields) (d : Configuration) (is : step s b old ≡ Wants name arguments f d) where
    abbrev call : Option Given → Made
    call gave = record { name = name; arguments = arguments; gave = gave }

    module _ (gave : Option Given) where
      came_calling : (left : List (Option Given)) (m : Moment) → moment_after old (answered s f d gave) left (made ++ call gave ∷ []) ≡ m
          → came s old (step s b old) (answers_of (call gave ∷ []) ++ left) made ≡ m
      came_calling left m h = ap (λ x. came s old x (gave ∷ left) made) is ∙ h

      abbrev asking : Bool
      asking = by_mark || answered_asks s arguments f d gave

      ends_calling : (result : Result StepEnd Fault) → StepEnds asking (answered s f d gave) old.shared.globals new result → Ends s b marked pressed made (call gave ∷ []) old new result
      ends_calling (Ok ends.Went) h = λ left. came_calling left _ (went left (made ++ call gave ∷ []) asking old new (answered s f d gave) h)
      ends_calling (Ok ends.Stopped) h = λ left. came_calling left _ (stopped left (made ++ call gave ∷ []) asking old new (answered s f d gave) h)
      ends_calling (Ok ends.WantsCall) h = never_wants asking (answered s f d gave) old.shared.globals new h
      ends_calling (Err g) h = (
        kept_globals asking old.shared.globals new g (answered s f d gave) h,
        elim (faulted (made ++ call gave ∷ []) asking old new g (answered s f d gave) h) [
          | inl faults ↦ inl (λ left. came_calling left _ (faults left))
          | inr short ↦
              inr (
                short.0,
                elim (either by_mark (answered_asks s arguments f d gave) short.1) [
                  | inl asked ↦ inl (inr (by gave refl asked))
                  | inr pressing ↦ inr (elim (taken_or (takes_first s old) marked pressed pressing) [ inl takes ↦ absurd (takes_calls s b old name arguments f d takes.0 is) | inr so ↦ inr (inr (name, arguments, gave, f, d, is, refl), so) ])
                ],
              )
        ],
      )
        where
          by : (o : Option Given) → gave ≡ o → answered_asks s arguments f d o ≡ true
              → (nm : List ℕ) × (ar : List Value) × (given : Given) × (k : Fields) × (c : Configuration) × (step s b old ≡ Wants nm ar k c)
              × (call gave ∷ [] ≡ (record { name = nm; arguments = ar; gave = Some given }) ∷ []) × (answered_asks s ar k c (Some given) ≡ true)
          by None at h = absurd (cc)
          by (Some given) at h = (name, arguments, given, f, d, is, ap (λ o. call o ∷ []) at, h)

    did_calling : (result : Result StepEnd Fault) → ((gave : Option Given) × (b name ≡ Some turn_function) × (es ≡ calls n (call gave ∷ [])) × StepEnds (by_mark || answered_asks s arguments f d gave) (answered s f d gave) old.shared.globals new result)
        ⊎ ((es ≡ []) × (new.shared.globals ≡ old.shared.globals) × IsRefusedMemory (by_mark || asks s b old) result) → Did s b marked pressed made n es old new result
    did_calling result h = elim h [
      | inl called ↦ record { more = call called.0 ∷ []; events = called.2; bound = (called.1, tt); ends = ends_calling called.0 result called.3 }
      | inr short ↦ subst (Did s b marked pressed made n es old new) (sym short.2.0) (record { more = []; events = short.0; bound = tt; ends = (short.1, inr (refl, short_plainly short.2.1)) })
    ]

  -- ---- a step in a run

  did_so : (result : Result StepEnd Fault) (o : Stepped) → step s b old ≡ o → StepMakes s b n by_mark (asks s b old) o es old.shared.globals new result → Did s b marked pressed made n es old new result
  did_so result (Comes o) is h = did_plainly o is result h
  did_so result (Wants name arguments f d) is h = did_calling name arguments f d is result h

  pub did : (result : Result StepEnd Fault) → StepMakes s b n by_mark (asks s b old) (step s b old) es old.shared.globals new result → Did s b marked pressed made n es old new result
  did result h = did_so result (step s b old) refl h

-- ---- from moment to moment

module _ (s : StoryTree) (b : Bound) (start : Configuration) where
  -- after n steps the run has come here, with these calls made, whatever answers are left
  abbrev pub GotTo : ℕ → Configuration → List Made → Type 0
  GotTo n now made = (left : List (Option Given)) → moment s b start (answers_of made ++ left) n ≡ At now left made

  pub begins : GotTo 0 start []
  unfolding run
  begins left = refl

  step_on : (answers : List (Option Given)) (n : ℕ) (m : Moment) → moment s b start answers n ≡ m → moment s b start answers (n + 1) ≡ next s b m
  unfolding run
  step_on answers n m h =
      let one : n + 1 ≡ suc n = omega arith in
      ap (moment s b start answers) one ∙ ap (next s b) h

  -- a run that has ended stays as it is
  stays : (answers : List (Option Given)) (j n k : ℕ) (m : Moment) → next s b m ≡ m → k ≡ n + j → moment s b start answers n ≡ m → moment s b start answers k ≡ m
  stays answers zero n k m ended e h = let same : k ≡ n = omega arith in ap (moment s b start answers) same ∙ h
  stays answers (suc j) n k m ended e h =
      let same : k ≡ (n + j) + 1 = omega arith in
      ap (moment s b start answers) same ∙ step_on answers (n + j) m (stays answers j n (n + j) m ended refl h) ∙ ended

  stays_to : (answers : List (Option Given)) (n k : ℕ) (m : Moment) → next s b m ≡ m → n ≤ k → moment s b start answers n ≡ m → moment s b start answers k ≡ m
  stays_to answers n k m ended le h = let e : k ≡ n + (k - n) = omega arith in stays answers (k - n) n k m ended e h

  -- the answers of calls that come before others
  split_answers : (made more : List Made) (left : List (Option Given)) → answers_of (made ++ more) ++ left ≡ answers_of made ++ (answers_of more ++ left)
  split_answers made more left = ap (λ answers. answers ++ left) (map-append (λ m. m.gave) made more) ∙ append_assoc (answers_of made) (answers_of more) left

  -- the moment after one more step, with the calls that it makes
  one_more : (n : ℕ) (old : Configuration) (made more : List Made) (left : List (Option Given)) (m : Moment) → GotTo n old made
      → came s old (step s b old) (answers_of more ++ left) made ≡ m → moment s b start (answers_of (made ++ more) ++ left) (n + 1) ≡ m
  one_more n old made more left m h so =
      ap (λ answers. moment s b start answers (n + 1)) (split_answers made more left)
      ∙ step_on (answers_of made ++ (answers_of more ++ left)) n (At old (answers_of more ++ left) made) (h (answers_of more ++ left)) ∙ so

  -- with no answer left
  alone : (made : List Made) (n : ℕ) → moment s b start (answers_of made) n ≡ moment s b start (answers_of made ++ []) n
  alone made n = ap (λ answers. moment s b start answers n) (sym (append-nil (answers_of made)))

  pub run_went : (marked pressed : Bool) (n : ℕ) (old new : Configuration) (made more : List Made) → GotTo n old made → Ends s b marked pressed made more old new (Ok ends.Went) → GotTo (n + 1) new (made ++ more)
  run_went marked pressed n old new made more h so = λ left. one_more n old made more left (At new left (made ++ more)) h (so left)

  pub run_stopped : (marked pressed : Bool) (n k : ℕ) (old new : Configuration) (made more : List Made) → n < k → GotTo n old made → Ends s b marked pressed made more old new (Ok ends.Stopped)
      → moment s b start (answers_of (made ++ more)) k ≡ Stopped new [] (made ++ more)
  run_stopped marked pressed n k old new made more below h so =
      alone (made ++ more) k ∙ stays_to (answers_of (made ++ more) ++ []) (n + 1) k (Stopped new [] (made ++ more)) refl (omega arith)
      (one_more n old made more [] (Stopped new [] (made ++ more)) h (so []))

  pub run_faulted : (marked pressed : Bool) (n : ℕ) (old new : Configuration) (made more : List Made) (f : Fault) → n < MAX_STEPS → GotTo n old made → Ends s b marked pressed made more old new (Err f)
      → RunFalls s b marked pressed start (made ++ more) new.shared.globals f
  run_faulted marked pressed n old new made more f below h so = record {
    before = old;
    kept = so.0;
    why = elim so.1 [
      | inl faults ↦
          inl (ap cut_off (alone (made ++ more) MAX_STEPS ∙ stays_to (answers_of (made ++ more) ++ []) (n + 1) MAX_STEPS (Faulted f old [] (made ++ more)) refl (omega arith)
          (one_more n old made more [] (Faulted f old [] (made ++ more)) h (faults []))))
      | inr short ↦ inr (
        short.0,
        elim short.1 [
          | inr by ↦ inr (elim by [
            | inl takes ↦ inl (
              subst (λ all. TakesAt s b start all old) (ap (λ more. made ++ more) (sym takes.0))
                  (subst (λ all. TakesAt s b start all old) (sym (append-nil made)) (record { steps = n; within = below; got_there = alone made n ∙ h []; takes = takes.1 })),
              takes.2,
            )
            | inr pressing ↦ inr (record { steps = n; within = below; before = made; got_there = alone made n ∙ h []; last = more; step_calls = pressing.0; calls = refl }, pressing.1)
          ])
          | inl asked ↦ inl (elim asked [
            | inl before ↦ inl (subst (λ all. GetsTo s b start all old) (ap (λ more. made ++ more) (sym before.0))
                (subst (λ all. GetsTo s b start all old) (sym (append-nil made)) (record { steps = n; within = below; got_there = alone made n ∙ h []; asking = before.1 })))
            | inr after ↦ inr (record {
              steps = n;
              within = below;
              before = made;
              got_there = alone made n ∙ h [];
              name = after.0;
              arguments = after.1;
              given = after.2;
              fields = after.3;
              calling = after.4;
              wants = after.5;
              calls = ap (λ more. made ++ more) after.6;
              asking = after.7;
            })
          ])
        ],
      )
    ];
  }

  -- the run needs one more step than it may take
  pub run_out : (marked pressed : Bool) (n : ℕ) (now : Configuration) (made : List Made) → MAX_STEPS ≡ n → GotTo n now made → RunFalls s b marked pressed start made now.shared.globals OutOfSteps
  run_out marked pressed n now made e h = record {
    before = now;
    kept = refl;
    why = inl (ap (λ k. cut_off (moment s b start (answers_of made) k)) e ∙ ap cut_off (alone made n ∙ h []));
  }
