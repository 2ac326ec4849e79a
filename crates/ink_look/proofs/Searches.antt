-- A loop that looks for a line, step by step, with its desk.
use Rattle.std.proofs.Common.{◌≡◌, ◌∙◌, ◌++◌, ◌+◌, ◌<◌, ◌≤◌, ap, sym, refl, subst, inl, inr, arith, append_assoc, ℕ, suc, ◌&&◌, ◌||◌, Bool, true, false, true≢false, List, [], Option, Some, None, Result, Ok, Err}
use Rattle.std.proofs.lemmas.Bool.{false_from_ne_true}
use Rattle.std.proofs.lemmas.List.{append-nil, map-append}
use Rattle.ink_host.specs.Desk.{DeskView, Grew, bound_by}
use Rattle.ink_host.specs.declared.objects.Called.{Called}
use Rattle.ink_host.specs.declared.objects.Seen.{Seen}
use Rattle.ink_host.proofs.Laws.{bound-same, grew-grew, grew-none}
use Rattle.ink_model.specs.Run.Ahead.{writes_words}
use Rattle.ink_model.specs.Run.Line.{NoneBelow, NoneOpen, is_call, open_in}
use Rattle.ink_line.specs.Look.{Knows, Over, Search, Seeking, found, look_on, newline_between, search, sought}
use Rattle.ink_line.proofs.Found.{finds, knows, over_is}
use Rattle.ink_look.proofs.Steps.{kept_found}
use Rattle.ink_look.specs.LineEnds.{ComesToLine, LineShort, RunsToLine}
use Rattle.ink_look.specs.Looking.{FindsAs, MarksHere, StepsOn, found_of, search_after, search_at, stepped}
use Rattle.ink_look.proofs.Common.{Looked, Configuration, Bound, asks, step, StoryTree, Fault, Event, Given}
use Rattle.ink_look.specs.declared.looking.Looked.TheVariants as after
use Rattle.ink_model.specs.Host.Events.{Made, calls}
use Rattle.ink_model.specs.Memory.Refusals.{GetsTo, NoneSoFar}
use Rattle.ink_model.specs.Run.Moments.{Moment, At, Stopped, Faulted, answers_of, came, moment}
use Rattle.ink_model.specs.Text.Shown.{open_newline}
use Rattle.ink_model.specs.declared.fault.Fault.TheVariants.{OutOfSteps}
use Rattle.ink_model.specs.declared.limits.TheConstants.{MAX_STEPS}
use Rattle.ink_model.specs.declared.value.Value.{Value}
use Rattle.ink_step.proofs.Growing.{calls_on}
use Rattle.ink_step.proofs.Moments.{Did, Ends, Short, did}
use Rattle.ink_step.specs.Marks.{takes_first}
use Rattle.ink_step.specs.Steps.{StepMakes}

-- ---- a search of a run, from a configuration

-- without a mark no step is pressed
not_by_mark : (takes : Bool) → (takes && false) || false ≡ false
not_by_mark true = refl
not_by_mark false = refl

module _ (s : StoryTree) (b : Bound) (start : Configuration) where
  -- after n steps the search has come here, with these calls made, whatever answers are left
  abbrev pub ComesTo : ℕ → (List (Option Given) → List Made → Search) → List Made → Type 0
  ComesTo n x made = (left : List (Option Given)) → search s b n (Seeking (At start (answers_of made ++ left) [])) ≡ x left made

  pub begins : (kept : Configuration) → ComesTo 0 (search_at None kept start) []
  unfolding search
  begins kept left = refl

  one_more : (n : ℕ) (x : Search) → search s b (suc n) x ≡ look_on s b (search s b n x)
  unfolding search
  one_more n x = refl

  split_answers : (made more : List Made) (left : List (Option Given)) → answers_of (made ++ more) ++ left ≡ answers_of made ++ (answers_of more ++ left)
  split_answers made more left = ap (λ answers. answers ++ left) (map-append (λ m. m.gave) made more) ∙ append_assoc (answers_of made) (answers_of more) left

  -- one step, with the calls that it makes
  pub stepped_on : (n : ℕ) (old new : List (Option Given) → List Made → Search) (made more : List Made) → ComesTo n old made
      → ((left : List (Option Given)) → look_on s b (old (answers_of more ++ left) made) ≡ new left (made ++ more)) → ComesTo (n + 1) new (made ++ more)
  stepped_on n old new made more h so left =
      let one : n + 1 ≡ suc n = omega arith in
      ap (λ k. search s b k (Seeking (At start (answers_of (made ++ more) ++ left) []))) one
      ∙ (ap (λ answers. search s b (suc n) (Seeking (At start answers []))) (split_answers made more left)
      ∙ (one_more n (Seeking (At start (answers_of made ++ (answers_of more ++ left)) []))
      ∙ (ap (look_on s b) (h (answers_of more ++ left)) ∙ so left)))

  -- with no answer left
  alone : (made : List Made) (n : ℕ) (x : Search) → search s b n (Seeking (At start (answers_of made ++ []) [])) ≡ x → search s b n (Seeking (At start (answers_of made) [])) ≡ x
  alone made n x e = ap (λ answers. search s b n (Seeking (At start answers []))) (sym (append-nil (answers_of made))) ∙ e

  -- ---- ends

  pub over : (n : ℕ) (made : List Made) (x : List (Option Given) → List Made → Moment) → n ≤ MAX_STEPS → ComesTo n (λ left all. Over (x left all)) made → ComesToLine s b start made (x [] made)
  over n made x le h = over_is s b MAX_STEPS start (answers_of made) n (x [] made) le (alone made n (Over (x [] made)) (h []))

  pub at_last : (made : List Made) (x : List (Option Given) → List Made → Search) → ComesTo MAX_STEPS x made → ComesToLine s b start made (found (x [] made))
  at_last made x h = subst (λ y. ComesToLine s b start made (found y)) (alone made MAX_STEPS (x [] made) (h [])) (finds s b MAX_STEPS start (answers_of made))

  -- ---- memory is refused

  known : (n : ℕ) (made : List Made) (x : List (Option Given) → List Made → Search) → n < MAX_STEPS → ComesTo n x made → (left : List (Option Given))
      → Knows s b MAX_STEPS (moment s b start (answers_of made ++ left)) n (x left made)
  known n made x below h left = subst (Knows s b MAX_STEPS (moment s b start (answers_of made ++ left)) n) (h left) (knows s b MAX_STEPS start (answers_of made ++ left) n (omega (arith, below)))

  module _ (n : ℕ) (made : List Made) (kept old : Configuration) (below : n < MAX_STEPS) (h : ComesTo n (search_at None kept old) made) where
    got : moment s b start (answers_of made) n ≡ At old [] made
    got = ap (λ answers. moment s b start answers n) (sym (append-nil (answers_of made))) ∙ (known n made (search_at None kept old) below h []).0

    none : (more : List Made) → NoneSoFar s b start (made ++ more) n
    none more =
        let answers = sym (split_answers made more []) ∙ append-nil (answers_of (made ++ more)) in
        let so = known n made (search_at None kept old) below h (answers_of more ++ []) in
        (subst (λ answers. NoneBelow s b MAX_STEPS (moment s b start answers) n) answers so.2, subst (λ answers. NoneOpen s b (moment s b start answers) n) answers so.3)

    pub seek_falls : (more : List Made) → Short s b false false old more → LineShort s b start (made ++ more) old
    seek_falls more short = elim short [
      | inl asking ↦ elim asking [
        | inl before ↦ inl (subst
            (λ all. (got : GetsTo s b start all old) × NoneSoFar s b start all got.steps)
            (sym (append-nil made) ∙ ap (λ more. made ++ more) (sym before.0))
            (record { steps = n; within = below; got_there = got; asking = before.1 }, subst (λ all. NoneSoFar s b start all n) (append-nil made) (none [])))
        | inr call ↦ inr (inl (
          record {
            steps = n;
            within = below;
            before = made;
            got_there = got;
            name = call.0;
            arguments = call.1;
            given = call.2;
            fields = call.3;
            calling = call.4;
            wants = call.5;
            calls = ap (λ more. made ++ more) call.6;
            asking = call.7;
          },
          none more,
        ))
      ]
      | inr by ↦ elim by [ inl takes ↦ absurd (true≢false (sym takes.2)) | inr pressing ↦ absurd (true≢false (sym pressing.1)) ]
    ]

  -- past a newline, which is open at each step from there on
  pub look_falls : (n : ℕ) (made : List Made) (w : ℕ) (kept old : Configuration) → n < MAX_STEPS → is_call (step s b old) ≡ false
      → (writes_words s old ≡ true → open_newline old.page.line ≡ Some w → ⊥) → ComesTo n (search_at (Some w) kept old) made → LineShort s b start made kept
  look_falls n made w kept old below quiet wordless h = by (subst (λ answers. Knows s b MAX_STEPS (moment s b start answers) n (search_at (Some w) kept old [] made)) (append-nil (answers_of made))
      (known n made (search_at (Some w) kept old) below h []))
    where
      by : Knows s b MAX_STEPS (moment s b start (answers_of made)) n (search_at (Some w) kept old [] made) → LineShort s b start made kept
      by (p, opens, same, first, is, there) =
          let waits : open_newline old.page.line ≡ Some w = sym (ap open_in there) ∙ opens.stays n opens.later (omega arith) ∙ ap Some same in
          let none : writes_words s old ≡ false = false_from_ne_true (writes_words s old) (λ writes. wordless writes waits) in
          inr (inr (record { steps = n; within = below; reached = old; got_there = there; calls_nothing = quiet; writes_none = none; step = p; opens = opens; first = first; goes_back = is }))

-- ---- a step where no newline waits

module _ (s : StoryTree) (b : Bound) (kept old kept_then new : Configuration) (made more : List Made) where
  abbrev comes : List (Option Given) → Moment
  comes left = came s old (step s b old) (answers_of more ++ left) made

  went_so : (l : Looked) → ((left : List (Option Given)) → comes left ≡ At new left (made ++ more)) → (l ≡ found_of (newline_between old.page new.page)) × MarksHere l kept_then new
      → (left : List (Option Given)) → look_on s b (search_at None kept old (answers_of more ++ left) made) ≡ search_after l kept_then new left (made ++ more)
  went_so l h is left = ap (sought (At old (answers_of more ++ left) made)) (h left)
      ∙ (kept_found kept_then new (newline_between old.page new.page) (subst (λ l. MarksHere l kept_then new) is.0 is.1) left (made ++ more) ∙ ap (λ l. search_after l kept_then new left (made ++ more)) (sym is.0))

  pub sought_so : (l : Looked) → Ends s b false false made more old new (stepped (Ok l)) → FindsAs (newline_between old.page new.page) kept_then new (Ok l)
      → (left : List (Option Given)) → look_on s b (search_at None kept old (answers_of more ++ left) made) ≡ search_after l kept_then new left (made ++ more)
  sought_so after.Nothing h is left = went_so after.Nothing h is left
  sought_so (after.Newline w) h is left = went_so (after.Newline w) h is left
  sought_so after.Cut h is left = went_so after.Cut h is left
  sought_so after.Stopped h is left = ap (sought (At old (answers_of more ++ left) made)) (h left)

  pub sought_fault : (f : Fault) → ((left : List (Option Given)) → comes left ≡ Faulted f old left (made ++ more))
      → (left : List (Option Given)) → look_on s b (search_at None kept old (answers_of more ++ left) made) ≡ Over (Faulted f old left (made ++ more))
  sought_fault f h left = ap (sought (At old (answers_of more ++ left) made)) (h left)

-- ---- with the desk

module _ {P T W : Type 0} (turn_log : T → List Called) (watch_log : W → List Seen) (meaning : P → List Value → Option Given) (s : StoryTree) (first : DeskView P T W) (start : Configuration) where
  abbrev pub bound_first : Bound
  bound_first = bound_by meaning first.functions

  -- after n steps the search has come here, with the calls that the desk has kept
  pub record Ran (n : ℕ) (desk : DeskView P T W) (x : List (Option Given) → List Made → Search) : Type 0 where
    pub made : List Made
    pub grew : Grew turn_log watch_log first (calls first.next made) desk
    pub comes : ComesTo s bound_first start n x made

  -- how the line ends
  abbrev pub EndsLine : DeskView P T W → Configuration → Result Bool Fault → Type 0
  EndsLine desk new result = (made : List Made) × Grew turn_log watch_log first (calls first.next made) desk × RunsToLine s bound_first start made new result

  pub ran_none : (kept : Configuration) → Ran 0 first (search_at None kept start)
  ran_none kept = record { made = []; grew = grew-none turn_log watch_log first; comes = begins s bound_first start kept }

  -- what a step does, with what is bound before it
  abbrev pub DoesStep : DeskView P T W → Option ℕ → Configuration → Configuration → DeskView P T W → Configuration → Configuration → Result Looked Fault → Type 0
  DoesStep before w kept old after kept_then new result =
      (es : List Event) × Grew turn_log watch_log before es after × StepsOn s (bound_by meaning before.functions) before.next w kept old es kept_then new result

  module _ (n : ℕ) (before after : DeskView P T W) (kept old kept_then new : Configuration) where
    module _ (w : Option ℕ) (ran : Ran n before (search_at w kept old)) where
      same_bound : bound_by meaning before.functions ≡ bound_first
      same_bound = bound-same turn_log watch_log meaning first before (calls first.next ran.made) ran.grew

      bound_so : (result : Result Looked Fault) (h : DoesStep before w kept old after kept_then new result) → StepsOn s bound_first before.next w kept old h.0 kept_then new result
      bound_so result h = subst (λ b. StepsOn s b before.next w kept old h.0 kept_then new result) same_bound h.2

      grown_by : (es : List Event) (more : List Made) → es ≡ calls before.next more → Grew turn_log watch_log before es after → Grew turn_log watch_log first (calls first.next (ran.made ++ more)) after
      grown_by es more is h =
          let events : calls first.next ran.made ++ es ≡ calls first.next (ran.made ++ more) =
          ap (λ es. calls first.next ran.made ++ es) (is ∙ ap (λ n. calls n more) ran.grew.next) ∙ calls_on first.next ran.made more in
          subst (λ es. Grew turn_log watch_log first es after) events (grew-grew turn_log watch_log first before after (calls first.next ran.made) es ran.grew h)

    -- a step where no newline waits
    module _ (ran : Ran n before (search_at None kept old)) where
      did_in : (result : Result Looked Fault) (h : DoesStep before None kept old after kept_then new result) → Did s bound_first false false ran.made before.next h.0 old new (stepped result)
      did_in result h = did s bound_first false false ran.made before.next h.0 old new (stepped result)
          (subst (λ p. StepMakes s bound_first before.next p (asks s bound_first old) (step s bound_first old) h.0 old.shared.globals new (stepped result)) (sym (not_by_mark (takes_first s old))) (bound_so None ran result h).0)

      sought_on : (l : Looked) → DoesStep before None kept old after kept_then new (Ok l) → Ran (n + 1) after (search_after l kept_then new)
      sought_on l h = let d = did_in (Ok l) h in record {
        made = ran.made ++ d.more;
        grew = grown_by None ran h.0 d.more d.events h.1;
        comes = stepped_on s bound_first start n (search_at None kept old) (search_after l kept_then new) ran.made d.more ran.comes
            (sought_so s bound_first kept old kept_then new ran.made d.more l d.ends (bound_so None ran (Ok l) h).1);
      }

      sought_to_fault : (f : Fault) → n < MAX_STEPS → DoesStep before None kept old after kept_then new (Err f) → EndsLine after new (Err f)
      sought_to_fault f below h = let d = did_in (Err f) h in (
        ran.made ++ d.more,
        grown_by None ran h.0 d.more d.events h.1,
        record {
          kept = old;
          leaves = d.ends.0;
          why = elim d.ends.1 [
            | inl faults ↦ inl (over s bound_first start (n + 1) (ran.made ++ d.more) (Faulted f old) (omega (arith, below))
                (stepped_on s bound_first start n (search_at None kept old) (λ left all. Over (Faulted f old left all)) ran.made d.more ran.comes
                (sought_fault s bound_first kept old kept_then new ran.made d.more f faults)))
            | inr short ↦ inr (short.0, seek_falls s bound_first start n ran.made kept old below ran.comes d.more short.1)
          ];
        },
      )

    -- a step past a newline
    module _ (w : ℕ) (ran : Ran n before (search_at (Some w) kept old)) where
      looked_on : (l : Looked) → DoesStep before (Some w) kept old after kept_then new (Ok l) → Ran (n + 1) after (search_after l kept_then new)
      looked_on l h = let so = bound_so (Some w) ran (Ok l) h in record {
        made = ran.made ++ [];
        grew = grown_by (Some w) ran h.0 [] so.0 h.1;
        comes = stepped_on s bound_first start n (search_at (Some w) kept old) (search_after l kept_then new) ran.made [] ran.comes
            (λ left. so.1 left ran.made ∙ ap (search_after l kept_then new left) (sym (append-nil ran.made)));
      }

      looked_to_fault : (f : Fault) → n < MAX_STEPS → DoesStep before (Some w) kept old after kept_then new (Err f) → EndsLine after new (Err f)
      looked_to_fault f below h = let so = bound_so (Some w) ran (Err f) h in (
        ran.made ++ [],
        grown_by (Some w) ran h.0 [] so.0 h.1,
        record {
          kept = kept;
          leaves = ap (λ c. c.shared.globals) so.1.3;
          why = inr (so.1.0, subst (λ all. LineShort s bound_first start all kept) (sym (append-nil ran.made)) (look_falls s bound_first start n ran.made w kept old below so.1.1 so.1.2 ran.comes));
        },
      )

    -- either way
    pub ran_on : (w : Option ℕ) (ran : Ran n before (search_at w kept old)) (l : Looked) → DoesStep before w kept old after kept_then new (Ok l) → Ran (n + 1) after (search_after l kept_then new)
    ran_on None ran l h = sought_on ran l h
    ran_on (Some w) ran l h = looked_on w ran l h

    pub ran_to_fault : (w : Option ℕ) (ran : Ran n before (search_at w kept old)) (f : Fault) → n < MAX_STEPS → DoesStep before w kept old after kept_then new (Err f) → EndsLine after new (Err f)
    ran_to_fault None ran f below h = sought_to_fault ran f below h
    ran_to_fault (Some w) ran f below h = looked_to_fault w ran f below h

  -- ---- what a step came to

  module _ (n : ℕ) (desk : DeskView P T W) (kept now : Configuration) where
    -- no newline waits, or this one
    pub ran_past : (l : Looked) (w : Option ℕ) → l ≡ after.Nothing → w ≡ None → Ran n desk (search_after l kept now) → Ran n desk (search_at w kept now)
    ran_past l w is waits ran = subst (λ w. Ran n desk (search_at w kept now)) (sym waits) (subst (λ l. Ran n desk (search_after l kept now)) is ran)

    pub ran_to : (l : Looked) (newline : ℕ) (w : Option ℕ) → l ≡ after.Newline newline → w ≡ Some newline → Ran n desk (search_after l kept now) → Ran n desk (search_at w kept now)
    ran_to l newline w is waits ran = subst (λ w. Ran n desk (search_at w kept now)) (sym waits) (subst (λ l. Ran n desk (search_after l kept now)) is ran)

    pub ran_to_cut : (l : Looked) → l ≡ after.Cut → n ≤ MAX_STEPS → Ran n desk (search_after l kept now) → EndsLine desk now (Ok true)
    ran_to_cut l is le h = let ran = subst (λ l. Ran n desk (search_after l kept now)) is h in
        (ran.made, ran.grew, over s bound_first start n ran.made (At now) le ran.comes)

    pub ran_to_stop : (l : Looked) → l ≡ after.Stopped → n ≤ MAX_STEPS → Ran n desk (search_after l kept now) → EndsLine desk now (Ok false)
    ran_to_stop l is le h = let ran = subst (λ l. Ran n desk (search_after l kept now)) is h in
        (ran.made, ran.grew, over s bound_first start n ran.made (Stopped now) le ran.comes)

    -- ---- no step is left

    last_of : (x : List (Option Given) → List Made → Search) → MAX_STEPS ≡ n → (ran : Ran n desk x) → ComesTo s bound_first start MAX_STEPS x ran.made
    last_of x e ran left = ap (λ k. search s bound_first k (Seeking (At start (answers_of ran.made ++ left) []))) e ∙ ran.comes left

    pub ran_out : (w : Option ℕ) → w ≡ None → MAX_STEPS ≡ n → Ran n desk (search_at w kept now) → EndsLine desk now (Err OutOfSteps)
    ran_out w is e h = let ran = subst (λ w. Ran n desk (search_at w kept now)) is h in (
      ran.made,
      ran.grew,
      record { kept = now; leaves = refl; why = inl (at_last s bound_first start ran.made (search_at None kept now) (last_of (search_at None kept now) e ran)) },
    )

    -- it goes back to the newline that waits
    pub ran_back : (w : Option ℕ) (newline : ℕ) (new : Configuration) → w ≡ Some newline → MAX_STEPS ≡ n → Ran n desk (search_at w kept now) → new ≡ kept
        → EndsLine desk new (Ok true)
    ran_back w newline new waits e h is = let ran = subst (λ w. Ran n desk (search_at w kept now)) waits h in (
      ran.made,
      ran.grew,
      subst (λ c. ComesToLine s bound_first start ran.made (At c [] ran.made)) (sym is)
          (at_last s bound_first start ran.made (search_at (Some newline) kept now) (last_of (search_at (Some newline) kept now) e ran)),
    )
