-- Opening a story, from the run of its declarations.
use Rattle.std.proofs.Common.{◌≡◌, ◌∙◌, ◌⊎◌, ◌++◌, ◌∷◌, ap, sym, refl, subst, inl, inr, Bool, true, false, true≢false, List, [], Option, Some, None, option_map, Result, Ok, Err}
use Rattle.ink_step.proofs.Common.{StoryTree, Values, MAX_STEPS, Fault, Part}
use Rattle.ink_model.specs.Run.Place.{landed}
use Rattle.ink_model.specs.Run.Configuration.{Configuration, fresh_at, start, begun, with_globals}
use Rattle.ink_model.specs.Host.Bindings.{Bound, nothing_bound}
use Rattle.ink_model.specs.Memory.Refusals.{CallsAt, GetsTo}
use Rattle.ink_model.specs.Run.Moments.{Made, Moment, Stopped, moment, cut_off}
use Rattle.ink_model.specs.Run.Opening.{declarations, declaring, opening, opened_by, opened_from}
use Rattle.ink_step.specs.Runs.{AreBound, PressedAt, RunFalls, RunsToStop, TakesAt}
use Rattle.ink_step.specs.Steps.{FailsToOpen}

-- a machine at a place where nothing has happened yet, without globals
pub first_of : (q : List Part) (c : Configuration) (globals : Values) → c ≡ with_globals globals (fresh_at q) → globals ≡ [] → c ≡ begun (fresh_at q)
unfolding fresh_at
first_of q c globals e empty = e ∙ ap (λ vs. with_globals vs (fresh_at q)) empty

-- where the declarations' run begins, by where flow lands
landing_at : (s : StoryTree) (o : Option (List Part)) → option_map (λ p. fresh_at (landed s p)) o ≡ option_map fresh_at (option_map (landed s) o)
landing_at s None = refl
landing_at s (Some p) = refl

-- with no calls made none was the last
not_last : (before : List Made) (m : Made) → [] ≡ before ++ m ∷ [] → ⊥
not_last [] m h = absurd (cc)
not_last (x ∷ before) m h = absurd (cc)

-- ---- with nothing bound nothing is called

never_bound : (made : List Made) → AreBound nothing_bound made → made ≡ []
never_bound [] h = refl
never_bound (m ∷ made) h = let none = h.0 in absurd (cc)

pub runs_alone : (s : StoryTree) (b : Bound) (marked pressed : Bool) (old new : Configuration) (made : List Made) (result : Result (Unit {0}) Fault) → b ≡ nothing_bound → marked ≡ false → pressed ≡ false
    → RunsToStop s b marked pressed old made new result → AreBound b made → RunsToStop s nothing_bound false false old [] new result
runs_alone s b marked pressed old new made result none unmarked free runs bound =
    subst (λ made. RunsToStop s nothing_bound false false old made new result) (never_bound made (subst (λ b. AreBound b made) none bound))
    (subst (λ b. RunsToStop s b false false old made new result) none
    (subst (λ p. RunsToStop s b false p old made new result) free (subst (λ m. RunsToStop s b m pressed old made new result) unmarked runs)))

module _ (s : StoryTree) (found : Option (List Part)) (is : found ≡ option_map (landed s) (declarations s)) where
  begins_at : declaring s ≡ option_map fresh_at found
  begins_at = landing_at s (declarations s) ∙ ap (option_map fresh_at) (sym is)

  pub opens_plainly : (c : Configuration) (globals : Values) → found ≡ None → c ≡ start s globals → globals ≡ [] → opening s ≡ Ok c
  unfolding opening
  opens_plainly c globals none starts empty =
      ap (opened_from s) (begins_at ∙ ap (option_map fresh_at) none) ∙ ap Ok (sym (starts ∙ ap (start s) empty))

  never_calls : (start reached : Configuration) → (GetsTo s nothing_bound start [] reached ⊎ CallsAt s nothing_bound start [] reached) ⊎ ((TakesAt s nothing_bound start [] reached × (false ≡ true)) ⊎ (PressedAt s nothing_bound start [] reached × (false ≡ true))) → GetsTo s nothing_bound start [] reached
  never_calls start reached (inl there) = elim there [ inl at ↦ at | inr calling ↦ absurd (not_last calling.before _ calling.calls) ]
  never_calls start reached (inr by) = elim by [ inl takes ↦ absurd (true≢false (sym takes.1)) | inr pressing ↦ absurd (true≢false (sym pressing.1)) ]

  module _ (q : List Part) (begin : Configuration) (some : found ≡ Some q) (begins : begin ≡ begun (fresh_at q)) where
    first : declaring s ≡ Some (fresh_at q)
    first = begins_at ∙ ap (option_map fresh_at) some

    -- the run of the declarations
    by_run : (m : Moment) → cut_off (moment s nothing_bound begin [] MAX_STEPS) ≡ m → opened_from s (declaring s) ≡ opened_by s m
    by_run m runs =
        ap (opened_from s) first ∙ ap (λ d. opened_by s (cut_off (moment s nothing_bound d [] MAX_STEPS))) (sym begins) ∙ ap (opened_by s) runs

    pub opens : (stop c : Configuration) → moment s nothing_bound begin [] MAX_STEPS ≡ Stopped stop [] [] → c ≡ start s stop.shared.globals → opening s ≡ Ok c
    unfolding opening
    opens stop c stops starts = by_run _ (ap cut_off stops) ∙ ap Ok (sym starts)

    pub fails : (globals : Values) (f : Fault) → RunFalls s nothing_bound false false begin [] globals f → FailsToOpen s f globals
    unfolding opening
    fails globals f h = elim h.why [
      | inl faults ↦ inl (by_run _ faults ∙ ap (λ vs. Err (record { fault = f; globals = vs })) (sym h.kept))
      | inr short ↦
          inr (
            short.0,
            (
              record {
                first = fresh_at q;
                declares = first;
                reached = h.before;
                got_there = subst (λ d. GetsTo s nothing_bound d [] h.before) begins (never_calls begin h.before short.1);
              },
              h.kept,
            ),
          )
    ]
