-- A line needs just the answers that it uses.
use Rattle.std.proofs.Common.{◌≡◌, refl, sym, ap, ◌∙◌, subst, ℕ, zero, suc, List, [], ◌++◌, Bool, true, false, true≢false, Option, Some, None}
use Rattle.ink_model.specs.Run.Configuration.{Configuration, begun}
use Rattle.ink_model.specs.Host.Bindings.{Bound}
use Rattle.ink_model.specs.Run.Line.{Line, calls_in, goes_past, is_call, newline_in, page_at, shows}
use Rattle.ink_model.specs.Run.Moments.{Made, Moment, At, Stopped, Waits, came, cut_off, moment, moment_after, next}
use Rattle.ink_model.specs.Run.Step.{Outcome, Next, Stepped, Comes, Wants, step}
use Rattle.ink_model.specs.Story.Tree.{StoryTree}
use Rattle.ink_model.specs.declared.host.Given.{Given}
use Rattle.ink_model.specs.declared.limits.TheConstants.{MAX_STEPS}
use Rattle.ink_line.specs.Look.{Search, Seeking, Looking, Over, found, kept_at, look_on, looked, looked_by, looked_on, search, sought, stays_open}
use Rattle.ink_line.specs.Rows.{IsAnswered, extended}
use Rattle.ink_line.proofs.Found.{finds}
use Rattle.ink_line.proofs.Laying.{next_same, was_answered}
use Rattle.ink_line.proofs.Lines.{one_line}

module _ (s : StoryTree) (b : Bound) (later : List (Option Given)) where
  abbrev more : Moment → Moment
  more x = extended [] later x

  abbrev onward : Search → Search
  onward (Seeking now) = Seeking (more now)
  onward (Looking kept i now) = Looking (more kept) i (more now)
  onward (Over end) = Over (more end)

  abbrev Enough : Search → Type 0
  Enough (Seeking now) = IsAnswered now
  Enough (Looking kept i now) = Unit {0}
  Enough (Over end) = IsAnswered end

  -- ---- what is asked of a moment is asked of its configuration

  same_page : (x : Moment) → page_at (more x) ≡ page_at x
  same_page (At c left made) = refl
  same_page x = refl

  same_calls : (x : Moment) → calls_in s b (more x) ≡ calls_in s b x
  same_calls (At c left made) = refl
  same_calls x = refl

  quiet_after : (c : Configuration) (o : Outcome) (left : List (Option Given)) (made : List Made) → IsAnswered (moment_after c o left made)
  quiet_after c (Next d) left made = tt
  quiet_after c o left made = tt

  quiet_came : (c : Configuration) (o : Stepped) (left : List (Option Given)) (made : List Made) → is_call o ≡ false → IsAnswered (came s c o left made)
  quiet_came c (Comes o) left made e = quiet_after c o left made
  quiet_came c (Wants name arguments f d) left made e = absurd (true≢false e)

  quiet_same : (x : Moment) → calls_in s b x ≡ false → next s b (more x) ≡ more (next s b x)
  quiet_same (At c left made) e = next_same s b [] later (At c left made) (quiet_came c (step s b c) left made e)
  quiet_same x e = refl

  -- ---- one step of the search

  kept_same : (y : Moment) (o : Option ℕ) → kept_at (more y) o ≡ onward (kept_at y o)
  kept_same y None = refl
  kept_same y (Some i) = refl

  sought_same : (x y : Moment) → sought (more x) (more y) ≡ onward (sought x y)
  sought_same x (At c left made) = rw (same_page x) (kept_same (At c left made) (newline_in x (At c left made)))
  sought_same x y = refl

  sought_enough : (x y : Moment) → Enough (sought x y) → IsAnswered y
  sought_enough x (Waits name made) h = h
  sought_enough x y h = tt

  open_same : (kept : Moment) (i : ℕ) (y : Moment) → stays_open (more kept) i (more y) ≡ onward (stays_open kept i y)
  open_same kept i (At c left made) = refl
  open_same kept i y = refl

  looked_by_same : (t u : Bool) (kept : Moment) (i : ℕ) (x y : Moment) → looked_by t u (more kept) i (more x) (more y) ≡ onward (looked_by t u kept i x y)
  looked_by_same false u kept i x y = sought_same x y
  looked_by_same true true kept i x y = refl
  looked_by_same true false kept i x y = open_same kept i y

  looked_same : (kept : Moment) (i : ℕ) (x y : Moment) → looked (more kept) i (more x) (more y) ≡ onward (looked kept i x y)
  looked_same kept i x (At c left made) = looked_by_same (shows (At c left made) i) (goes_past (At c left made) i) kept i x (At c left made)
  looked_same kept i x (Stopped c left made) = looked_by_same (shows (Stopped c left made) i) (goes_past (Stopped c left made) i) kept i x (Stopped c left made)
  looked_same kept i x y = refl

  looked_on_same : (t : Bool) (kept : Moment) (i : ℕ) (x : Moment) → calls_in s b x ≡ t
      → looked_on t (more kept) i (more x) (next s b (more x)) ≡ onward (looked_on t kept i x (next s b x))
  looked_on_same true kept i x e = refl
  looked_on_same false kept i x e = ap (looked (more kept) i (more x)) (quiet_same x e) ∙ looked_same kept i x (next s b x)

  look_same : (x : Search) → Enough (look_on s b x) → look_on s b (onward x) ≡ onward (look_on s b x)
  look_same (Seeking now) h =
      ap (sought (more now)) (next_same s b [] later now (sought_enough now (next s b now) h)) ∙ sought_same now (next s b now)
  look_same (Looking kept i now) h =
      ap (λ t. looked_on t (more kept) i (more now) (next s b (more now))) (same_calls now) ∙ looked_on_same (calls_in s b now) kept i now refl
  look_same (Over end) h = refl

  was_enough : (x : Search) → Enough (look_on s b x) → Enough x
  was_enough (Seeking now) h = was_answered s b [] later now (sought_enough now (next s b now) h)
  was_enough (Looking kept i now) h = tt
  was_enough (Over end) h = h

  search_same : (n : ℕ) (x : Search) → Enough (search s b n x) → search s b n (onward x) ≡ onward (search s b n x)
  unfolding search
  search_same zero x h = refl
  search_same (suc n) x h = ap (look_on s b) (search_same n x (was_enough (search s b n x) h)) ∙ look_same (search s b n x) h

  -- ---- what it comes to

  cut_enough : (now : Moment) → IsAnswered (cut_off now) → IsAnswered now
  cut_enough (Waits name made) h = h
  cut_enough now h = tt

  found_enough : (x : Search) → IsAnswered (found x) → Enough x
  found_enough (Seeking now) h = cut_enough now h
  found_enough (Looking kept i now) h = tt
  found_enough (Over end) h = h

  cut_same : (x : Moment) → cut_off (more x) ≡ more (cut_off x)
  cut_same (At c left made) = refl
  cut_same x = refl

  found_same : (x : Search) → found (onward x) ≡ more (found x)
  found_same (Seeking now) = cut_same now
  found_same (Looking kept i now) = refl
  found_same (Over end) = refl

  abbrev begin : Configuration → List (Option Given) → Search
  begin c given = Seeking (At (begun c) given [])

  pub enough : (c : Configuration) (given : List (Option Given)) (x : Moment) → Line s b c given x → IsAnswered x → Line s b c (given ++ later) (more x)
  enough c given x line h = subst (Line s b c (given ++ later)) same (finds s b MAX_STEPS (begun c) (given ++ later))
    where
      is : found (search s b MAX_STEPS (begin c given)) ≡ x
      is = one_line s b MAX_STEPS (moment s b (begun c) given) _ x (finds s b MAX_STEPS (begun c) given) line

      same : found (search s b MAX_STEPS (onward (begin c given))) ≡ more x
      same = ap found (search_same MAX_STEPS (begin c given) (found_enough (search s b MAX_STEPS (begin c given)) (subst IsAnswered (sym is) h)))
          ∙ (found_same (search s b MAX_STEPS (begin c given)) ∙ ap more is)
