-- Lines one after another are one run.
use Rattle.std.proofs.Common.{◌≡◌, refl, sym, ap, ◌∙◌, subst, ℕ, zero, suc, List, [], ◌∷◌, ◌++◌, append_assoc, append-nil, inl, inr, Option, Some, option_map}
use Rattle.ink_model.specs.Run.Configuration.{Configuration, begun, settled}
use Rattle.ink_model.specs.Host.Bindings.{Bound}
use Rattle.ink_model.specs.Run.Line.{EndsLine, Line, line_end}
use Rattle.ink_model.specs.Run.Moments.{Made, Moment, At, Stopped, Faulted, Waits, RunEnd, Kept, Broke, answered, answers_of, came, cut_off, moment, moment_after, next, run}
use Rattle.ink_model.specs.Run.Step.{Outcome, Next, Stepped, Comes, Wants, step}
use Rattle.ink_model.specs.Variables.Store.{Values}
use Rattle.ink_model.specs.Story.Tree.{StoryTree}
use Rattle.ink_model.specs.declared.fault.Fault.{Fault}
use Rattle.ink_model.specs.declared.host.Given.{Given}
use Rattle.ink_model.specs.declared.limits.TheConstants.{MAX_STEPS}
use Rattle.ink_line.specs.Rows.{EachLine, IsAnswered, Lines, Passes, anew, extended, joined, laid}

answers_join : (xs ys : List Made) → answers_of (xs ++ ys) ≡ answers_of xs ++ answers_of ys
answers_join [] ys = refl
answers_join (x ∷ xs) ys = ap (λ l. x.gave ∷ l) (answers_join xs ys)

-- ---- more answers, and calls before

module _ (s : StoryTree) (b : Bound) (before : List Made) (later : List (Option Given)) where
  after_same : (c : Configuration) (o : Outcome) (left : List (Option Given)) (made : List Made)
      → moment_after c o (left ++ later) (before ++ made) ≡ extended before later (moment_after c o left made)
  after_same c (Next d) left made = refl
  after_same c o left made = refl

  came_same : (c : Configuration) (o : Stepped) (left : List (Option Given)) (made : List Made) → IsAnswered (came s c o left made)
      → came s c o (left ++ later) (before ++ made) ≡ extended before later (came s c o left made)
  came_same c (Comes o) left made h = after_same c o left made
  came_same c (Wants name arguments f d) [] made h = absurd h
  came_same c (Wants name arguments f d) (a ∷ left) made h =
      let call = record { name = name; arguments = arguments; gave = a } ∷ [] in
      ap (moment_after c (answered s f d a) (left ++ later)) (append_assoc before made call) ∙ after_same c (answered s f d a) left (made ++ call)

  pub next_same : (x : Moment) → IsAnswered (next s b x) → next s b (extended before later x) ≡ extended before later (next s b x)
  next_same (At c left made) h = came_same c (step s b c) left made h
  next_same x h = refl

  pub was_answered : (x : Moment) → IsAnswered (next s b x) → IsAnswered x
  was_answered (Waits name made) h = h
  was_answered x h = tt

  -- change nothing of a run that needs none of them
  run_same : (n : ℕ) (x : Moment) → IsAnswered (run s b n x) → run s b n (extended before later x) ≡ extended before later (run s b n x)
  unfolding run
  run_same zero x h = refl
  run_same (suc n) x h = ap (next s b) (run_same n x (was_answered (run s b n x) h)) ∙ next_same (run s b n x) h

  pub moment_same : (n : ℕ) (c : Configuration) (given : List (Option Given)) (x : Moment) → moment s b c given n ≡ x → IsAnswered x
      → run s b n (At c (given ++ later) before) ≡ extended before later x
  moment_same n c given x is h =
      ap (λ made. run s b n (At c (given ++ later) made)) (sym (append-nil before))
      ∙ (run_same n (At c given []) (subst IsAnswered (sym is) h) ∙ ap (extended before later) is)

-- ---- where a line is kept

abbrev kept_end : Configuration → List Made → Option (RunEnd × List Made)
kept_end d made = Some (Kept d, made)

-- a line that is kept ends where it was cut, or at the stop
abbrev IsKept : Configuration → List Made → Moment → Type 0
IsKept d made (At c left r) = At c left r ≡ At d [] made
IsKept d made (Stopped c left r) = Stopped c left r ≡ Stopped d [] made
IsKept d made m = ⊥

same_kept : (c d : Configuration) (r made : List Made) → kept_end c r ≡ kept_end d made → (c ≡ d) × (r ≡ made)
same_kept c d r made e =
    let ends : Some (Kept c) ≡ Some (Kept d) = ap (option_map (λ (x : RunEnd × List Made). x.0)) e in
    let calls : Some r ≡ Some made = ap (option_map (λ (x : RunEnd × List Made). x.1)) e in (cc, cc)

never_kept : (f : Fault) (globals : Values) (d : Configuration) (r made : List Made) → Some (Broke f globals, r) ≡ kept_end d made → ⊥
never_kept f globals d r made e = let ends : Some (Broke f globals) ≡ Some (Kept d) = ap (option_map (λ (x : RunEnd × List Made). x.0)) e in cc

kept_is : (m : Moment) (d : Configuration) (made : List Made) → line_end m ≡ kept_end d made → IsKept d made m
kept_is (At c [] r) d made e = let (x, y) = same_kept c d r made e in ap (λ k. At k [] r) x ∙ ap (At d []) y
kept_is (Stopped c [] r) d made e = let (x, y) = same_kept c d r made e in ap (λ k. Stopped k [] r) x ∙ ap (Stopped d []) y
kept_is (Faulted f c [] r) d made e = absurd (never_kept f c.shared.globals d r made e)
kept_is m d made e = absurd cc

no_cut_at : (x : Moment) (d : Configuration) (left : List (Option Given)) (made : List Made) → cut_off x ≡ At d left made → ⊥
no_cut_at (At c l r) d left made e = cc
no_cut_at x d left made e = cc

cut_stopped : (x : Moment) (d : Configuration) (left : List (Option Given)) (made : List Made) → cut_off x ≡ Stopped d left made → x ≡ Stopped d left made
cut_stopped (Stopped c l r) d left made e = e
cut_stopped x d left made e = cc

module _ (s : StoryTree) (b : Bound) where
  -- after how many steps of the run, with calls before it and answers left over
  abbrev pub Reaches : Configuration → List Made → Configuration → List Made → List (Option Given) → Type 0
  Reaches c made d before later = (n : ℕ) × Passes s b c made (settled d) n before later

  stands_at : (c : Configuration) (made : List Made) (d : Configuration) (m : Moment) → Line s b c (answers_of made) m → IsKept d made m
      → (before : List Made) (later : List (Option Given)) → Reaches c made d before later
  stands_at c made d (At e left r) (inl h) is before later =
      (suc h.step, ap anew (moment_same s b before later (suc h.step) (begun c) (answers_of made) _ (h.ends ∙ is) tt))
  stands_at c made d (At e left r) (inr h) is before later = absurd (no_cut_at (moment s b (begun c) (answers_of made) MAX_STEPS) e left r h.ends)
  stands_at c made d (Stopped e left r) (inl h) is before later =
      (suc h.step, ap anew (moment_same s b before later (suc h.step) (begun c) (answers_of made) _ (h.ends ∙ is) tt))
  stands_at c made d (Stopped e left r) (inr h) is before later = (
    MAX_STEPS,
    ap anew (moment_same s b before later MAX_STEPS (begun c) (answers_of made) _
        (cut_stopped (moment s b (begun c) (answers_of made) MAX_STEPS) d [] made (h.ends ∙ is)) tt),
  )
  stands_at c made d m h is before later = absurd is

  pub line_stands : (c : Configuration) (made : List Made) (d : Configuration) → EndsLine s b c made (Kept d) → (before : List Made) (later : List (Option Given)) → Reaches c made d before later
  line_stands c made d (m, line, ends) before later = stands_at c made d m line (kept_is m d made ends) before later

  -- ---- rows

  -- an entry for a line, before those for the lines behind it
  pub laid_before : (c d e : Configuration) (made rest all : List Made) → all ≡ made ++ rest → (n : ℕ) (steps : List ℕ) (before : List Made)
      → Passes s b c made d n before (answers_of rest) → laid s b steps (At (begun d) (answers_of rest) (before ++ made)) ≡ At (begun e) [] ((before ++ made) ++ rest)
      → laid s b (n ∷ steps) (At (begun c) (answers_of all) before) ≡ At (begun e) [] (before ++ all)
  laid_before c d e made rest all is n steps before here there =
      ap (λ left. laid s b steps (anew (run s b n (At (begun c) left before)))) (ap answers_of is ∙ answers_join made rest)
      ∙ (ap (laid s b steps) here ∙ (there ∙ ap (At (begun e) []) (append_assoc before made rest ∙ ap (λ l. before ++ l) (sym is))))

  laid_from : (c e : Configuration) (lines : List (List Made)) → (row : Lines s b c lines e) → (before : List Made)
      → (steps : List ℕ) × (laid s b steps (At (begun c) (answers_of (joined lines)) before) ≡ At (begun e) [] (before ++ joined lines)) × EachLine s b c e lines row steps before
  laid_from c e [] row before = ([], ap (λ d. At (begun d) [] before) (sym row) ∙ ap (At (begun e) []) (sym (append-nil before)), refl)
  laid_from c e (made ∷ rest) (d, kept, on) before =
      let (n, here) = line_stands c made d kept before (answers_of (joined rest)) in
      let (steps, there, each) = laid_from (settled d) e rest on (before ++ made) in
      (n ∷ steps, laid_before c (settled d) e made (joined rest) (made ++ joined rest) refl n steps before here there, (here, each))

  pub lines_are_laid : (c e : Configuration) (lines : List (List Made)) → (row : Lines s b c lines e)
      → (steps : List ℕ) × (laid s b steps (At (begun c) (answers_of (joined lines)) []) ≡ At (begun e) [] (joined lines)) × EachLine s b c e lines row steps []
  lines_are_laid c e lines row = laid_from c e lines row []
