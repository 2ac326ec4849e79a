-- A row of `continue` commands is one run, and the calls among its events are that run's.
use Rattle.std.proofs.Common.{◌≡◌, refl, sym, ap, ◌∙◌, subst, ℕ, zero, suc, List, [], ◌∷◌, ◌++◌, append-nil, inl, inr, Bool, true, false, MatchBool}
use Rattle.ink_model.specs.Protocol.Answer.{Tells, Refuses}
use Rattle.ink_model.specs.Protocol.Changed.{OnlyRefuses}
use Rattle.ink_model.specs.Run.Configuration.{Configuration, begun, can_go_on, settled}
use Rattle.ink_model.specs.Host.Events.{after, calls, later}
use Rattle.ink_model.specs.Host.Bindings.{Bindings}
use Rattle.ink_model.specs.Run.Line.{EndsLine}
use Rattle.ink_model.specs.Run.Moments.{Made, RunEnd, Kept, Broke, At, answers_of}
use Rattle.ink_model.specs.Protocol.Session.{ContinueFrom, EndsAs, RunsLine, TellsDone, condition_told, left_with, reply_told, telling}
use Rattle.ink_model.specs.Protocol.State.{State, Condition, Ready, Broken}
use Rattle.ink_model.specs.Host.Told.{saws, told}
use Rattle.ink_model.specs.Story.Tree.{StoryTree}
use Rattle.ink_model.specs.declared.fault.Refusal.TheVariants as refusal
use Rattle.ink_model.specs.declared.host.Change.{Change}
use Rattle.ink_model.specs.declared.host.Event.{Event}
use Rattle.ink_model.specs.declared.host.Event.TheVariants as event
use Rattle.ink_model.specs.declared.passage.Passage.{Passage}
use Rattle.ink_line.specs.Rows.{Continues, EachCommand, Passes, called, laid}
use Rattle.ink_line.proofs.Laying.{laid_before, line_stands}

-- ---- the calls among events

called_joins : (xs ys : List Event) → called (xs ++ ys) ≡ called xs ++ called ys
called_joins [] ys = refl
called_joins (event.Call name arguments gave stamp ∷ xs) ys = ap (λ l. record { name = name; arguments = arguments; gave = gave } ∷ l) (called_joins xs ys)
called_joins (event.Saw name stamp value ∷ xs) ys = called_joins xs ys

called_back : (n : ℕ) (made : List Made) → called (calls n made) ≡ made
called_back n [] = refl
called_back n (m ∷ made) = ap (λ l. m ∷ l) (called_back (after n) made)

none_called : (n : ℕ) (cs : List Change) (answers : List Bool) → called (saws n cs answers) ≡ []
none_called n [] answers = refl
none_called n (c ∷ cs) [] = refl
none_called n (c ∷ cs) (true ∷ answers) = none_called (after n) cs answers
none_called n (c ∷ cs) (false ∷ answers) = none_called n cs answers

-- ---- one command

-- the line that a command told of: its calls, what it kept, and the state after it
pub record Told (s : StoryTree) (h : Bindings) (c : Configuration) (es : List Event) (new : State) : Type 0 where
  pub made : List Made
  pub kept : Configuration
  pub line : EndsLine s h.functions c made (Kept kept)
  pub called_so : called es ≡ made
  pub ready : new.condition ≡ Ready (settled kept)

module _ (s : StoryTree) (h : Bindings) (c : Configuration) (es : List Event) (line : Passage) (old new : State) where
  kept_told : (made : List Made) (d : Configuration) → EndsLine s h.functions c made (Kept d)
      → TellsDone (told h.watches c.shared.globals d.shared.globals) (Ready (settled d)) (telling d) (calls old.stamp made) es old (Tells line) new → Told s h c es new
  kept_told made d ends x = by x.all x.replies x.leaves
    where
      by : (all : Bool) → Tells line ≡ reply_told all (telling d es) es → new ≡ left_with (condition_told all (Ready (settled d))) es old → Told s h c es new
      by true replies leaves = record {
        made = made;
        kept = d;
        line = ends;
        called_so = ap called (x.events ∙ ap (λ l. calls old.stamp made ++ l) x.telling.events)
            ∙ (called_joins (calls old.stamp made) (saws (later old.stamp (calls old.stamp made)) (told h.watches c.shared.globals d.shared.globals) x.telling.answers)
            ∙ (ap (λ l. l ++ called (saws (later old.stamp (calls old.stamp made)) (told h.watches c.shared.globals d.shared.globals) x.telling.answers)) (called_back old.stamp made)
            ∙ (ap (λ l. made ++ l) (none_called (later old.stamp (calls old.stamp made)) (told h.watches c.shared.globals d.shared.globals) x.telling.answers) ∙ append-nil made)));
        ready = ap (λ (st : State). st.condition) leaves;
      }
      by false replies leaves = absurd (cc replies)

  ends_told : (made : List Made) (end : RunEnd) → EndsLine s h.functions c made end → EndsAs h c.shared.globals end made es old (Tells line) new → Told s h c es new
  ends_told made (Kept d) ends (inl x) = kept_told made d ends x
  ends_told made (Kept d) ends (inr x) = absurd (cc x.1.1)
  ends_told made (Broke f globals) ends x = absurd (cc x.1)

  runs_told : (made : List Made) → RunsLine s h c made es old (Tells line) new → Told s h c es new
  runs_told made (inl x) = ends_told made x.0 x.1 x.2
  runs_told made (inr x) = absurd (cc x.2.1)

  continue_told : (k : Condition) → k ≡ Ready c → ContinueFrom s h es k old (Tells line) new → Told s h c es new
  continue_told (Broken f globals) is x = absurd cc
  continue_told (Ready d) is x = (elim (can_go_on c) as (λ b. MatchBool b ((made : List Made) × RunsLine s h c made es old (Tells line) new) ((es ≡ []) × OnlyRefuses (Refuses refusal.CannotContinue) old (Tells line) new) → Told s h c es new)
      [ true ↦ λ y. runs_told y.0 y.1 | false ↦ λ y. absurd (cc y.1.0) ]) (subst (λ k. ContinueFrom s h es k old (Tells line) new) is x)

-- ---- rows

module _ (s : StoryTree) (h : Bindings) where
  same_ready : (c d : Configuration) → Ready c ≡ Ready d → c ≡ d
  same_ready c d e = cc

  continues_from : (n : ℕ) (es : List Event) (old new : State) → (row : Continues s h es n old new) → (c e : Configuration) → old.condition ≡ Ready c → new.condition ≡ Ready e
      → (before : List Made)
      → (steps : List ℕ) × (laid s h.functions steps (At (begun c) (answers_of (called es)) before) ≡ At (begun e) [] (before ++ called es)) × EachCommand s h es n old new row c steps before
  continues_from zero es old new row c e from to before =
      let same : c ≡ e = same_ready c e (sym from ∙ (sym (ap (λ (st : State). st.condition) row.1) ∙ to)) in
      let none : called es ≡ [] = ap called row.0 in (
        [],
        ap (λ l. At (begun c) (answers_of l) before) none
            ∙ (ap (λ d. At (begun d) [] before) same ∙ ap (At (begun e) []) (sym (append-nil before) ∙ ap (λ l. before ++ l) (sym none))),
        refl,
      )
  continues_from (suc n) es old new (first, others, line, mid, parts, does, on) c e from to before =
      let here : Told s h c first mid = continue_told s h c first line old mid old.condition from does in
      let (k, passes) = line_stands s h.functions c here.made here.kept here.line before (answers_of (called others)) in
      let goes : Passes s h.functions c (called first) (settled here.kept) k before (answers_of (called others)) =
      subst (λ made. Passes s h.functions c made (settled here.kept) k before (answers_of (called others))) (sym here.called_so) passes in
      let (steps, there, each) = continues_from n others mid new on (settled here.kept) e here.ready to (before ++ called first) in (
        k ∷ steps,
        laid_before s h.functions c (settled here.kept) e (called first) (called others) (called es) (ap called parts ∙ called_joins first others) k steps before goes there,
        (settled here.kept, here.ready, goes, each),
      )

  pub continues_are_laid : (es : List Event) (n : ℕ) (old new : State) → (row : Continues s h es n old new) → (c e : Configuration) → old.condition ≡ Ready c → new.condition ≡ Ready e
      → (steps : List ℕ) × (laid s h.functions steps (At (begun c) (answers_of (called es)) []) ≡ At (begun e) [] (called es)) × EachCommand s h es n old new row c steps []
  continues_are_laid es n old new row c e from to = continues_from n es old new row c e from to []
