-- A text that comes next, behind a newline that is shown, ends the look.
use Rattle.std.proofs.Common.{◌≡◌, ◌∙◌, ap, refl, sym, suc, ℕ, List, [], ◌∷◌, not, ◌&&◌, if◌then◌else◌, option_and_then, Bool, true, false, Option, None, Some, Result, Ok, Err}
use Rattle.std.specs.List.{list_any}
use Rattle.std.proofs.lemmas.Bool.{and_parts, false≢true, not-true}
use Rattle.ink_line.proofs.Grows.{EffectHolds, OutcomeHolds, PageHolds, acted_holds}
use Rattle.ink_line.proofs.Opens.{open_is}
use Rattle.ink_line.proofs.Stands.{Stands, has_words, stands_on, stands_shown, words_stand}
use Rattle.ink_line.specs.Look.{Looking, Over, look_on, looked, looked_by, looked_on}
use Rattle.ink_model.specs.Run.Ahead.{is_worded, writes_words}
use Rattle.ink_model.specs.Run.Configuration.{Configuration, current_place}
use Rattle.ink_model.specs.Run.Effect.{Fields, fields_of, is_fresh, pushing, writing_text}
use Rattle.ink_look.proofs.Common.{Bound, Fault, Given}
use Rattle.ink_model.specs.Run.Line.{is_call}
use Rattle.ink_model.specs.Text.Mark.{cut}
use Rattle.ink_model.specs.Run.Move.{Outcome, Next, Stop, Faults}
use Rattle.ink_model.specs.Text.Output.{is_crowded, is_line, is_text, let_through, noted, noted_in, writes_text}
use Rattle.ink_model.specs.Text.Page.{Page, Section}
use Rattle.ink_model.specs.Run.Moments.{Made, Moment, At, Stopped, came, moment_after}
use Rattle.ink_model.specs.Text.Shown.{is_shown, more_from, open_newline}
use Rattle.ink_model.specs.Run.Step.{Comes, acted, gone_in, performed, step, step_at}
use Rattle.ink_model.specs.Run.Step.Host.{call_at}
use Rattle.ink_model.specs.Run.Step.Text.{write_text}
use Rattle.ink_model.specs.Story.Tree.{StoryTree, at, leaf, container}
use Rattle.ink_model.specs.declared.content.Leaf.{Leaf}
use Rattle.ink_model.specs.declared.content.Leaf.TheVariants as leaves
use Rattle.ink_model.specs.declared.fault.Fault.TheVariants.{TooDeep}
use Rattle.ink_model.specs.declared.mark.Mark.{Mark}
use Rattle.ink_model.specs.declared.place.Part.{Part}
use Rattle.ink_model.specs.declared.value.Value.TheVariants as value
use Rattle.ink_step.proofs.Goings.{stays_in}
use Rattle.ink_tree.specs.Kept.{leaf_in}

-- ---- what is written

-- behind a newline that is shown, with the line alone open
module _ (newline : ℕ) (t : List ℕ) (words : has_words t ≡ true) where
  noted_stands : (fresh : Bool) (line : List Mark) (sections : List Section) (n : ℕ) → is_line sections ≡ true → is_shown line newline ≡ true → Stands newline (noted_in (let_through fresh (cut t)) line sections n).line
  noted_stands fresh line [] n alone shown = words_stand newline line fresh t shown words
  noted_stands fresh line (x ∷ rest) n alone shown = absurd (false≢true alone)

  text_stands : (fresh : Bool) (page : Page) → is_line page.sections ≡ true → is_shown page.line newline ≡ true → PageHolds (Stands newline) (stands_on newline) (writes_text fresh t page)
  text_stands fresh page alone shown = by (is_crowded (let_through fresh (cut t)) page)
    where
      by : (b : Bool) → PageHolds (Stands newline) (stands_on newline) (if b then Err TooDeep else Ok (noted (let_through fresh (cut t)) page))
      by true = tt
      by false = noted_stands fresh page.line page.sections page.next_enter alone shown

  writes : (wrote : Bool) (r : Result Page Fault) (f : Fields) → PageHolds (Stands newline) (stands_on newline) r → EffectHolds (Stands newline) (stands_on newline) (writing_text wrote r f)
  writes wrote (Ok page) f h = h
  writes wrote (Err g) f h = tt

  effect_stands : (f : Fields) → f.evaluating ≡ false → is_line f.page.sections ≡ true → is_shown f.page.line newline ≡ true → EffectHolds (Stands newline) (stands_on newline) (write_text t f)
  effect_stands f out alone shown = by f.evaluating out
    where
      by : (b : Bool) → b ≡ false → EffectHolds (Stands newline) (stands_on newline) (if b then pushing (value.Text t) f else writing_text (list_any is_text (cut t)) (writes_text (is_fresh f) t f.page) f)
      by true e = absurd (false≢true (sym e))
      by false e = writes (list_any is_text (cut t)) (writes_text (is_fresh f) t f.page) f (text_stands (is_fresh f) f.page alone shown)

-- ---- where flow is

-- flow is at a text with words
record TextAt (s : StoryTree) (c : Configuration) : Type 0 where
  pub place : List Part
  pub text : List ℕ
  pub at_place : current_place c ≡ Some place
  pub stands : leaf_in (at s place) ≡ Some (leaves.Text text)
  pub words : has_words text ≡ true

text_there : (s : StoryTree) (c : Configuration) → is_worded (option_and_then (λ p. leaf_in (at s p)) (current_place c)) ≡ true → TextAt s c
text_there s c = by (current_place c) refl
  where
    of : (p : List Part) → current_place c ≡ Some p → (l : Option Leaf) → leaf_in (at s p) ≡ l → is_worded l ≡ true → TextAt s c
    of p e (Some (leaves.Text t)) is h = record { place = p; text = t; at_place = e; stands = is; words = h }
    of p e l is h = absurd (false≢true h)

    by : (o : Option (List Part)) → current_place c ≡ o → is_worded (option_and_then (λ p. leaf_in (at s p)) o) ≡ true → TextAt s c
    by None e h = absurd (false≢true h)
    by (Some p) e h = of p e (leaf_in (at s p)) refl h

-- ---- the step

module _ (s : StoryTree) (b : Bound) (p : List Part) (t : List ℕ) (c : Configuration) where
  performs : (d : Configuration) (o : Option StoryTree) → leaf_in o ≡ Some (leaves.Text t) → performed s b p o (call_at o) d ≡ Comes (acted s (write_text t (fields_of d)) d)
  performs d None is = absurd cc
  performs d (Some (container name flags content named)) is = absurd cc
  performs d (Some (leaf l)) is = (let same : l ≡ leaves.Text t = cc in ap (λ l. performed s b p (Some (leaf l)) (call_at (Some (leaf l))) d) same)

  step_writes : current_place c ≡ Some p → leaf_in (at s p) ≡ Some (leaves.Text t) → step s b c ≡ Comes (acted s (write_text t (fields_of (gone_in s p c))) (gone_in s p c))
  unfolding step
  step_writes at_place stands =
      ap (λ o. step_at s b o c) at_place
      ∙ ap (λ q. performed s b q (at s q) (call_at (at s q)) (gone_in s p c)) (sym (stays_in s p (leaves.Text t) stands))
      ∙ performs (gone_in s p c) (at s p) stands

-- ---- the look

module _ (s : StoryTree) (b : Bound) (newline : ℕ) (c : Configuration) (kept : Moment) (left : List (Option Given)) (made : List Made) where
  ends : (o : Outcome) → OutcomeHolds (Stands newline) (stands_on newline) o → looked kept newline (At c left made) (moment_after c o left made) ≡ Over kept
  ends (Next d) h =
      let (shown, past) = stands_shown newline d.page.line h in
      ap (λ x. looked_by x (more_from d.page.line (suc newline)) kept newline (At c left made) (At d left made)) shown ∙ ap (λ x. looked_by true x kept newline (At c left made) (At d left made)) past
  ends (Stop d) h =
      let (shown, past) = stands_shown newline d.page.line h in
      ap (λ x. looked_by x (more_from d.page.line (suc newline)) kept newline (At c left made) (Stopped d left made)) shown ∙ ap (λ x. looked_by true x kept newline (At c left made) (Stopped d left made)) past
  ends (Faults f) h = refl

  pub words_end : writes_words s c ≡ true → open_newline c.page.line ≡ Some newline → look_on s b (Looking kept newline (At c left made)) ≡ Over kept
  words_end writes opens =
      let (out, there) = and_parts (not c.flow.threads.thread.frame.evaluating) (is_line c.page.sections && is_worded (option_and_then (λ p. leaf_in (at s p)) (current_place c))) writes in
      let (alone, worded) = and_parts (is_line c.page.sections) (is_worded (option_and_then (λ p. leaf_in (at s p)) (current_place c))) there in
      let text = text_there s c worded in
      let d = gone_in s text.place c in
      let o = acted s (write_text text.text (fields_of d)) d in
      ap (λ x. looked_on (is_call x) kept newline (At c left made) (came s c x left made)) (step_writes s b text.place text.text c text.at_place text.stands)
      ∙ ends o (acted_holds (Stands newline) (stands_on newline) s (write_text text.text (fields_of d)) d (effect_stands newline text.text text.words (fields_of d) (not-true c.flow.threads.thread.frame.evaluating out) alone (open_is c.page.line newline opens).0))
