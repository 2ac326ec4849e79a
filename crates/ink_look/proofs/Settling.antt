-- What was said, and how flow stands once it was taken, are the passage of the stop; and so a run that says something comes to a
-- passage.
use Rattle.std.proofs.Common.{◌≡◌, ◌≢◌, ◌∙◌, ap, refl, subst, inl, inr, List, [], ◌∷◌, map, Bool, true, false, not, ◌&&◌, ◌||◌, if◌then◌else◌, Result, Ok, Err}
use Rattle.ink_look.specs.Ends.{EndsWith}
use Rattle.ink_look.specs.LineEnds.{RunsLine, handed}
use Rattle.ink_look.proofs.Common.{said, said_asks, Said, Bound, StoryTree, Fault, OutOfMemory, Event}
use Rattle.ink_look.specs.declared.lines.LineEnd.{LineEnd}
use Rattle.ink_model.specs.Choices.Making.{has_any, shown, shown_choice, visible}
use Rattle.ink_model.specs.Run.Configuration.{ChoiceOf, Configuration, can_go_on, settled, unnumbered_choice}
use Rattle.ink_model.specs.Text.Mark.{tags}
use Rattle.ink_model.specs.Protocol.Passage.{has_none, is_loose, passage, passage_asks}
use Rattle.ink_model.specs.Run.Moments.{Broke, Kept, Made, RunEnd}
use Rattle.ink_model.specs.Text.Shown.{shows_more}
use Rattle.ink_model.specs.Protocol.Turns.{open_choices}
use Rattle.ink_model.specs.declared.passage.Passage.{Passage}
use Rattle.ink_model.specs.declared.passage.Shown.{Shown}
use Rattle.ink_model.specs.declared.place.Part.{Part}
use Rattle.ink_look.specs.Extents.{EndsBy, RunsBy}
use Rattle.ink_look.specs.Passages.{passage_of}
use Rattle.ink_look.specs.declared.passages.Extent.{Extent}
use Rattle.ink_look.specs.declared.passages.Extent.TheVariants as extent

-- ---- numbers of Enters show nowhere

shown_unnumbered : (cs : List (ChoiceOf (List Part))) → shown (map unnumbered_choice cs) ≡ shown cs
shown_unnumbered [] = refl
shown_unnumbered (c ∷ cs) = by c.hidden (shown_unnumbered cs)
  where
    by : (b : Bool) → shown (map unnumbered_choice cs) ≡ shown cs
        → map shown_choice (if b then visible (map unnumbered_choice cs) else unnumbered_choice c ∷ visible (map unnumbered_choice cs)) ≡ map shown_choice (if b then visible cs else c ∷ visible cs)
    by true h = h
    by false h = ap (λ xs. shown_choice c ∷ xs) h

none_unnumbered : (cs : List (ChoiceOf (List Part))) → has_none (map unnumbered_choice cs) ≡ has_none cs
none_unnumbered [] = refl
none_unnumbered (c ∷ cs) = refl

open_settled : (c : Configuration) → open_choices (settled c) ≡ open_choices c
unfolding settled
open_settled c = ap (λ xs. if can_go_on c then [] else xs) (shown_unnumbered c.flow.choices)

loose_settled : (c : Configuration) → is_loose (settled c) ≡ is_loose c
unfolding settled
loose_settled c = ap (λ b. not (can_go_on c) && (b && not c.flow.safe)) (none_unnumbered c.flow.choices)

goes_settled : (c : Configuration) → can_go_on (settled c) ≡ can_go_on c
unfolding settled
goes_settled c = refl

globals_settled : (c : Configuration) → (settled c).shared.globals ≡ c.shared.globals
unfolding settled
globals_settled c = refl

-- ---- passages

abbrev pub holding : Said → List Shown → List Event → Bool → Bool → Passage
holding w choices events more loose = record { text = w.text; tags = w.tags; choices = choices; events = events; more = more; loose = loose }

pub passage_is : (c : Configuration) (w : Said) (choices : List Shown) (events : List Event) (more loose : Bool)
    → choices ≡ open_choices c → events ≡ [] → more ≡ can_go_on c → loose ≡ is_loose c → holding w choices events more loose ≡ passage_of w c
passage_is c w choices events more loose e f g h = rw (e, f, g, h) refl

is_passage : (c : Configuration) → passage_of (said c) c ≡ passage c
unfolding said passage
is_passage c = refl

passage_settled : (c : Configuration) → passage_of (said c) (settled c) ≡ passage c
passage_settled c =
    ap (λ cs. holding (said c) cs [] (can_go_on (settled c)) (is_loose (settled c))) (open_settled c)
    ∙ ap (λ b. holding (said c) (open_choices c) [] b (is_loose (settled c))) (goes_settled c)
    ∙ ap (holding (said c) (open_choices c) [] (can_go_on c)) (loose_settled c)
    ∙ is_passage c

-- ---- where memory is asked for

any_of : {A : Type 0} (xs : List A) → xs ≢ [] → has_any xs ≡ true
any_of [] h = absurd (h refl)
any_of (x ∷ xs) h = refl

same_fault : {A : Type 0} (f g : Fault) → ◌≡◌ {A = Result A Fault} (Err f) (Err g) → f ≡ g
same_fault f g e = cc

first_two : (a b c : Bool) → a || b ≡ true → a || (b || c) ≡ true
first_two true b c h = refl
first_two false true c h = refl
first_two false false c h = absurd (cc)

last_one : (a b c : Bool) → c ≡ true → a || (b || c) ≡ true
last_one true b c h = refl
last_one false true c h = refl
last_one false false c h = h

asks_said : (c : Configuration) → said_asks c ≡ true → passage_asks c ≡ true
asks_said c h = first_two (shows_more c.page.line) (has_any (tags c.page.line)) _ h

asks_choices : (c : Configuration) → open_choices (settled c) ≢ [] → passage_asks c ≡ true
asks_choices c some = last_one (shows_more c.page.line) (has_any (tags c.page.line)) _ (any_of _ (subst (λ cs. cs ≢ []) (open_settled c) some))

-- ---- runs

module _ (x : Extent) (s : StoryTree) (b : Bound) (old : Configuration) (made : List Made) (new : Configuration) where
  -- it says this
  abbrev Says : Result Said Fault → Type 0
  Says result = RunsBy said said_asks x s b old made new result

  -- it comes to this passage
  abbrev Passes : Result Passage Fault → Type 0
  Passes result = RunsBy passage passage_asks x s b old made new result

  abbrev Ends : Result Passage Fault → Type 0
  Ends result = (end : RunEnd) × EndsBy x s b old made end × EndsWith passage passage_asks end new result

  pub passes : (w : Said) (p : Passage) → Says (Ok w) → p ≡ passage_of w new → Passes (Ok p)
  passes w p (inl ran) is = inl (by ran.0 ran.1 ran.2)
    where
      by : (end : RunEnd) → EndsBy x s b old made end → EndsWith said said_asks end new (Ok w) → Ends (Ok p)
      by (Kept stop) ends left = (Kept stop, ends, (is ∙ ap (λ v. passage_of v new) left.0 ∙ ap (passage_of (said stop)) left.1 ∙ passage_settled stop, left.1))
      by (Broke f globals) ends left = absurd left
  passes w p (inr short) is = absurd (let never = short.0 in cc)

  -- memory was refused for its choices
  pub passes_short : (w : Said) → Says (Ok w) → open_choices new ≢ [] → Passes (Err OutOfMemory)
  passes_short w (inl ran) some = inl (by ran.0 ran.1 ran.2)
    where
      by : (end : RunEnd) → EndsBy x s b old made end → EndsWith said said_asks end new (Ok w) → Ends (Err OutOfMemory)
      by (Kept stop) ends left = (
        Kept stop,
        ends,
        ((refl, asks_choices stop (subst (λ c. open_choices c ≢ []) left.1 some)), ap (λ c. c.shared.globals) left.1 ∙ globals_settled stop),
      )
      by (Broke f globals) ends left = absurd left
  passes_short w (inr short) some = absurd (let never = short.0 in cc)

  pub passes_fault : (f : Fault) → Says (Err f) → Passes (Err f)
  passes_fault f (inl ran) = inl (by ran.0 ran.1 ran.2)
    where
      by : (end : RunEnd) → EndsBy x s b old made end → EndsWith said said_asks end new (Err f) → Ends (Err f)
      by (Kept stop) ends left = (Kept stop, ends, ((left.0.0, asks_said stop left.0.1), left.1))
      by (Broke g globals) ends left = (Broke g globals, ends, left)
  passes_fault f (inr short) = inr (ap Err (same_fault f OutOfMemory short.0), short.1)

-- what a line says, by how it ended
pub line_says : (s : StoryTree) (b : Bound) (old : Configuration) (made : List Made) (new : Configuration) (end : LineEnd) → RunsLine said said_asks s b old made new end
    → RunsBy said said_asks extent.Line s b old made new (handed end)
line_says s b old made new end (inl ran) = inl (ran.0, ran.1, ran.3)
line_says s b old made new end (inr short) = inr (ap handed short.0, short.1)
