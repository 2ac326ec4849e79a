-- Where blanks alone are shown, nothing is left of them.
use Rattle.std.proofs.Common.{◌≡◌, ◌∙◌, inl, inr, ap, refl, sym, ℕ, List, [], ◌∷◌, ◌++◌, Bool, true, false, not, ◌&&◌, ◌||◌, if◌then◌else◌, is_some, reverse, Option, None, Some}
use Rattle.ink_out.proofs.Common.{list_any, list_any-IsPermutation, IsPermutation-reverse, clean, Mark, Text, Blank, Newline, State, Waiting}
use Rattle.std.proofs.Math.Bool.{or_assoc}
use Rattle.std.proofs.lemmas.Bool.{and_cases, not-false, or_parts}
use Rattle.ink_model.specs.Text.Bytes.{is_blank, is_newline}
use Rattle.ink_model.specs.Text.Shown.{blank_shown, unhidden_newline, newline_last, has_text, is_filled_blank, newline_shown, shown_text, shows_more, shows_text, shown_before, text_before}
use Rattle.ink_out.specs.Cleaning.{cleaned_on}
use Rattle.ink_out.specs.Stands.{Stands}
use Rattle.ink_out.specs.Tracks.{waiting}
use Rattle.ink_out.specs.declared.cleaning.Before.TheVariants.{Nothing}
use Rattle.ink_out.proofs.Answering.{nothing_shown, shows_of, waits_now}
use Rattle.ink_out.proofs.Lines.{clean_is}
use Rattle.ink_out.proofs.WhiteEnds.{blank_no_newline}

-- something else than blanks
abbrev is_filled : List ℕ → Bool
is_filled cs = list_any (λ c. not (is_blank c)) cs

blank_append : (a b : List ℕ) → is_filled a ≡ false → is_filled b ≡ false → is_filled (a ++ b) ≡ false
blank_append [] b h k = k
blank_append (c ∷ cs) b h k = let p = or_parts (not (is_blank c)) (is_filled cs) h in rw p.0 (blank_append cs b p.1 k)

cleaned_blank : (cs : List ℕ) → is_filled cs ≡ false → cleaned_on Nothing cs ≡ []
cleaned_blank [] h = refl
cleaned_blank (c ∷ cs) h =
    let p = or_parts (not (is_blank c)) (is_filled cs) h in
    let blank = not-false (is_blank c) p.0 in
    let other : is_newline c ≡ false = blank_no_newline c blank in
    rw (other, blank) (cleaned_blank cs p.1)

unshown : (c x e : Bool) → (c && x) ≡ false → is_filled (if c && (x && not e) then 10 ∷ [] else []) ≡ false
unshown true true e h = absurd (cc)
unshown c x e h = refl

held : (t : List ℕ) (b : Bool) → is_filled t ≡ false → is_filled (if b then t else []) ≡ false
held t true h = h
held t false h = refl

blank_before : (before after : List Mark) → has_text before ≡ false → newline_last before after ≡ false → list_any is_filled_blank before ≡ false
    → is_filled (text_before before after) ≡ false
blank_before [] after h e w = refl
blank_before (Text t ∷ before) after h e w = absurd (cc)
blank_before (Blank t ∷ before) after h e w =
    let p = or_parts (is_filled t) (list_any is_filled_blank before) w in
    blank_append (text_before before (Blank t ∷ after)) (if blank_shown before after then t else []) (blank_before before (Blank t ∷ after) h e p.1)
    (held t (blank_shown before after) p.0)
blank_before (Newline ∷ before) after h e w =
    let p = or_parts (unhidden_newline before after && shown_before before (Newline ∷ after)) (newline_last before (Newline ∷ after)) e in
    blank_append (text_before before (Newline ∷ after)) (if newline_shown before after then 10 ∷ [] else []) (blank_before before (Newline ∷ after) h p.1 w)
    (unshown (unhidden_newline before after) (shown_before before (Newline ∷ after)) (newline_last before (Newline ∷ after)) p.0)
blank_before (m ∷ before) after h e w = blank_append (text_before before (m ∷ after)) [] (blank_before before (m ∷ after) h e w) refl

turned_round : (marks : List Mark) → list_any is_filled_blank (reverse marks) ≡ list_any is_filled_blank marks
turned_round marks = sym (list_any-IsPermutation is_filled_blank marks (reverse marks) (IsPermutation-reverse marks))

pub nothing_more : (marks : List Mark) → shows_more marks ≡ false → [] ≡ clean (shown_text marks)
nothing_more marks h =
    elim (and_cases (shows_text marks) (has_text (reverse marks) || (newline_last (reverse marks) [] || list_any is_filled_blank marks)) h) [
      | inl none ↦ nothing_shown marks none
      | inr blank ↦
          let p = or_parts (has_text (reverse marks)) (newline_last (reverse marks) [] || list_any is_filled_blank marks) blank in
          let q = or_parts (newline_last (reverse marks) []) (list_any is_filled_blank marks) p.1 in
          sym (clean_is (shown_text marks) ∙ cleaned_blank (shown_text marks) (blank_before (reverse marks) [] p.0 q.0 (turned_round marks ∙ q.1)))
    ]

waiting_now : (before : List Mark) (o : Option Waiting) → waiting before o [] ≡ is_some o
waiting_now before None = refl
waiting_now before (Some w) = waits_now before w

-- what is known at once of a section's marks
pub more_is : (marks : List Mark) (settled : List ℕ) (s : State) → Stands (reverse marks) settled s
    → ((s.tracker.text || is_some s.tracker.blank) && ((s.tracker.text || is_some s.tracker.newline) || list_any is_filled_blank marks)) ≡ shows_more marks
more_is marks settled s h =
    let t = s.tracker in
    let words = list_any is_filled_blank marks in
    let ends_is : is_some t.newline ≡ newline_last (reverse marks) [] = sym (h.tracks.ends [] ∙ waiting_now (reverse marks) t.newline) in
    ap (λ b. b && ((t.text || is_some t.newline) || words)) (shows_of marks settled s h)
    ∙ ap (λ b. shows_text marks && b) (or_assoc t.text (is_some t.newline) words)
    ∙ ap (λ b. shows_text marks && (b || (is_some t.newline || words))) h.tracks.text
    ∙ ap (λ b. shows_text marks && (has_text (reverse marks) || (b || words))) ends_is
