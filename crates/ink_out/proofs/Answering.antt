-- What a section answers at once, from what is known of its marks.
use Rattle.std.proofs.Common.{◌≡◌, ℕ, Bool, true, false, not, ◌&&◌, ◌||◌, eqb, List, [], ◌∷◌, ◌++◌, drop, if◌then◌else◌, is_some, reverse, Option, None, Some, refl, sym, ap, ◌∙◌, subst}
use Rattle.std.proofs.lemmas.Bool.{or_left, eq-eqb, ne_eqb}
use Rattle.std.proofs.lemmas.List.{reverse-reverse}
use Rattle.ink_out.proofs.Common.{clean, Mark, Text, Blank, Newline, Tracker, Waiting, State}
use Rattle.ink_model.specs.Text.Shown.{blank_shown, unhidden_newline, newline_last, newlines_before, is_among, open_newline, has_more, more_from, is_shown, shown_text, shows_text, shown_before, text_before}
use Rattle.ink_out.specs.declared.tracker.First.{First}
use Rattle.ink_out.specs.Tracks.{stays, waits, Tracks, FitsWaiting, FitsNewline}
use Rattle.ink_out.specs.Stands.{Stands, is_past}
use Rattle.ink_out.proofs.Tracking.{hidden_now}
use Rattle.ink_out.proofs.Opens.{more_is, open_there, open_none, open_followed}

pub more_of : (marks : List Mark) (settled : List ℕ) (s : State) (i : ℕ) → Stands (reverse marks) settled s → is_past i s.more ≡ more_from marks i
more_of marks settled s i h =
    ap (is_past i) h.more ∙ sym (more_is (reverse marks) i) ∙ ap (λ ms. has_more (drop i ms)) (reverse-reverse marks)

pub waits_now : (before : List Mark) (w : Waiting) → waits before w [] ≡ true
waits_now before w = rw (hidden_now w.hides) refl

shown_now : (before : List Mark) (s : Tracker) (settled : List ℕ) (w : Waiting) → s.newline ≡ Some w → Tracks before s settled → newlines_before before [] ≡ w.at ∷ settled
shown_now before s settled w is t = t.newlines [] ∙ rw (is, waits_now before w) refl

pub open_waiting : (marks : List Mark) (settled : List ℕ) (s : State) (w : Waiting) → s.tracker.newline ≡ Some w → w.tagged ≡ false → Stands (reverse marks) settled s → Some w.at ≡ open_newline marks
open_waiting marks settled s w is untagged h =
    let fits : FitsNewline (reverse marks) s.tracker w = subst (λ o. FitsWaiting (reverse marks) s.tracker o) is h.tracks.fits in
    let now = shown_now (reverse marks) s.tracker settled w is h.tracks in
    let among : is_among w.at (newlines_before (reverse marks) []) ≡ true = ap (is_among w.at) now ∙ or_left (eqb w.at w.at) (is_among w.at settled) (eq-eqb w.at w.at refl) in
    sym (open_there (reverse marks) [] w.at among (sym fits.tagged ∙ untagged)).1

pub open_tagged : (marks : List Mark) (settled : List ℕ) (s : State) (w : Waiting) → s.tracker.newline ≡ Some w → w.tagged ≡ true → Stands (reverse marks) settled s → None ≡ open_newline marks
open_tagged marks settled s w is tagged h =
    let fits : FitsNewline (reverse marks) s.tracker w = subst (λ o. FitsWaiting (reverse marks) s.tracker o) is h.tracks.fits in
    sym (open_followed (reverse marks) [] w.at settled (shown_now (reverse marks) s.tracker settled w is h.tracks) (sym fits.tagged ∙ tagged))

pub open_nothing : (marks : List Mark) (settled : List ℕ) (s : State) → s.tracker.newline ≡ None → Stands (reverse marks) settled s → None ≡ open_newline marks
open_nothing marks settled s is h = sym (open_none (reverse marks) [] (h.tracks.ends [] ∙ rw is refl))

-- ---- a newline at an index

-- the one that waits is not the one that is asked for
pub shown_other : (marks : List Mark) (settled : List ℕ) (s : State) (w : Waiting) (i : ℕ) → s.tracker.newline ≡ Some w → (w.at ≡ i → ⊥) → Stands (reverse marks) settled s → is_among i settled ≡ is_shown marks i
shown_other marks settled s w i is other h =
    sym (ap (is_among i) (shown_now (reverse marks) s.tracker settled w is h.tracks) ∙ ap (λ (b : Bool). b || is_among i settled) (ne_eqb i w.at (λ e. other (sym e))))

-- none waits
pub shown_none : (marks : List Mark) (settled : List ℕ) (s : State) (i : ℕ) → s.tracker.newline ≡ None → Stands (reverse marks) settled s → is_among i settled ≡ is_shown marks i
shown_none marks settled s i is h = sym (ap (is_among i) (h.tracks.newlines [] ∙ rw is refl))

-- ---- whether a text is shown

stays_now : (before : List Mark) (first : Option First) → stays before first [] ≡ is_some first
stays_now before None = refl
stays_now before (Some b) = elim b.broken as (λ broken. not (false || (broken && false)) ≡ true) [ true ↦ refl | false ↦ refl ]

pub shows_of : (marks : List Mark) (settled : List ℕ) (s : State) → Stands (reverse marks) settled s → (s.tracker.text || is_some s.tracker.blank) ≡ shows_text marks
shows_of marks settled s h = sym (h.tracks.some [] ∙ ap (λ b. s.tracker.text || b) (stays_now (reverse marks) s.tracker.blank))

-- where neither a text nor a blank is shown, nothing is
nothing_before : (before after : List Mark) → shown_before before after ≡ false → text_before before after ≡ []
nothing_before [] after h = refl
nothing_before (Text t ∷ before) after h = absurd (cc)
nothing_before (Blank t ∷ before) after h = by (blank_shown before after) h (nothing_before before (Blank t ∷ after))
  where
    by : (b : Bool) → b || shown_before before (Blank t ∷ after) ≡ false → (shown_before before (Blank t ∷ after) ≡ false → text_before before (Blank t ∷ after) ≡ [])
        → text_before before (Blank t ∷ after) ++ (if b then t else []) ≡ []
    by true k on = absurd (cc)
    by false k on = ap (λ text. text ++ []) (on k)
nothing_before (Newline ∷ before) after h = rw (nothing_before before (Newline ∷ after) h) (unshown _ (unhidden_newline before after) (shown_before before (Newline ∷ after)) h)
  where
    unshown : (text : List ℕ) (c x : Bool) → x ≡ false → (if c && (x && not (newline_last before (Newline ∷ after))) then text else []) ≡ []
    unshown text true true k = absurd (cc)
    unshown text c x k = refl
nothing_before (m ∷ before) after h = ap (λ text. text ++ []) (nothing_before before (m ∷ after) h)

pub nothing_shown : (marks : List Mark) → shows_text marks ≡ false → [] ≡ clean (shown_text marks)
unfolding clean
nothing_shown marks h = sym (ap clean (nothing_before (reverse marks) [] h))
