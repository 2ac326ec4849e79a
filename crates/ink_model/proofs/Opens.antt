-- A shown newline that no Text or Tag follows is the open one.
use Rattle.std.proofs.Common.{◌≡◌, ◌∙◌, ℕ, suc, ◌<◌, Bool, true, false, not, ◌||◌, ◌&&◌, cond, eqb, List, [], ◌∷◌, ◌++◌, length, Some, refl, sym, ap, arith, inl, inr}
use Rattle.std.proofs.lemmas.Bool.{cases_Bool, or_cases, or_left, or_right, eqb-true, false≢true, both_ways}
use Rattle.ink_model.specs.Text.Shown.{unhidden_newline, shown_before, newline_last, newline_shown, newlines_before, is_among, open_before, has_more}
use Rattle.ink_model.specs.declared.mark.Mark.{Mark}
use Rattle.ink_model.specs.declared.mark.Mark.TheVariants.{Text, Newline, Tag}

pub has_more-append : (ms ns : List Mark) → has_more (ms ++ ns) ≡ (has_more ms || has_more ns)
has_more-append [] ns = refl
has_more-append (Text t ∷ ms) ns = refl
has_more-append (Tag t ∷ ms) ns = refl
has_more-append (m ∷ ms) ns = has_more-append ms ns

-- ---- shown newlines stand among the marks

shown_within : (b : Bool) (n i : ℕ) (ks : List ℕ) → (is_among i ks ≡ true → i < n) → is_among i (cond b (n ∷ ks) ks) ≡ true → i < suc n
shown_within true n i ks h e =
    elim (or_cases (eqb i n) (is_among i ks) e) [ inl k ↦ omega (arith, eqb-true i n k) | inr k ↦ omega (arith, h k) ]
shown_within false n i ks h e = omega (arith, h e)

pub newlines_within : (before after : List Mark) (i : ℕ) → is_among i (newlines_before before after) ≡ true → i < length before
newlines_within [] after i e = absurd (false≢true e)
newlines_within (Newline ∷ before) after i e =
    shown_within (newline_shown before after) (length before) i (newlines_before before (Newline ∷ after)) (newlines_within before (Newline ∷ after) i) e
newlines_within (m ∷ before) after i e = omega (arith, newlines_within before (m ∷ after) i e)

pub shown_clear : (x s e : Bool) → (x && (s && not e)) ≡ true → ((x && s) ≡ true) × (e ≡ false)
shown_clear true true false h = (refl, refl)
shown_clear x s e h = absurd (false≢true h)

-- ---- with a test whether a Text or Tag stands behind an index, among marks that are listed from the last on

module _
    (behind : List Mark → ℕ → Bool)
    (followed : (m : Mark) (before : List Mark) (i : ℕ) → ((ms : List Mark) → has_more (m ∷ ms) ≡ true) → i < length before → behind (m ∷ before) i ≡ true)
    (over : (m : Mark) (before : List Mark) (i : ℕ) → ((ms : List Mark) → has_more (m ∷ ms) ≡ has_more ms) → i < length before → behind (m ∷ before) i ≡ behind before i) where
  marked_behind : (m : Mark) (before after : List Mark) (i : ℕ) → ((ms : List Mark) → has_more (m ∷ ms) ≡ true) → is_among i (newlines_before before (m ∷ after)) ≡ true → behind (m ∷ before) i ≡ false → ⊥
  marked_behind m before after i more e h = both_ways (behind (m ∷ before) i) h (followed m before i more (newlines_within before (m ∷ after) i e))

  pub plain_behind : (m : Mark) (before after : List Mark) (i : ℕ) (b : Bool) → ((ms : List Mark) → has_more (m ∷ ms) ≡ has_more ms) → is_among i (newlines_before before (m ∷ after)) ≡ true → behind (m ∷ before) i ≡ b → behind before i ≡ b
  plain_behind m before after i b same e h = sym (over m before i same (newlines_within before (m ∷ after) i e)) ∙ h

  -- it is the last one shown, too
  pub opens_there : (before after : List Mark) (i : ℕ) → is_among i (newlines_before before after) ≡ true → behind before i ≡ false → (newline_last before after ≡ true) × (open_before before after ≡ Some i)
  opens_there [] after i e h = absurd (false≢true e)
  opens_there (Text t ∷ before) after i e h = absurd (marked_behind (Text t) before after i (λ ms. refl) e h)
  opens_there (Tag t ∷ before) after i e h = absurd (marked_behind (Tag t) before after i (λ ms. refl) e h)
  opens_there (Newline ∷ before) after i e h =
      let shows = unhidden_newline before after && shown_before before (Newline ∷ after) in
      let ended = newline_last before (Newline ∷ after) in
      let there : is_among i (newlines_before before (Newline ∷ after)) ≡ true → (ended ≡ true) × (open_before before (Newline ∷ after) ≡ Some i) =
      λ among. opens_there before (Newline ∷ after) i among (plain_behind Newline before after i false (λ ms. refl) among h) in
      elim (cases_Bool (newline_shown before after)) [
        | inl s ↦
            let among : is_among i (length before ∷ newlines_before before (Newline ∷ after)) ≡ true = rw s at e in
            let (here, last) = shown_clear (unhidden_newline before after) (shown_before before (Newline ∷ after)) ended s in (
              or_left shows ended here,
              rw s (elim (or_cases (eqb i (length before)) (is_among i (newlines_before before (Newline ∷ after))) among)
                  [ inl k ↦ ap Some (sym (eqb-true i (length before) k)) | inr k ↦ absurd (both_ways ended last (there k).0) ]),
            )
        | inr s ↦
            let found = there (rw s at e) in
            (or_right shows ended found.0, rw s found.1)
      ]
  opens_there (m ∷ before) after i e h = opens_there before (m ∷ after) i e (plain_behind m before after i false (λ ms. refl) e h)
