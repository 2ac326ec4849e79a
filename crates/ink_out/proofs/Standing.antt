-- What is known of a section's marks, after one more mark.
use Rattle.std.proofs.Common.{◌≡◌, ℕ, suc, ◌+◌, ◌-◌, ◌<◌, ◌≤◌, true, false, cond, eqb, List, [], ◌∷◌, ◌++◌, length, reverse, take, get_or, refl, sym, ap, ◌∙◌, subst, arith}
use Rattle.std.proofs.lemmas.Bool.{ne_eqb, or_from}
use Rattle.std.proofs.lemmas.List.{reverse-append, take_more}
use Rattle.ink_model.specs.Text.Shown.{newline_shown, newlines_before, is_among}
use Rattle.ink_out.proofs.Common.{Mark, Newline, Enters, State, Tracker, piece_mark, mark_of}
use Rattle.ink_out.specs.declared.cutting.Piece.{Piece}
use Rattle.ink_out.specs.declared.cutting.Piece.TheVariants as pieces
use Rattle.ink_out.specs.declared.kept.Form.{Form}
use Rattle.ink_out.specs.declared.kept.Form.TheVariants as forms
use Rattle.ink_out.specs.declared.kept.Words.{Words}
use Rattle.ink_out.specs.Tracks.{Tracks, settled_after, waiting_at}
use Rattle.ink_out.specs.Stands.{more_at, Falling, Stands, Knows, Sees}
use Rattle.ink_out.proofs.Tracking.{or_nothing}

-- ---- the last text or tag

-- a mark that is no text and no tag
pub more_same : (f : Form) (before : List Mark) → ((w : Words) → f ≡ forms.Text w → ⊥) → ((t : List ℕ) → f ≡ forms.Part t → ⊥) → ((t : List ℕ) → f ≡ forms.Tag t → ⊥) → more_at (mark_of f ∷ before) ≡ more_at before
more_same (forms.Text w) before text part tag = absurd (text w refl)
more_same (forms.Part p) before text part tag = absurd (part p refl)
more_same (forms.Tag t) before text part tag = absurd (tag t refl)
more_same f before text part tag = refl

-- ---- the settled newlines

falling_less : (n k : ℕ) (ks : List ℕ) → n ≤ k → Falling n ks → Falling k ks
falling_less n k [] h f = f
falling_less n k (i ∷ ks) h f = let first = f.0 in (omega (arith, first), f.1)

-- the shown newlines fall
newlines_fall : (before after : List Mark) → Falling (length before) (newlines_before before after)
newlines_fall [] after = tt
newlines_fall (Newline ∷ before) after =
    let rest = newlines_fall before (Newline ∷ after) in
    elim (newline_shown before after) as (λ b. Falling (suc (length before)) (cond b (length before ∷ newlines_before before (Newline ∷ after)) (newlines_before before (Newline ∷ after))))
    [ true ↦ (omega arith, rest) | false ↦ falling_less (length before) (suc (length before)) (newlines_before before (Newline ∷ after)) (omega arith) rest ]
newlines_fall (m ∷ before) after = falling_less (length before) (suc (length before)) (newlines_before before (m ∷ after)) (omega arith) (newlines_fall before (m ∷ after))

falling_rest : (n : ℕ) (ks rest : List ℕ) → Falling n (ks ++ rest) → Falling n rest
falling_rest n [] rest f = f
falling_rest n (k ∷ ks) rest f = let first = f.0 in falling_less k n rest (omega (arith, first)) (falling_rest k ks rest f.1)

-- and so do the settled ones among them
pub settled_fall : (before : List Mark) (s : Tracker) (settled : List ℕ) → Tracks before s settled → Falling (length before) settled
settled_fall before s settled t =
    falling_rest (length before) (waiting_at before s.newline []) settled
    (subst (λ (ks : List ℕ). Falling (length before) ks) (t.newlines []) (newlines_fall before []))

among_under : (n i : ℕ) (ks : List ℕ) → n ≤ i → Falling n ks → is_among i ks ≡ false
among_under n i [] h f = refl
among_under n i (k ∷ ks) h f =
    let first = f.0 in
    or_from (eqb i k) (is_among i ks) (ne_eqb i k (λ e. omega (arith, first, e))) (among_under k i ks (omega (arith, first)) f.1)

-- ---- the settled newlines, looked for from the last one on

turned_end : (xs : List ℕ) (end : ℕ) → 0 < end → end ≤ length xs → reverse (take end xs) ≡ get_or xs (end - 1) 0 ∷ reverse (take (end - 1) xs)
turned_end xs end some fits =
    let e : end - 1 + 1 ≡ end = omega arith in
    let more = take_more xs (end - 1) 0 (omega arith) in
    ap reverse (rw e at more) ∙ reverse-append (take (end - 1) xs) (get_or xs (end - 1) 0 ∷ [])

-- where none behind the one that is looked at can be it, this is the one or there is none
pub among_here : (xs : List ℕ) (end i n : ℕ) → 0 < end → end ≤ length xs → Falling n (reverse (take end xs)) → get_or xs (end - 1) 0 ≤ i → eqb i (get_or xs (end - 1) 0) ≡ is_among i (reverse (take end xs))
among_here xs end i n some fits f at =
    let k = get_or xs (end - 1) 0 in
    let rest = reverse (take (end - 1) xs) in
    let is = turned_end xs end some fits in
    let falls : Falling n (k ∷ rest) = subst (λ (ks : List ℕ). Falling n ks) is f in
    sym (ap (is_among i) is ∙ or_nothing (eqb i k) (is_among i rest) (among_under k i rest at falls.1))

-- ---- a section

pub knows_piece : (p : Piece) (enters : Enters) (before : List Mark) → Knows enters before → Knows enters (piece_mark p ∷ before)
knows_piece (pieces.Text t) enters before k = record { starts = k.starts }
knows_piece p enters before k = record { starts = k.starts }

pub sees_more : (marks : List Mark) (settled next_settled : List ℕ) (state next : State) (enters noted : Enters) (m : Mark) → reverse next_settled ≡ settled_after m state.tracker.newline (reverse settled) → (Stands (reverse marks) (reverse settled) state → Stands (m ∷ reverse marks) (settled_after m state.tracker.newline (reverse settled)) next) → Knows noted (m ∷ reverse marks) → Sees marks settled state enters → Sees (marks ++ m ∷ []) next_settled next noted
sees_more marks settled next_settled state next enters noted m same stands knows h =
    let ms = reverse-append marks (m ∷ []) in
    record {
      stands = rw (ms, same) (stands h.stands);
      knows = rw ms knows;
    }
