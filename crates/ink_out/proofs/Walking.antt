-- One more mark under the walk over marks.
use Rattle.std.proofs.Common.{◌≡◌, ℕ, suc, ◌<◌, ◌≤◌, Bool, true, false, not, ◌||◌, ◌&&◌, cond, eqb, nat_lt, List, [], ◌∷◌, ◌++◌, length, Option, None, Some, refl, sym, ap, ◌∙◌, subst, arith, inl, inr}
use Rattle.std.proofs.lemmas.Bool.{cases_Bool, or_left, or_right, or_from, ne_eqb, eqb-true, eq-eqb, lt-ltb, le-ltb, leb-false, lt-leb}
use Rattle.std.proofs.lemmas.List.{append-nil, append_assoc, append_cancel_right, nil_from_length}
use Rattle.ink_model.specs.Text.Shown.{glued, glues, covered, passes, newline_shown, newlines_before, is_among, text_before, written, newline_before}
use Rattle.ink_out.proofs.Common.{Mark, Hides, Waiting, Tracker, Start, Walk, Holds}
use Rattle.ink_model.specs.declared.mark.Mark.TheVariants as kinds
use Rattle.ink_out.specs.declared.pile.Held.{Held}
use Rattle.ink_out.specs.declared.pile.Held.TheVariants.{Blank, Newline}
use Rattle.ink_out.specs.declared.tracker.Hides.TheVariants.{Near, Any, Never}
use Rattle.ink_out.specs.Tracks.{since, hidden_by, waits, waiting_at, reached, reach_of, FitsWaiting, Tracks, settled_by}
use Rattle.std.specs.Borrow.{Bor}
use Rattle.ink_out.specs.declared.cleaning.Shown.{Shown}
use Rattle.ink_out.specs.Stands.{Passes, Passing}
use Rattle.ink_out.specs.Walks.{Walks, held_at, glue_at, held_text, pile_text, left_pile, is_at, now_text, pile_now, Falls}
use Rattle.ink_out.proofs.Covers.{since_more, since_here, passes_reached}
use Rattle.ink_out.proofs.Tracking.{or_nothing}

-- ---- piles

falls_less : (n k : ℕ) (ps : List Held) → n ≤ k → Falls n ps → Falls k ps
falls_less n k [] h f = f
falls_less n k (p ∷ ps) h f = let first = f.0 in (omega (arith, first), f.1)

-- what each of a pile shows is what the pile shows
pile_same : (before after before' after' : List Mark) (w w' : Option Waiting) (n : ℕ) (ps : List Held) → ((p : Held) → held_at p < n → held_text before w p after ≡ held_text before' w' p after') → Falls n ps → pile_text before w ps after ≡ pile_text before' w' ps after'
pile_same before after before' after' w w' n [] h f = refl
pile_same before after before' after' w w' n (p ∷ ps) h f =
    let first = f.0 in
    rw (h p first, pile_same before after before' after' w w' (held_at p) ps (λ q l. h q (omega arith)) f.1) refl

-- ---- any mark but a Text and a Leave

pub record Smooth (m : Mark) (before : List Mark) : Type 0 where
  pub covered : (between after : List Mark) → covered between (m ∷ after) ≡ covered (m ∷ between) after
  pub glue : (at : ℕ) (after : List Mark) → at < length before → (glued (m ∷ after) || nat_lt at (glue_at before)) ≡ (glued after || nat_lt at (glue_at (m ∷ before)))

held_over : (m : Mark) (before after : List Mark) (w w' : Option Waiting) (p : Held) → Smooth m before → ((at : ℕ) → at < length before → is_among at (waiting_at before w (m ∷ after)) ≡ is_among at (waiting_at (m ∷ before) w' after)) → held_at p < length before → held_text before w p (m ∷ after) ≡ held_text (m ∷ before) w' p after
held_over m before after w w' (Blank at r text) s same l =
    rw (since_more m before at l, s.covered (since before at) after, s.glue at after l) refl
held_over m before after w w' (Newline at) s same l = ap (λ b. cond b (10 ∷ []) []) (same at l)

pub pile_over : (m : Mark) (before after : List Mark) (w w' : Option Waiting) (ps : List Held) → Smooth m before → ((at : ℕ) → at < length before → is_among at (waiting_at before w (m ∷ after)) ≡ is_among at (waiting_at (m ∷ before) w' after)) → Falls (length before) ps → pile_text before w ps (m ∷ after) ≡ pile_text (m ∷ before) w' ps after
pile_over m before after w w' ps s same f =
    pile_same before (m ∷ after) (m ∷ before) after w w' (length before) ps (λ p l. held_over m before after w w' p s same l) f

pub smooth_newline : (before : List Mark) → Smooth kinds.Newline before
smooth_newline before = record { covered = λ b after. refl; glue = λ at after l. refl }

pub smooth_glue : (before : List Mark) → Smooth kinds.Glue before
smooth_glue before = record {
  covered = λ b after. refl;
  glue = λ at after l. sym (or_right (glued after) (nat_lt at (length before)) (lt-ltb at (length before) l));
}

-- the newline that waits, before and after a mark that is no Newline
pub same_waiting : (m : Mark) (before after : List Mark) (s s' : Tracker) (settled : List ℕ) → newlines_before (m ∷ before) after ≡ newlines_before before (m ∷ after) → Tracks before s settled → Tracks (m ∷ before) s' settled → waiting_at before s.newline (m ∷ after) ≡ waiting_at (m ∷ before) s'.newline after
same_waiting m before after s s' settled over t t' =
    append_cancel_right (waiting_at before s.newline (m ∷ after)) (waiting_at (m ∷ before) s'.newline after) settled
    (sym (t.newlines (m ∷ after)) ∙ sym over ∙ t'.newlines after)

-- ---- a Newline

one_waits : (before after : List Mark) (o : Option Waiting) → length (waiting_at before o after) ≤ 1
one_waits before after None = omega arith
one_waits before after (Some w) = elim (waits before w after) as (λ b. length (cond b (w.at ∷ []) []) ≤ 1) [ true ↦ omega arith | false ↦ omega arith ]

waits_within : (marks before after : List Mark) (s : Tracker) (o : Option Waiting) (at : ℕ) → FitsWaiting before s o → length before ≤ at → is_among at (waiting_at marks o after) ≡ false
waits_within marks before after s None at f l = refl
waits_within marks before after s (Some w) at f l =
    let within = f.within in
    elim (waits marks w after) as (λ b. is_among at (cond b (w.at ∷ []) []) ≡ false) [
      | true ↦ or_from (eqb at w.at) false (ne_eqb at w.at (λ e. omega arith)) refl
      | false ↦ refl
    ]

-- one that may be put before a list of one at most
put_one : (s : Bool) (n : ℕ) (old new settled : List ℕ) → length new ≤ 1 → is_among n old ≡ false → cond s (n ∷ (old ++ settled)) (old ++ settled) ≡ new ++ settled → (is_among n new ≡ s) × ((at : ℕ) → at < n → is_among at old ≡ is_among at new)
put_one true n old new settled l none e =
    let same : n ∷ old ≡ new = append_cancel_right (n ∷ old) new settled e in
    let len = ap length same in
    let nothing : old ≡ [] = nil_from_length old (omega arith) in (
      rw (sym same) (or_left (eqb n n) (is_among n old) (eq-eqb n n refl)),
      λ at lt. rw (sym same, nothing) (sym (or_from (eqb at n) false (ne_eqb at n (λ q. omega arith)) refl)),
    )
put_one false n old new settled l none e =
    let same : old ≡ new = append_cancel_right old new settled e in
    (ap (is_among n) (sym same) ∙ none, λ at lt. ap (is_among at) same)

newline_waiting : (before after : List Mark) (s s' : Tracker) (settled : List ℕ) → Tracks before s settled → Tracks (kinds.Newline ∷ before) s' settled → (is_among (length before) (waiting_at (kinds.Newline ∷ before) s'.newline after) ≡ newline_shown before after) × ((at : ℕ) → at < length before → is_among at (waiting_at before s.newline (kinds.Newline ∷ after)) ≡ is_among at (waiting_at (kinds.Newline ∷ before) s'.newline after))
newline_waiting before after s s' settled t t' =
    let next = t.newlines (kinds.Newline ∷ after) in
    put_one (newline_shown before after) (length before) (waiting_at before s.newline (kinds.Newline ∷ after)) (waiting_at (kinds.Newline ∷ before) s'.newline after) settled
    (one_waits (kinds.Newline ∷ before) after s'.newline)
    (waits_within before before (kinds.Newline ∷ after) s s.newline (length before) t.fits (omega arith))
    (ap (λ ks. cond (newline_shown before after) (length before ∷ ks) ks) (sym next) ∙ t'.newlines after)

pub pile_newline : (before after : List Mark) (s s' : Tracker) (settled : List ℕ) (ps : List Held) → Tracks before s settled → Tracks (kinds.Newline ∷ before) s' settled → Falls (length before) ps → pile_text before s.newline ps (kinds.Newline ∷ after) ++ written before kinds.Newline after ≡ pile_text (kinds.Newline ∷ before) s'.newline (Newline (length before) ∷ ps) after
pile_newline before after s s' settled ps t t' f =
    let (here, others) = newline_waiting before after s s' settled t t' in
    rw (here, pile_over kinds.Newline before after s.newline s'.newline ps (smooth_newline before) others f) refl

-- ---- a Blank

glue_within : (before : List Mark) → glue_at before ≤ length before
glue_within [] = omega arith
glue_within (kinds.Text t ∷ before) = omega arith
glue_within (kinds.Glue ∷ before) = omega arith
glue_within (m ∷ before) = omega (arith, glue_within before)

-- a Blank is shown as its piece says
blank_here : (before after : List Mark) (w : Option Waiting) (r : Bool) (text : Bor (List ℕ)) → r ≡ newline_before before → held_text (kinds.Blank text.now ∷ before) w (Blank (length before) r text) after ≡ written before (kinds.Blank text.now) after
blank_here before after w r text e =
    let past : nat_lt (length before) (glue_at before) ≡ false = le-ltb (length before) (glue_at before) (glue_within before) in
    let joined = or_nothing (glued after) (nat_lt (length before) (glue_at before)) past in
    let here = since_here (kinds.Blank text.now) before in
    ap (λ ms. cond (not (covered ms after || (r && (glued after || nat_lt (length before) (glue_at before))))) text.now []) here
    ∙ ap (λ b. cond (not (covered [] after || (r && b))) text.now []) joined
    ∙ ap (λ b. cond (not (covered [] after || (b && glued after))) text.now []) e

-- ---- a Leave

left_waiting : (n : Option ℕ) (before after : List Mark) (o : Option Waiting) (at : ℕ) → reached at (reach_of n before) ≡ true → is_among at (waiting_at before o (kinds.Leave n ∷ after)) ≡ false
left_waiting n before after None at e = refl
left_waiting n before after (Some w) at e =
    elim (cases_Bool (eqb at w.at)) [
      | inl same ↦
          let at_w : at ≡ w.at = eqb-true at w.at same in
          let passed : passes n (since before w.at) ≡ true = passes_reached n w.at before ∙ ap (λ i. reached i (reach_of n before)) (sym at_w) ∙ e in
          let hid : waits before w (kinds.Leave n ∷ after) ≡ false =
          ap (λ b. not (hidden_by w.hides (kinds.Leave n ∷ after) || (b || covered (kinds.Leave n ∷ since before w.at) after))) passed
          ∙ ap not (or_right (hidden_by w.hides (kinds.Leave n ∷ after)) true refl) in
          ap (λ b. is_among at (cond b (w.at ∷ []) [])) hid
      | inr other ↦
          elim (waits before w (kinds.Leave n ∷ after)) as (λ b. is_among at (cond b (w.at ∷ []) []) ≡ false)
          [ true ↦ or_from (eqb at w.at) false other refl | false ↦ refl ]
    ]

held_gone : (n : Option ℕ) (before after : List Mark) (w : Option Waiting) (p : Held) → reached (held_at p) (reach_of n before) ≡ true → held_text before w p (kinds.Leave n ∷ after) ≡ []
held_gone n before after w (Blank at r text) e =
    ap (λ b. cond (not ((b || covered (kinds.Leave n ∷ since before at) after) || (r && (glued after || nat_lt at (glue_at before))))) text.now []) (passes_reached n at before ∙ e)
held_gone n before after w (Newline at) e = ap (λ b. cond b (10 ∷ []) []) (left_waiting n before after w at e)

held_kept : (n : Option ℕ) (before after : List Mark) (w w' : Option Waiting) (p : Held) → waiting_at before w (kinds.Leave n ∷ after) ≡ waiting_at (kinds.Leave n ∷ before) w' after → held_at p < length before → reached (held_at p) (reach_of n before) ≡ false → held_text before w p (kinds.Leave n ∷ after) ≡ held_text (kinds.Leave n ∷ before) w' p after
held_kept n before after w w' (Blank at r text) same l e =
    ap (λ b. cond (not ((b || covered (kinds.Leave n ∷ since before at) after) || (r && (glued after || nat_lt at (glue_at before))))) text.now []) (passes_reached n at before ∙ e)
    ∙ ap (λ ms. cond (not (covered ms after || (r && (glued after || nat_lt at (glue_at before))))) text.now []) (sym (since_more (kinds.Leave n) before at l))
held_kept n before after w w' (Newline at) same l e = ap (λ ks. cond (is_among at ks) (10 ∷ []) []) same

-- what is not reached has nothing below that is
unreached : (at k : ℕ) (reach : Option ℕ) → k ≤ at → reached at reach ≡ false → reached k reach ≡ false
unreached at k None l e = e
unreached at k (Some enter) l e = let above = leb-false enter at e in lt-leb enter k (omega arith)

pub pile_left : (n : Option ℕ) (before after : List Mark) (w w' : Option Waiting) (k : ℕ) (ps : List Held) → waiting_at before w (kinds.Leave n ∷ after) ≡ waiting_at (kinds.Leave n ∷ before) w' after → k ≤ length before → Falls k ps → pile_text before w ps (kinds.Leave n ∷ after) ≡ pile_text (kinds.Leave n ∷ before) w' (left_pile (reach_of n before) ps) after
pile_left n before after w w' k [] same l f = refl
pile_left n before after w w' k (p ∷ ps) same l f =
    let first = f.0 in
    elim (cases_Bool (reached (held_at p) (reach_of n before))) [
      | inl e ↦
          ap (λ cs. pile_text before w ps (kinds.Leave n ∷ after) ++ cs) (held_gone n before after w p e)
          ∙ append-nil (pile_text before w ps (kinds.Leave n ∷ after))
          ∙ pile_left n before after w w' (held_at p) ps same (omega arith) f.1
          ∙ ap (λ b. pile_text (kinds.Leave n ∷ before) w' (cond b (left_pile (reach_of n before) ps) (p ∷ ps)) after) (sym e)
      | inr e ↦
          pile_same before (kinds.Leave n ∷ after) (kinds.Leave n ∷ before) after w w' (suc (held_at p)) (p ∷ ps)
          (λ q lt. held_kept n before after w w' q same (omega arith) (unreached (held_at p) (held_at q) (reach_of n before) (omega arith) e))
          (omega arith, f.1)
          ∙ ap (λ b. pile_text (kinds.Leave n ∷ before) w' (cond b (left_pile (reach_of n before) ps) (p ∷ ps)) after) (sym e)
    ]

pub left_falls : (reach : Option ℕ) (k : ℕ) (ps : List Held) → Falls k ps → Falls k (left_pile reach ps)
left_falls reach k [] f = f
left_falls reach k (p ∷ ps) f =
    let first = f.0 in
    elim (reached (held_at p) reach) as (λ b. Falls k (cond b (left_pile reach ps) (p ∷ ps))) [
      | true ↦ falls_less (held_at p) k (left_pile reach ps) (omega arith) (left_falls reach (held_at p) ps f.1)
      | false ↦ f
    ]

-- ---- where nothing more hides any

-- marks after which nothing before is hidden any more
record Quiet (after : List Mark) : Type 0 where
  covered : (between : List Mark) → covered between after ≡ false
  glues : glues after ≡ false
  joins : glued after ≡ false

unhidden : (h : Hides) (after : List Mark) → Quiet after → hidden_by h after ≡ false
unhidden Near after q = q.glues
unhidden Any after q = q.joins
unhidden Never after q = refl

quiet_waits : (before after : List Mark) (w : Waiting) → Quiet after → waits before w after ≡ true
quiet_waits before after w q = rw (unhidden w.hides after q, q.covered (since before w.at)) refl

quiet_newline : (before after : List Mark) (o : Option Waiting) (at : ℕ) → Quiet after → is_among at (waiting_at before o after) ≡ is_at at o
quiet_newline before after None at q = refl
quiet_newline before after (Some w) at q = ap (λ b. is_among at (cond b (w.at ∷ []) [])) (quiet_waits before after w q) ∙ or_nothing (eqb at w.at) false refl

quiet_held : (before after : List Mark) (o : Option Waiting) (p : Held) → Quiet after → held_text before o p after ≡ now_text o (glue_at before) p
quiet_held before after o (Blank at r text) q =
    rw (q.covered (since before at), q.joins)
    (elim (r && nat_lt at (glue_at before)) as (λ b. cond (not b) text.now [] ≡ cond b [] text.now) [ true ↦ refl | false ↦ refl ])
quiet_held before after o (Newline at) q = ap (λ b. cond b (10 ∷ []) []) (quiet_newline before after o at q)

quiet_pile : (before after : List Mark) (o : Option Waiting) (ps : List Held) → Quiet after → pile_text before o ps after ≡ pile_now o (glue_at before) ps
quiet_pile before after o [] q = refl
quiet_pile before after o (p ∷ ps) q = rw (quiet_pile before after o ps q, quiet_held before after o p q) refl

-- ---- the walk

pub walk_plain : {cleans : Bool} {starts : List Start} → (m : Mark) (before : List Mark) (w : Walk) (next : Tracker) (passed : Passing) (glue : ℕ) → Smooth m before → ((after : List Mark) → newlines_before (m ∷ before) after ≡ newlines_before before (m ∷ after)) → ((after : List Mark) → text_before (m ∷ before) after ≡ text_before before (m ∷ after)) → (w.glue ≡ glue_at before → glue ≡ glue_at (m ∷ before)) → Passes starts passed (m ∷ before) → ((settled : List ℕ) → Tracks before w.tracker settled → Tracks (m ∷ before) next settled) → Walks cleans starts before w → Walks cleans starts (m ∷ before) record { tracker = next; passed = passed; glue = glue; held = w.held; shown = w.shown }
walk_plain m before w next passed glue smooth over texts g knows tracks k =
    let t' = tracks k.settled k.tracks in
    record {
      settled = k.settled;
      written = k.written;
      holds = k.holds;
      tracks = t';
      knows = knows;
      glue = g k.glue;
      falls = falls_less (length before) (suc (length before)) w.held (omega arith) k.falls;
      text = λ after.
          texts after ∙ k.text (m ∷ after)
          ∙ ap (λ cs. k.written ++ cs)
          (pile_over m before after w.tracker.newline next.newline w.held smooth
          (λ at l. ap (is_among at) (same_waiting m before after w.tracker next k.settled (over after) k.tracks t')) k.falls);
    }

-- one more that waits
walk_held : {cleans : Bool} {starts : List Start} → (m : Mark) (before : List Mark) (w : Walk) (next : Tracker) (p : Held) → held_at p ≡ length before → glue_at (m ∷ before) ≡ glue_at before → Passes starts w.passed (m ∷ before) → (settled : List ℕ) → Tracks (m ∷ before) next settled → ((after : List Mark) → text_before (m ∷ before) after ≡ text_before before (m ∷ after) ++ written before m after) → ((after : List Mark) → pile_text before w.tracker.newline w.held (m ∷ after) ++ written before m after ≡ pile_text (m ∷ before) next.newline (p ∷ w.held) after) → Walks cleans starts before w → Walks cleans starts (m ∷ before) record { tracker = next; passed = w.passed; glue = w.glue; held = p ∷ w.held; shown = w.shown }
walk_held m before w next p at glued knows settled tracks shows piles k =
    record {
      settled = settled;
      written = k.written;
      holds = k.holds;
      tracks = tracks;
      knows = knows;
      glue = k.glue ∙ sym glued;
      falls = (omega arith, subst (λ n. Falls n w.held) (sym at) k.falls);
      text = λ after.
          shows after
          ∙ ap (λ cs. cs ++ written before m after) (k.text (m ∷ after))
          ∙ append_assoc (k.written) (pile_text before w.tracker.newline w.held (m ∷ after)) (written before m after)
          ∙ ap (λ cs. k.written ++ cs) (piles after);
    }

pub walk_blank : {cleans : Bool} {starts : List Start} → (before : List Mark) (w : Walk) (next : Tracker) (at : ℕ) (text : Bor (List ℕ)) → at ≡ length before → ((settled : List ℕ) → Tracks before w.tracker settled → Tracks (kinds.Blank text.now ∷ before) next settled) → Walks cleans starts before w → Walks cleans starts (kinds.Blank text.now ∷ before) record { tracker = next; passed = w.passed; glue = w.glue; held = Blank at w.tracker.broken text ∷ w.held; shown = w.shown }
walk_blank before w next at text here tracks k =
    let m = kinds.Blank text.now in
    let t' = tracks k.settled k.tracks in
    let piles : (after : List Mark) → pile_text before w.tracker.newline w.held (m ∷ after) ++ written before m after ≡ pile_text (m ∷ before) next.newline (Blank (length before) w.tracker.broken text ∷ w.held) after =
    λ after. rw (
      blank_here before after next.newline w.tracker.broken text k.tracks.breaks,
      sym (pile_over m before after w.tracker.newline next.newline w.held record { covered = λ b after. refl; glue = λ at after l. refl }
          (λ at l. ap (is_among at) (same_waiting m before after w.tracker next k.settled refl k.tracks t')) k.falls),
    ) refl in
    rw here (walk_held m before w next (Blank (length before) w.tracker.broken text) refl refl record { same = k.knows.same; count = k.knows.count } k.settled t' (λ after. refl) piles k)

pub walk_newline : {cleans : Bool} {starts : List Start} → (before : List Mark) (w : Walk) (next : Tracker) (at : ℕ) → at ≡ length before → ((settled : List ℕ) → Tracks before w.tracker settled → Tracks (kinds.Newline ∷ before) next settled) → Walks cleans starts before w → Walks cleans starts (kinds.Newline ∷ before) record { tracker = next; passed = w.passed; glue = w.glue; held = Newline at ∷ w.held; shown = w.shown }
walk_newline before w next at here tracks k =
    let t' = tracks k.settled k.tracks in
    rw here (walk_held kinds.Newline before w next (Newline (length before)) refl refl record { same = k.knows.same; count = k.knows.count } k.settled t' (λ after. refl)
    (λ after. pile_newline before after w.tracker next k.settled w.held k.tracks t' k.falls) k)

-- the walk past a newline, by the walk that is left but for the tracker
abbrev pub Past : Bool → List Start → List Mark → Tracker → Walk → Type 0
Past cleans starts before next w = ((settled : List ℕ) → Tracks before w.tracker settled → Tracks (kinds.Newline ∷ before) next settled) → Walks cleans starts (kinds.Newline ∷ before) record { tracker = next; passed = w.passed; glue = w.glue; held = w.held; shown = w.shown }

-- one behind a newline that waits, which is not shown
pub walk_behind : {cleans : Bool} {starts : List Start} → (before : List Mark) (w : Walk) (next : Tracker) → next.newline ≡ w.tracker.newline → ((settled : List ℕ) → Tracks before w.tracker settled → Tracks (kinds.Newline ∷ before) next settled) → Walks cleans starts before w → Walks cleans starts (kinds.Newline ∷ before) record { tracker = next; passed = w.passed; glue = w.glue; held = w.held; shown = w.shown }
walk_behind before w next same tracks k =
    let t' = tracks k.settled k.tracks in
    let over : (after : List Mark) → (is_among (length before) (waiting_at (kinds.Newline ∷ before) next.newline after) ≡ newline_shown before after) × ((at : ℕ) → at < length before → is_among at (waiting_at before w.tracker.newline (kinds.Newline ∷ after)) ≡ is_among at (waiting_at (kinds.Newline ∷ before) next.newline after)) =
    λ after. newline_waiting before after w.tracker next k.settled k.tracks t' in
    let hidden : (after : List Mark) → newline_shown before after ≡ false =
    λ after. sym (over after).0
    ∙ ap (λ o. is_among (length before) (waiting_at (kinds.Newline ∷ before) o after)) same
    ∙ waits_within (kinds.Newline ∷ before) before after w.tracker w.tracker.newline (length before) k.tracks.fits (omega arith) in
    record {
      settled = k.settled;
      written = k.written;
      holds = k.holds;
      tracks = t';
      knows = record { same = k.knows.same; count = k.knows.count };
      glue = k.glue;
      falls = falls_less (length before) (suc (length before)) w.held (omega arith) k.falls;
      text = λ after.
          ap (λ b. text_before before (kinds.Newline ∷ after) ++ cond b (10 ∷ []) []) (hidden after)
          ∙ append-nil (text_before before (kinds.Newline ∷ after))
          ∙ k.text (kinds.Newline ∷ after)
          ∙ ap (λ cs. k.written ++ cs) (pile_over kinds.Newline before after w.tracker.newline next.newline w.held (smooth_newline before) (over after).1 k.falls);
    }

pub walk_leave : {cleans : Bool} {starts : List Start} → (n : Option ℕ) (before : List Mark) (w : Walk) (next : Tracker) (reach : Option ℕ) → reach ≡ reach_of n before → ((settled : List ℕ) → Tracks before w.tracker settled → Tracks (kinds.Leave n ∷ before) next settled) → Walks cleans starts before w → Walks cleans starts (kinds.Leave n ∷ before) record { tracker = next; passed = w.passed; glue = w.glue; held = left_pile reach w.held; shown = w.shown }
walk_leave n before w next reach e tracks k =
    let m = kinds.Leave n in
    let t' = tracks k.settled k.tracks in
    rw e
    record {
      settled = k.settled;
      written = k.written;
      holds = k.holds;
      tracks = t';
      knows = record { same = k.knows.same; count = k.knows.count };
      glue = k.glue;
      falls = falls_less (length before) (suc (length before)) (left_pile (reach_of n before) w.held) (omega arith) (left_falls (reach_of n before) (length before) w.held k.falls);
      text = λ after.
          append-nil (text_before before (m ∷ after))
          ∙ k.text (m ∷ after)
          ∙ ap (λ cs. k.written ++ cs)
          (pile_left n before after w.tracker.newline next.newline (length before) w.held (same_waiting m before after w.tracker next k.settled refl k.tracks t') (omega arith) k.falls);
    }

pub walk_text : {cleans : Bool} {starts : List Start} → (before : List Mark) (w : Walk) (shown : Shown) (next : Tracker) (text : List ℕ) → ((written : List ℕ) → Holds cleans w.shown written → Holds cleans shown ((written ++ pile_now w.tracker.newline w.glue w.held) ++ text)) → ((settled : List ℕ) → Tracks before w.tracker settled → Tracks (kinds.Text text ∷ before) next (settled_by w.tracker.newline settled)) → Walks cleans starts before w → Walks cleans starts (kinds.Text text ∷ before) record { tracker = next; passed = w.passed; glue = 0; held = []; shown = shown }
walk_text before w shown next text holds tracks k =
    let written = (k.written ++ pile_now w.tracker.newline w.glue w.held) ++ text in
    record {
      settled = settled_by w.tracker.newline k.settled;
      written = written;
      holds = holds k.written k.holds;
      tracks = tracks k.settled k.tracks;
      knows = record { same = k.knows.same; count = k.knows.count };
      glue = refl;
      falls = tt;
      text = λ after.
          ap (λ cs. cs ++ text)
          (k.text (kinds.Text text ∷ after)
          ∙ ap (λ cs. k.written ++ cs) (quiet_pile before (kinds.Text text ∷ after) w.tracker.newline w.held record { covered = λ b. refl; glues = refl; joins = refl } ∙ ap (λ g. pile_now w.tracker.newline g w.held) (sym k.glue)))
          ∙ sym (append-nil written);
    }

-- what was written, and what waits, is all that is shown
pub walk_end : {cleans : Bool} {starts : List Start} → (before : List Mark) (w : Walk) (k : Walks cleans starts before w) → k.written ++ pile_now w.tracker.newline w.glue w.held ≡ text_before before []
walk_end before w k =
    ap (λ g. k.written ++ pile_now w.tracker.newline g w.held) k.glue
    ∙ ap (λ cs. k.written ++ cs) (sym (quiet_pile before [] w.tracker.newline w.held record { covered = λ b. refl; glues = refl; joins = refl }))
    ∙ sym (k.text [])
