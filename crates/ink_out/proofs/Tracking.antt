-- One more mark under a tracker.
use Rattle.std.proofs.Common.{◌≡◌, ℕ, ◌<◌, Bool, true, false, not, ◌||◌, ◌&&◌, cond, if◌then◌else◌, List, [], ◌∷◌, ◌++◌, length, Option, None, Some, refl, sym, ap, ◌∙◌, subst, arith, inl, inr}
use Rattle.std.specs.Option.{is_some}
use Rattle.std.proofs.lemmas.Bool.{cases_Bool, or_parts, or_right, not-true, false≢true}
use Rattle.std.proofs.Math.Bool.{and-true}
use Rattle.ink_model.specs.Text.Shown.{glued, newline_before, glues, covered, shown_before, unhidden_newline, newline_last, newlines_before, has_more}
use Rattle.ink_out.proofs.Common.{Mark, Hides, Waiting, Tracker}
use Rattle.ink_model.specs.declared.mark.Mark.TheVariants.{Text, Blank, Newline, Glue, Tag, Leave}
use Rattle.ink_out.specs.declared.tracker.Hides.TheVariants.{Near, Any, Never}
use Rattle.ink_out.specs.declared.tracker.First.{First}
use Rattle.ink_out.specs.Tracks.{since, hidden_by, waits, waiting, waiting_at, IsBroken, FitsNewline, FitsWaiting, stays, FitsBlank, FitsFirst, Tracks, reach_of, reached}
use Rattle.ink_out.specs.Next.{hides_behind, hides_next, newline_left, blank_left}
use Rattle.ink_out.proofs.Covers.{uncovered, since_more, since_here, passes_reached}

-- ---- tests

hidden_behind : (c s e : Bool) → (c ≡ true → s ≡ true → e ≡ true) → (c && (s && not e)) ≡ false
hidden_behind true true false h = absurd (false≢true (h refl refl))
hidden_behind c s e h = refl

same_behind : (c s e : Bool) → (c ≡ true → s ≡ true → e ≡ true) → ((c && s) || e) ≡ e
same_behind true true false h = absurd (false≢true (h refl refl))
same_behind c s e h = refl

-- nothing that follows hides it yet
pub hidden_now : (h : Hides) → hidden_by h [] ≡ false
hidden_now Near = refl
hidden_now h = refl

-- ---- a newline while one waits

unjoined : (before after : List Mark) (o : Option First) → IsBroken o → stays before o (Newline ∷ after) ≡ true → glued after ≡ false
unjoined before after None b e = absurd (false≢true e)
unjoined before after (Some f) b e =
    let (c, j) = or_parts (covered (since before f.at) (Newline ∷ after)) (f.broken && glued after) (not-true (covered (since before f.at) (Newline ∷ after) || (f.broken && glued after)) e) in
    rw b at j

unhidden : (before after : List Mark) (t : Bool) (o : Option First) (h : Hides) → (h ≡ Any → (t ≡ false) × IsBroken o) → glues after ≡ false → (t || stays before o (Newline ∷ after)) ≡ true → hidden_by h (Newline ∷ after) ≡ false
unhidden before after t o Near any g e = g
unhidden before after t o Never any g e = refl
unhidden before after t o Any any g e =
    let (textless, b) = any refl in
    unjoined before after o b (rw textless at e)

-- a newline behind one that waits shows it is waiting
pub behind : (before after : List Mark) (s : Tracker) (settled : List ℕ) (w : Waiting) → Tracks before s settled → FitsNewline before s w → unhidden_newline before after ≡ true → shown_before before (Newline ∷ after) ≡ true → waits before w (Newline ∷ after) ≡ true
behind before after s settled w t fits c e =
    let (g, r) = or_parts (glued before) (glues after || covered [] after) (not-true (glued before || (glues after || covered [] after)) c) in
    let (near, cov) = or_parts (glues after) (covered [] after) r in
    let u = unhidden before after s.text s.blank w.hides fits.any near (sym (t.some (Newline ∷ after)) ∙ e) in
    let v : covered (since before w.at) (Newline ∷ after) ≡ false = uncovered (Newline ∷ since before w.at) after cov in
    rw (u, v) refl

-- a mark that hides nothing before it
pub record Plain (m : Mark) : Type 0 where
  pub glues : (after : List Mark) → glues (m ∷ after) ≡ glues after
  pub joins : (after : List Mark) → glued (m ∷ after) ≡ glued after
  pub covered : (between after : List Mark) → covered between (m ∷ after) ≡ covered (m ∷ between) after

pub plain_newline : Plain Newline
plain_newline = record { glues = λ after. refl; joins = λ after. refl; covered = λ between after. refl }

pub plain_blank : (t : List ℕ) → Plain (Blank t)
plain_blank t = record { glues = λ after. refl; joins = λ after. refl; covered = λ between after. refl }

hidden_over : (m : Mark) → Plain m → (h : Hides) (after : List Mark) → hidden_by h (m ∷ after) ≡ hidden_by h after
hidden_over m p Near after = p.glues after
hidden_over m p Any after = p.joins after
hidden_over m p Never after = refl

waits_over : (m : Mark) → Plain m → (before after : List Mark) (w : Waiting) → w.at < length before → waits (m ∷ before) w after ≡ waits before w (m ∷ after)
waits_over m p before after w h = rw (since_more m before w.at h, hidden_over m p w.hides after, p.covered (since before w.at) after) refl

pub stays_over : (m : Mark) → Plain m → (before after : List Mark) (s : Tracker) (o : Option First) → FitsFirst before s o → stays (m ∷ before) o after ≡ stays before o (m ∷ after)
stays_over m p before after s None f = refl
stays_over m p before after s (Some b) f = rw (since_more m before b.at f.within, p.joins after, p.covered (since before b.at) after) refl

waiting_over : (m : Mark) → Plain m → (before after : List Mark) (s : Tracker) (o : Option Waiting) → FitsWaiting before s o → waiting (m ∷ before) o after ≡ waiting before o (m ∷ after)
waiting_over m p before after s None f = refl
waiting_over m p before after s (Some w) f = waits_over m p before after w f.within

waiting_at_over : (m : Mark) → Plain m → (before after : List Mark) (s : Tracker) (o : Option Waiting) → FitsWaiting before s o → waiting_at (m ∷ before) o after ≡ waiting_at before o (m ∷ after)
waiting_at_over m p before after s None f = refl
waiting_at_over m p before after s (Some w) f = ap (λ b. cond b (w.at ∷ []) []) (waits_over m p before after w f.within)

-- the newline that waits goes on waiting
pub waiting_kept : (m : Mark) → Plain m → (before after : List Mark) (s : Tracker) (settled : List ℕ) → Tracks before s settled → (newlines_before before (m ∷ after) ≡ waiting_at (m ∷ before) s.newline after ++ settled) × (newline_last before (m ∷ after) ≡ waiting (m ∷ before) s.newline after)
waiting_kept m p before after s settled t = (
  t.newlines (m ∷ after) ∙ ap (λ ks. ks ++ settled) (sym (waiting_at_over m p before after s s.newline t.fits)),
  t.ends (m ∷ after) ∙ sym (waiting_over m p before after s s.newline t.fits),
)

pub first_over : (m : Mark) (before : List Mark) (s r : Tracker) (o : Option First) → r.text ≡ s.text → (s.broken ≡ true → r.broken ≡ true) → FitsFirst before s o → FitsFirst (m ∷ before) r o
first_over m before s r None e b f = f
first_over m before s r (Some o) e b f =
    let w = f.within in
    record { within = omega (arith, w); breaks = λ h. b (f.breaks h); textless = e ∙ f.textless }

value_of : (o : Option Waiting) → is_some o ≡ true → (w : Waiting) × (o ≡ Some w)
value_of None h = absurd (false≢true h)
value_of (Some w) h = (w, refl)

pub newline_more : (before : List Mark) (s : Tracker) (settled : List ℕ) → is_some s.newline ≡ true → Tracks before s settled → Tracks (Newline ∷ before) s settled
newline_more before s settled h t =
    let (w, is) = value_of s.newline h in
    let fits : FitsNewline before s w = subst (λ o. FitsWaiting before s o) is t.fits in
    let within = fits.within in
    let over : (after : List Mark) → waits (Newline ∷ before) w after ≡ waits before w (Newline ∷ after) = λ after. waits_over Newline plain_newline before after w within in
    let hid : (after : List Mark) → unhidden_newline before after ≡ true → shown_before before (Newline ∷ after) ≡ true → newline_last before (Newline ∷ after) ≡ true =
    λ after c e. t.ends (Newline ∷ after) ∙ rw is (behind before after s settled w t fits c e) in
    let new : FitsNewline (Newline ∷ before) s w =
    record { within = omega (arith, within); breaks = fits.breaks; any = fits.any; tagged = rw (since_more Newline before w.at within) fits.tagged } in
    record {
      text = t.text;
      glue = t.glue;
      breaks = fits.breaks;
      fits = subst (λ o. FitsWaiting (Newline ∷ before) s o) (sym is) new;
      first = first_over Newline before s s s.blank refl (λ h. h) t.first;
      newlines = λ after.
          rw (hidden_behind (unhidden_newline before after) (shown_before before (Newline ∷ after)) (newline_last before (Newline ∷ after)) (hid after))
          (t.newlines (Newline ∷ after) ∙ rw (is, over after) refl);
      ends = λ after.
          same_behind (unhidden_newline before after) (shown_before before (Newline ∷ after)) (newline_last before (Newline ∷ after)) (hid after)
          ∙ t.ends (Newline ∷ after) ∙ rw (is, over after) refl;
      some = λ after. t.some (Newline ∷ after) ∙ ap (λ b. s.text || b) (sym (stays_over Newline plain_newline before after s s.blank t.first));
    }

-- ---- a newline that may wait

pub bare : (x y : Bool) (e : Bool) → e ≡ false → (x && (y && not e)) ≡ (x && y)
bare true true e h = rw h refl
bare x y e h = refl

pub or_nothing : (x e : Bool) → e ≡ false → (x || e) ≡ x
or_nothing true e h = refl
or_nothing false e h = h

put_before : (b : Bool) (k : ℕ) (ks : List ℕ) → cond b (k ∷ ks) ks ≡ cond b (k ∷ []) [] ++ ks
put_before true k ks = refl
put_before false k ks = refl

joins_of_glues : (after : List Mark) → glued after ≡ false → glues after ≡ false
joins_of_glues [] h = refl
joins_of_glues (Text t ∷ after) h = refl
joins_of_glues (Tag t ∷ after) h = refl
joins_of_glues (Glue ∷ after) h = h
joins_of_glues (m ∷ after) h = joins_of_glues after h

-- where nothing covers, the same holds of the marks behind the first blank
near_shown : (x c d : Bool) → (c ≡ false → d ≡ false) → (not (x || c) && not (d || false)) ≡ not (x || c)
near_shown false false d h = rw (h refl) refl
near_shown x c d h = refl

any_shown : (x c d j : Bool) → (c ≡ false → d ≡ false) → (j ≡ false → x ≡ false) → (not (x || c) && not (d || j)) ≡ not (j || c)
any_shown x true d true h k = elim x as (λ y. (not (y || true) && not (d || true)) ≡ false) [ true ↦ refl | false ↦ refl ]
any_shown x true d false h k = rw (k refl) refl
any_shown x false d true h k = rw (h refl) (elim x as (λ y. (not (y || false) && false) ≡ false) [ true ↦ refl | false ↦ refl ])
any_shown x false d false h k = rw (h refl, k refl) refl

first_shown : (b : First) (before after : List Mark) → (not (glues after || covered [] after) && stays before (Some b) (Newline ∷ after)) ≡ not (hidden_by (if b.broken then Any else Near) after || covered [] after)
first_shown b before after =
    elim b.broken as (λ r. (not (glues after || covered [] after) && not (covered (since before b.at) (Newline ∷ after) || (r && glued after))) ≡ not (hidden_by (cond r Any Near) after || covered [] after)) [
      | true ↦ any_shown (glues after) (covered [] after) (covered (Newline ∷ since before b.at) after) (glued after) (uncovered (Newline ∷ since before b.at) after) (joins_of_glues after)
      | false ↦ near_shown (glues after) (covered [] after) (covered (Newline ∷ since before b.at) after) (uncovered (Newline ∷ since before b.at) after)
    ]

next_shown : (g t : Bool) (o : Option First) (hides : Hides) (before after : List Mark) → (if g then None else (if t then Some Near else hides_behind o)) ≡ Some hides → (not (g || (glues after || covered [] after)) && (t || stays before o (Newline ∷ after))) ≡ not (hidden_by hides after || covered [] after)
next_shown true t o hides before after h = cc
next_shown false true o hides before after h =
    let e : Near ≡ hides = cc in
    subst (λ k. (not (glues after || covered [] after) && true) ≡ not (hidden_by k after || covered [] after)) e (and-true (not (glues after || covered [] after)))
next_shown false false None hides before after h = cc
next_shown false false (Some b) hides before after h =
    let e : (if b.broken then Any else Near) ≡ hides = cc in
    subst (λ k. (not (glues after || covered [] after) && stays before (Some b) (Newline ∷ after)) ≡ not (hidden_by k after || covered [] after)) e (first_shown b before after)

next_any : (g t : Bool) (o : Option First) (hides : Hides) → (if g then None else (if t then Some Near else hides_behind o)) ≡ Some hides → hides ≡ Any → (t ≡ false) × IsBroken o
next_any false false (Some b) hides h a =
    (refl, elim (cases_Bool b.broken) [ inl e ↦ e | inr e ↦ let k : Some (cond b.broken Any Near) ≡ Some Any = cc in let l = rw e at k in cc ])
next_any g t o hides h a = cc

pub newline_next : (before : List Mark) (s : Tracker) (settled : List ℕ) (hides : Hides) → s.newline ≡ None → hides_next s ≡ Some hides → Tracks before s settled → Tracks (Newline ∷ before) record s { broken = true; newline = Some record { at = length before; hides = hides; tagged = false } } settled
newline_next before s settled hides is h t =
    let shown : (after : List Mark) → (unhidden_newline before after && shown_before before (Newline ∷ after)) ≡ not (hidden_by hides after || covered [] after) =
    λ after. rw (sym t.glue, t.some) (next_shown s.glue s.text s.blank hides before after h) in
    let unended : (after : List Mark) → newline_last before (Newline ∷ after) ≡ false = λ after. t.ends (Newline ∷ after) ∙ rw is refl in
    let rest : (after : List Mark) → newlines_before before (Newline ∷ after) ≡ settled = λ after. t.newlines (Newline ∷ after) ∙ rw is refl in
    record {
      text = t.text;
      glue = t.glue;
      breaks = refl;
      fits = record { within = omega arith; breaks = refl; any = next_any s.glue s.text s.blank hides h; tagged = rw since_here refl };
      first = first_over Newline before s record s { broken = true; newline = Some record { at = length before; hides = hides; tagged = false } } s.blank refl (λ _. refl) t.first;
      newlines = λ after.
          rw (bare (unhidden_newline before after) (shown_before before (Newline ∷ after)) (newline_last before (Newline ∷ after)) (unended after), shown after, rest after, since_here)
          (put_before (not (hidden_by hides after || covered [] after)) (length before) settled);
      ends = λ after.
          or_nothing (unhidden_newline before after && shown_before before (Newline ∷ after)) (newline_last before (Newline ∷ after)) (unended after)
          ∙ shown after ∙ rw since_here refl;
      some = λ after. t.some (Newline ∷ after) ∙ ap (λ b. s.text || b) (sym (stays_over Newline plain_newline before after s s.blank t.first));
    }

-- ---- a blank behind a text or the first blank

last_of : (x y : Bool) → (x ≡ true → y ≡ true) → (x || y) ≡ y
last_of true y h = sym (h refl)
last_of false y h = refl

some_blank : (a before after : List Mark) (s : Tracker) (b : First) → FitsBlank before s b → s.broken ≡ newline_before before → not (covered [] after || (newline_before before && glued after)) ≡ true → not (covered a after || (b.broken && glued after)) ≡ true
some_blank a before after s b f e h =
    let (c, j) = or_parts (covered [] after) (newline_before before && glued after) (not-true (covered [] after || (newline_before before && glued after)) h) in
    let u = uncovered a after c in
    let k : (b.broken && glued after) ≡ false =
    elim (cases_Bool b.broken) [
      | inl r ↦ let q : newline_before before ≡ true = sym e ∙ f.breaks r in rw r (rw q at j)
      | inr r ↦ rw r refl
    ] in
    rw (u, k) refl

pub fits_over : (m : Mark) (before : List Mark) (s : Tracker) (o : Option Waiting) → ((ms : List Mark) → has_more (m ∷ ms) ≡ has_more ms) → FitsWaiting before s o → FitsWaiting (m ∷ before) s o
fits_over m before s None h f = f
fits_over m before s (Some w) h f =
    let within = f.within in
    record { within = omega (arith, within); breaks = f.breaks; any = f.any; tagged = f.tagged ∙ sym (h (since before w.at)) ∙ ap has_more (sym (since_more m before w.at within)) }

blank_after : (m : Mark) (before after : List Mark) (s : Tracker) (o : Option First) → FitsFirst before s o → s.broken ≡ newline_before before → (s.text || is_some o) ≡ true → not (covered [] after || (newline_before before && glued after)) ≡ true → (s.text || stays (m ∷ before) o after) ≡ true
blank_after m before after s None f e h k = h
blank_after m before after s (Some b) f e h k = rw (some_blank (since (m ∷ before) b.at) before after s b f e k) (or_right s.text true refl)

pub blank_more : (before : List Mark) (text : List ℕ) (s : Tracker) (settled : List ℕ) → (s.text || is_some s.blank) ≡ true → Tracks before s settled → Tracks (Blank text ∷ before) s settled
blank_more before text s settled h t =
    let m = Blank text in
    let p = plain_blank text in
    record {
      text = t.text;
      glue = t.glue;
      breaks = t.breaks;
      fits = fits_over m before s s.newline (λ ms. refl) t.fits;
      first = first_over m before s s s.blank refl (λ h. h) t.first;
      newlines = λ after. (waiting_kept m p before after s settled t).0;
      ends = λ after. (waiting_kept m p before after s settled t).1;
      some = λ after.
          let over = sym (stays_over m p before after s s.blank t.first) in
          ap (λ b. not (covered [] after || (newline_before before && glued after)) || b) (t.some (m ∷ after) ∙ ap (λ b. s.text || b) over)
          ∙ last_of (not (covered [] after || (newline_before before && glued after))) (s.text || stays (m ∷ before) s.blank after)
          (λ k. blank_after m before after s s.blank t.first t.breaks h k);
    }

-- ---- the end of a function's text

left_hidden : (n : Option ℕ) (after : List Mark) (h : Hides) → hidden_by h (Leave n ∷ after) ≡ hidden_by h after
left_hidden n after Near = refl
left_hidden n after h = refl

left_waiting : (n : Option ℕ) (before after : List Mark) (s : Tracker) (o : Option Waiting) → FitsWaiting before s o → (waiting before o (Leave n ∷ after) ≡ waiting (Leave n ∷ before) (newline_left o (reach_of n before)) after) × (waiting_at before o (Leave n ∷ after) ≡ waiting_at (Leave n ∷ before) (newline_left o (reach_of n before)) after)
left_waiting n before after s None f = (refl, refl)
left_waiting n before after s (Some w) f =
    rw (passes_reached n w.at before)
    (elim (cases_Bool (reached w.at (reach_of n before))) [
      | inl e ↦ rw (e, or_right (hidden_by w.hides (Leave n ∷ after)) true refl) (refl, refl)
      | inr e ↦ rw (e, since_more (Leave n) before w.at f.within, left_hidden n after w.hides) (refl, refl)
    ])

left_stays : (n : Option ℕ) (before after : List Mark) (s : Tracker) (o : Option First) → FitsFirst before s o → stays before o (Leave n ∷ after) ≡ stays (Leave n ∷ before) (blank_left o (reach_of n before)) after
left_stays n before after s None f = refl
left_stays n before after s (Some b) f =
    rw (passes_reached n b.at before)
    (elim (cases_Bool (reached b.at (reach_of n before))) [
      | inl e ↦ rw e refl
      | inr e ↦ rw (e, since_more (Leave n) before b.at f.within) refl
    ])

left_broken : (o : Option First) (reach : Option ℕ) → IsBroken o → IsBroken (blank_left o reach)
left_broken None reach h = h
left_broken (Some b) reach h = elim (reached b.at reach) as (λ r. IsBroken (cond r None (Some b))) [ true ↦ tt | false ↦ h ]

left_fits : (m : Mark) (before : List Mark) (s r : Tracker) (o : Option Waiting) (reach : Option ℕ) → ((ms : List Mark) → has_more (m ∷ ms) ≡ has_more ms) → r.broken ≡ s.broken → r.text ≡ s.text → (IsBroken s.blank → IsBroken r.blank) → FitsWaiting before s o → FitsWaiting (m ∷ before) r (newline_left o reach)
left_fits m before s r None reach more eb et keeps f = f
left_fits m before s r (Some w) reach more eb et keeps f =
    let within = f.within in
    elim (reached w.at reach) as (λ b. FitsWaiting (m ∷ before) r (cond b None (Some w))) [
      | true ↦ tt
      | false ↦ record {
        within = omega (arith, within);
        breaks = eb ∙ f.breaks;
        any = λ h. (et ∙ (f.any h).0, keeps (f.any h).1);
        tagged = f.tagged ∙ sym (more (since before w.at)) ∙ ap has_more (sym (since_more m before w.at within));
      }
    ]

left_first : (m : Mark) (before : List Mark) (s r : Tracker) (o : Option First) (reach : Option ℕ) → r.broken ≡ s.broken → r.text ≡ s.text → FitsFirst before s o → FitsFirst (m ∷ before) r (blank_left o reach)
left_first m before s r None reach eb et f = f
left_first m before s r (Some b) reach eb et f =
    elim (reached b.at reach) as (λ k. FitsFirst (m ∷ before) r (cond k None (Some b))) [
      | true ↦ tt
      | false ↦ first_over m before s r (Some b) et (λ h. eb ∙ h) f
    ]

pub left : (before : List Mark) (n : Option ℕ) (reach : Option ℕ) (s : Tracker) (settled : List ℕ) → reach ≡ reach_of n before → Tracks before s settled → Tracks (Leave n ∷ before) record s { newline = newline_left s.newline reach; blank = blank_left s.blank reach } settled
left before n reach s settled e t =
    let r : Tracker = record s { newline = newline_left s.newline reach; blank = blank_left s.blank reach } in
    record {
      text = t.text;
      glue = t.glue;
      breaks = t.breaks;
      fits = left_fits (Leave n) before s r s.newline reach (λ ms. refl) refl refl (left_broken s.blank reach) t.fits;
      first = left_first (Leave n) before s r s.blank reach refl refl t.first;
      newlines = λ after. t.newlines (Leave n ∷ after) ∙ ap (λ ks. ks ++ settled) (rw e (left_waiting n before after s s.newline t.fits).1);
      ends = λ after. t.ends (Leave n ∷ after) ∙ rw e (left_waiting n before after s s.newline t.fits).0;
      some = λ after. t.some (Leave n ∷ after) ∙ ap (λ b. s.text || b) (rw e (left_stays n before after s s.blank t.first));
    }

-- where nothing waits the end leaves all as it is
left_quiet : (before : List Mark) (n : Option ℕ) (text glue newline_before : Bool) (newline : Option Waiting) (blank : Option First) (settled : List ℕ) → (is_some newline || is_some blank) ≡ false → Tracks before record { text = text; glue = glue; broken = newline_before; newline = newline; blank = blank } settled → Tracks (Leave n ∷ before) record { text = text; glue = glue; broken = newline_before; newline = newline; blank = blank } settled
left_quiet before n text glue newline_before None None settled h t = left before n (reach_of n before) record { text = text; glue = glue; broken = newline_before; newline = None; blank = None } settled refl t
left_quiet before n text glue newline_before newline blank settled h t = cc

pub left_as_is : (before : List Mark) (n : Option ℕ) (s : Tracker) (settled : List ℕ) → (is_some s.newline || is_some s.blank) ≡ false → Tracks before s settled → Tracks (Leave n ∷ before) s settled
left_as_is before n s settled h t = left_quiet before n s.text s.glue s.broken s.newline s.blank settled h t
