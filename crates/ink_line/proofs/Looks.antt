-- A search comes to the line: what it knows after each step.
use Rattle.std.proofs.Common.{◌≡◌, refl, sym, ap, ◌∙◌, subst, arith, ℕ, zero, suc, ◌<◌, ◌≤◌, inl, inr, ◌⊎◌, List, Bool, true, false, true≢false, Option, Some, None}
use Rattle.ink_model.specs.Run.Configuration.{Configuration}
use Rattle.ink_model.specs.Host.Bindings.{Bound}
use Rattle.ink_model.specs.Run.Line.{IsFirm, IsLineOf, MakesFirm, NoneBelow, NoneOpen, StaysOpen, calls_in, goes_on, goes_past, has_faulted, is_call, newline_in, open_in, page_at, shows}
use Rattle.ink_model.specs.Run.Moments.{Made, Moment, At, Stopped, Faulted, Waits, came, cut_off, moment_after, next}
use Rattle.ink_model.specs.Run.Step.{Outcome, Next, Stepped, Comes, Wants, step}
use Rattle.ink_model.specs.Story.Tree.{StoryTree}
use Rattle.ink_model.specs.declared.host.Given.{Given}
use Rattle.ink_line.specs.Look.{Knows, Search, Seeking, Looking, Over, found, kept_at, look_on, looked, looked_by, looked_on, search, sought, stays_open}
use Rattle.ink_line.proofs.Moments.{both, cut_ended, ended_or_faulted, newline_is, no_other, some_same, stays, went_on}
use Rattle.ink_line.proofs.Opens.{is_open, open_is}

pub order : (q n : ℕ) → (n < q) ⊎ ((q < n) ⊎ (q ≡ n))
order q n = grind arith

pub same_or_below : (q n : ℕ) → q < suc n → (q < n) ⊎ (q ≡ n)
same_or_below q n l = grind (arith, l)

pub last_or_within : (k n : ℕ) → k ≤ suc n → (k ≤ n) ⊎ (k ≡ suc n)
last_or_within k n r = grind (arith, r)

below_or_not : (q n : ℕ) → (q < n) ⊎ (n ≤ q)
below_or_not q n = grind arith

-- it holds of one number, or that is another of which it holds
pub at_either : {A : Type 0} (P : ℕ → Type 0) (k n : ℕ) → A ⊎ (k ≡ n) → (A → P k) → P n → P k
at_either P k n (inl l) f x = f l
at_either P k n (inr same) f x = subst P (sym same) x

module _ (s : StoryTree) (b : Bound) (limit : ℕ) (m : ℕ → Moment) (runs : (n : ℕ) → m (suc n) ≡ next s b (m n)) where
  -- ---- an open newline that comes to nothing

  -- A newline stays open up to a step that does not make it firm, and after which it is not open, or the run has ended: no step up to
  -- there has a firm one.
  module _ (p n : ℕ) (h : StaysOpen s b m p n) (first : NoneBelow s b limit m p) (room : n < limit)
      (calls : calls_in s b (m n) ≡ false) (faults : has_faulted (m (suc n)) ≡ false)
      (past : shows (m (suc n)) h.newline ≡ true → goes_past (m (suc n)) h.newline ≡ true → ⊥)
      (gone : open_in (m (suc n)) ≡ Some h.newline → goes_on (m (suc n)) ≡ true → ⊥) where
    before : (k : ℕ) → p < k → k ≤ n → goes_past (m k) h.newline ≡ false
    before k l r = (open_is (page_at (m k)).line h.newline (h.stays k l r)).1

    not_itself : IsFirm s b limit m p → ⊥
    not_itself f = by (order f.until n)
      where
        same : f.opens.newline ≡ h.newline
        same = some_same f.opens.newline h.newline (sym f.opens.has ∙ h.has)

        makes : MakesFirm s b limit m f.until h.newline
        makes = subst (λ i. MakesFirm s b limit m f.until i) same f.makes

        inside : (q : ℕ) → p < q → q < n → MakesFirm s b limit m q h.newline → ⊥
        inside q l r (inl e) = omega (arith, e, r, room)
        inside q l r (inr (inl e)) = both e (h.quiet q l r)
        inside q l r (inr (inr (inl e))) = ended_or_faulted (m (suc q)) (went_on s b m runs (suc q) n (omega (arith, r)) h.going) e
        inside q l r (inr (inr (inr e))) = both e.1 (before (suc q) (omega (arith, l)) (omega (arith, r)))

        here : MakesFirm s b limit m n h.newline → ⊥
        here (inl e) = omega (arith, e, room)
        here (inr (inl e)) = both e calls
        here (inr (inr (inl e))) = both e faults
        here (inr (inr (inr e))) = past e.0 e.1

        by : (n < f.until) ⊎ ((f.until < n) ⊎ (f.until ≡ n)) → ⊥
        by (inl l) = gone (subst (λ i. open_in (m (suc n)) ≡ Some i) same (f.opens.stays (suc n) (omega (arith, h.later)) (omega (arith, l))))
            (went_on s b m runs (suc n) f.until (omega (arith, l)) f.opens.going)
        by (inr (inl r)) = inside f.until f.opens.later r makes
        by (inr (inr e)) = here (subst (λ q. MakesFirm s b limit m q h.newline) e makes)

    pub none_more : NoneBelow s b limit m n
    none_more q l f = by (order q p)
      where
        by : (p < q) ⊎ ((q < p) ⊎ (q ≡ p)) → ⊥
        by (inl above) = no_other (m q) (m (suc q)) h.newline f.opens.newline (h.stays q above (omega (arith, l)))
            (h.stays (suc q) (omega (arith, above)) (omega (arith, l))) f.opens.has
        by (inr (inl below)) = first q below f
        by (inr (inr same)) = not_itself (subst (IsFirm s b limit m) same f)

  -- ---- the run has ended

  ended : (n : ℕ) → n < limit → NoneBelow s b limit m n → goes_on (m (suc n)) ≡ false → IsLineOf s b limit m (m (suc n))
  ended n room none e = inr (record {
    none = λ q f. elim (below_or_not q n) [
      | inl l ↦ none q l f
      | inr l ↦ both (went_on s b m runs (suc n) f.until (omega (arith, l, f.opens.later)) f.opens.going) e
    ];
    ends = ap cut_off (stays s b m runs (suc n) limit (omega (arith, room)) e) ∙ cut_ended (m (suc n)) e;
  })

  -- ---- no newline is open

  -- that of no step before moment n stays open for one step more
  abbrev NoneStays : ℕ → Type 0
  NoneStays n = (p : ℕ) → p < n → StaysOpen s b m p (suc n) → ⊥

  -- what stays open for one step more was open before it
  was_open : (p n : ℕ) → p < n → StaysOpen s b m p (suc n) → StaysOpen s b m p n
  was_open p n l h = record {
    newline = h.newline;
    has = h.has;
    later = l;
    stays = λ k a r. h.stays k a (omega (arith, r));
    quiet = λ k a r. h.quiet k a (omega (arith, r));
    going = went_on s b m runs n (suc n) (omega arith) h.going;
  }

  none_stays : (n : ℕ) → NoneOpen s b m n → NoneStays n
  none_stays n none p l h = none p (was_open p n l h)

  at_its_newline : (n : ℕ) → NoneBelow s b limit m n → NoneStays n → goes_on (m (suc n)) ≡ true → (o : Option ℕ) → newline_in (m n) (m (suc n)) ≡ o
      → Knows s b limit m (suc n) (kept_at (m (suc n)) o)
  at_its_newline n none closed g None e = (
    refl,
    g,
    λ q l f. elim (same_or_below q n l) [ inl r ↦ none q r f | inr same ↦ wrong q same f.opens.newline f.opens.has ],
    λ q h. elim (same_or_below q n h.later) [ inl r ↦ closed q r h | inr same ↦ wrong q same h.newline h.has ],
  )
    where
      wrong : (q : ℕ) → q ≡ n → (i : ℕ) → newline_in (m q) (m (suc q)) ≡ Some i → ⊥
      wrong q same i has = let no : None ≡ Some i = sym e ∙ subst (λ k. newline_in (m k) (m (suc k)) ≡ Some i) same has in cc
  at_its_newline n none closed g (Some i) e = (
    n,
    record {
      newline = i;
      has = e;
      later = omega arith;
      stays = λ k l r. subst (λ j. open_in (m j) ≡ Some i) (only k l r) (newline_is (m n) (m (suc n)) i e).0;
      quiet = λ k l r. absurd (omega (arith, l, r));
      going = g;
    },
    refl,
    none,
    refl,
    refl,
  )
    where
      only : (k : ℕ) → n < k → k ≤ suc n → suc n ≡ k
      only k l r = omega (arith, l, r)

  sought_knows : (n : ℕ) → n < limit → NoneBelow s b limit m n → NoneStays n → (y : Moment) → m (suc n) ≡ y → Knows s b limit m (suc n) (sought (m n) y)
  sought_knows n room none closed (At c left made) e =
      subst (λ y. Knows s b limit m (suc n) (kept_at y (newline_in (m n) y))) e (at_its_newline n none closed (ap goes_on e) (newline_in (m n) (m (suc n))) refl)
  sought_knows n room none closed y e = subst (IsLineOf s b limit m) e (ended n room none (ap goes_on e))

  -- ---- a newline is open

  no_wait_after : (c : Configuration) (o : Outcome) (left : List (Option Given)) (made : List Made) (name : List ℕ) (r : List Made) → moment_after c o left made ≡ Waits name r → ⊥
  no_wait_after c (Next d) left made name r h = cc
  no_wait_after c o left made name r h = cc

  no_wait : (c : Configuration) (left : List (Option Given)) (made : List Made) (o : Stepped) (name : List ℕ) (r : List Made) → is_call o ≡ false → came s c o left made ≡ Waits name r → ⊥
  no_wait c left made (Comes o) name r e h = no_wait_after c o left made name r h
  no_wait c left made (Wants n arguments f d) name r e h = true≢false e

  never_waits : (x : Moment) (name : List ℕ) (r : List Made) → goes_on x ≡ true → calls_in s b x ≡ false → next s b x ≡ Waits name r → ⊥
  never_waits (At c left made) name r g e h = no_wait c left made (step s b c) name r e h
  never_waits x name r g e h = true≢false (sym g)

  module _ (p n : ℕ) (kept : Moment) (h : StaysOpen s b m p n) (first : NoneBelow s b limit m p) (is : m (suc p) ≡ kept) (room : n < limit) where
    back : MakesFirm s b limit m n h.newline → IsLineOf s b limit m kept
    back makes = inl (record { step = p; firm = record { until = n; within = omega (arith, room); opens = h; makes = makes }; first = first; ends = is })

    -- it is shown still, and nothing is behind it
    stays_knows : calls_in s b (m n) ≡ false → (y : Moment) → m (suc n) ≡ y → has_faulted y ≡ false → shows y h.newline ≡ true → goes_past y h.newline ≡ false
        → Knows s b limit m (suc n) (stays_open kept h.newline y)
    stays_knows quiet (At c left made) e sound shown past = (
      p,
      record {
        newline = h.newline;
        has = h.has;
        later = omega (arith, h.later);
        stays = λ k l r. at_either (λ j. open_in (m j) ≡ Some h.newline) k (suc n) (last_or_within k n r) (h.stays k l)
            (ap open_in e ∙ is_open c.page.line h.newline shown past);
        quiet = λ k l r. at_either (λ j. calls_in s b (m j) ≡ false) k n (same_or_below k n r) (h.quiet k l) quiet;
        going = ap goes_on e;
      },
      refl,
      first,
      is,
      e,
    )
    stays_knows quiet (Stopped c left made) e sound shown past = subst (IsLineOf s b limit m) e
        (ended n room (none_more p n h first room quiet (ap has_faulted e)
        (λ t u. both u (ap (λ y. goes_past y h.newline) e ∙ past)) (λ t u. both u (ap goes_on e))) (ap goes_on e))
    stays_knows quiet (Faulted f c left made) e sound shown past = absurd (true≢false sound)
    stays_knows quiet (Waits name made) e sound shown past = absurd (true≢false (sym shown))

    shown_if_open : (y : Moment) → open_in y ≡ Some h.newline → shows y h.newline ≡ true
    shown_if_open y o = (open_is (page_at y).line h.newline o).0

    by_knows : calls_in s b (m n) ≡ false → (y : Moment) → m (suc n) ≡ y → has_faulted y ≡ false → (t u : Bool) → shows y h.newline ≡ t → goes_past y h.newline ≡ u
        → Knows s b limit m (suc n) (looked_by t u kept h.newline (m n) y)
    by_knows quiet y e sound false u shown past = sought_knows n room
        (none_more p n h first room quiet (ap has_faulted e ∙ sound) (λ t k. wrong t) (λ t k. wrong (shown_if_open (m (suc n)) t))) closed y e
      where
        wrong : shows (m (suc n)) h.newline ≡ true → ⊥
        wrong t = both t (ap (λ y. shows y h.newline) e ∙ shown)

        -- another would be the same one, since one is open at a time
        closed : NoneStays n
        closed q l u =
            let same : u.newline ≡ h.newline = some_same u.newline h.newline (sym (u.stays n l (omega arith)) ∙ h.stays n h.later (omega arith)) in
            wrong (shown_if_open (m (suc n)) (u.stays (suc n) (omega (arith, l)) (omega arith) ∙ ap Some same))
    by_knows quiet y e sound true true shown past = back (inr (inr (inr (ap (λ y. shows y h.newline) e ∙ shown, ap (λ y. goes_past y h.newline) e ∙ past))))
    by_knows quiet y e sound true false shown past = stays_knows quiet y e sound shown past

    looked_knows : calls_in s b (m n) ≡ false → (y : Moment) → m (suc n) ≡ y → Knows s b limit m (suc n) (looked kept h.newline (m n) y)
    looked_knows quiet (At c left made) e = by_knows quiet (At c left made) e refl _ _ refl refl
    looked_knows quiet (Stopped c left made) e = by_knows quiet (Stopped c left made) e refl _ _ refl refl
    looked_knows quiet (Faulted f c left made) e = back (inr (inr (inl (ap has_faulted e))))
    looked_knows quiet (Waits name made) e = absurd (never_waits (m n) name made h.going quiet (sym (runs n) ∙ e))

    looked_on_knows : (t : Bool) → calls_in s b (m n) ≡ t → Knows s b limit m (suc n) (looked_on t kept h.newline (m n) (m (suc n)))
    looked_on_knows true e = back (inr (inl e))
    looked_on_knows false e = looked_knows e (m (suc n)) refl

  -- ---- the search

  look_knows : (n : ℕ) → n < limit → (x : Search) → Knows s b limit m n x → Knows s b limit m (suc n) (look_on s b x)
  look_knows n room (Seeking now) (at, g, none, closed) = subst (λ y. Knows s b limit m (suc n) (sought y (next s b y))) at
      (subst (λ y. Knows s b limit m (suc n) (sought (m n) y)) (runs n) (sought_knows n room none (none_stays n closed) (m (suc n)) refl))
  look_knows n room (Looking kept newline now) (p, h, same, first, is, at) =
      subst (λ i. Knows s b limit m (suc n) (looked_on (calls_in s b now) kept i now (next s b now))) same
      (subst (λ y. Knows s b limit m (suc n) (looked_on (calls_in s b y) kept h.newline y (next s b y))) at
      (subst (λ y. Knows s b limit m (suc n) (looked_on (calls_in s b (m n)) kept h.newline (m n) y)) (runs n)
      (looked_on_knows p n kept h first is room (calls_in s b (m n)) refl)))
  look_knows n room (Over end) h = h

  pub search_knows : goes_on (m 0) ≡ true → (n : ℕ) → n ≤ limit → Knows s b limit m n (search s b n (Seeking (m 0)))
  unfolding search
  search_knows g zero le = (refl, g, λ q l f. omega (arith, l), λ q h. omega (arith, h.later))
  search_knows g (suc n) le = look_knows n (omega (arith, le)) (search s b n (Seeking (m 0))) (search_knows g n (omega (arith, le)))

  -- where no more steps may be taken
  pub found_is : (x : Search) → Knows s b limit m limit x → IsLineOf s b limit m (found x)
  found_is (Seeking now) (at, g, none, closed) = inr (record { none = λ q f. none q (omega (arith, f.opens.later, f.within)) f; ends = ap cut_off at })
  found_is (Looking kept newline now) (p, h, same, first, is, at) =
      inl (record { step = p; firm = record { until = limit; within = omega arith; opens = h; makes = inl refl }; first = first; ends = is })
  found_is (Over end) h = h
