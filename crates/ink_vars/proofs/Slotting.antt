-- Rows of counts that are put back, and their slots.
use Rattle.std.proofs.Common.{◌≡◌, ◌∙◌, ◌≤◌, ◌<◌, ◌+◌, ◌-◌, ℕ, List, [], ◌∷◌, Bool, true, false, IfSome, Option, None, Some, if◌then◌else◌, ap, arith, length, nat_lt, refl, subst, sym, unwrap_or, ◌||◌}
use Rattle.ink_vars.proofs.Common.{nat_tests, nat_cmp, row, with_row, MAX_COUNT, AreCounts, rows_from, with_slot, CountPair}
use Rattle.ink_model.specs.Variables.Counts.{CountsOf, counts, one_more, visited}
use Rattle.ink_model.specs.Story.Flags.{counts_at_start, counts_visits, notes_turns}
use Rattle.ink_trail.proofs.Undoing.{trails-trails, trails-where}
use Rattle.ink_trail.specs.Undo.{TrailView, Trails, Undo, trail_of, with_pair}
use Rattle.ink_vars.proofs.Numbered.{count_at, row_at}
use Rattle.ink_vars.proofs.Restored.{was_put, was_same}
use Rattle.ink_vars.specs.Undo.{HasSlot, HaveSlots, counts_back, rows_of, with_rows, with_wanted}
use Rattle.ink_vars.specs.declared.undo.CountPair.TheVariants.{Visits, Turn}

-- ---- slots

has_more : (vs ts us rs : ℕ) (e : CountPair) → vs ≤ us → ts ≤ rs → HasSlot vs ts e → HasSlot us rs e
has_more vs ts us rs (Visits n o) v t h = (omega (arith, v, h.0), h.1)
has_more vs ts us rs (Turn n o) v t h = (omega (arith, t, h.0), h.1)

pub have_more : (vs ts us rs : ℕ) (es : List CountPair) → vs ≤ us → ts ≤ rs → HaveSlots vs ts es → HaveSlots us rs es
have_more vs ts us rs [] v t h = tt
have_more vs ts us rs (e ∷ es) v t h = (has_more vs ts us rs e v t h.0, have_more vs ts us rs es v t h.1)

pub have_where : (b : Bool) (vs ts : ℕ) (e : CountPair) (u : Option (Undo CountPair)) → (b ≡ true → HasSlot vs ts e) → HaveSlots vs ts (trail_of u)
    → HaveSlots vs ts (trail_of (if b then with_pair e 1 u else u))
have_where true vs ts e None f h = tt
have_where true vs ts e (Some u) f h = (f refl, h)
have_where false vs ts e u f h = h

-- ---- what a call changes is put back

slot_where : (n : ℕ) (b : Bool) (o : Option ℕ) (v : ℕ) (rows : List (ℕ × ℕ)) → o ≡ row nat_cmp n rows → with_slot n o (if b then with_row nat_cmp n v rows else rows) ≡ rows
slot_where n true o v rows is = was_put n o v rows is
slot_where n false o v rows is = was_same n o rows is

-- both rows, each noted where it is wanted
pub rows_trails : (b t : Bool) (n : ℕ) (was is : CountsOf ℕ) (u w : TrailView CountPair)
    → (b ≡ true → with_slot n (row nat_cmp n was.visits) is.visits ≡ was.visits) → (t ≡ true → with_slot n (row nat_cmp n was.turns) is.turns ≡ was.turns)
    → (b ≡ false → is.visits ≡ was.visits) → (t ≡ false → is.turns ≡ was.turns)
    → w.undo ≡ with_rows n b t was u.undo → u.room ≤ w.room + 2 → Trails counts_back 2 was u is w
rows_trails b t n was is u w hb ht sb st undo room =
    let between : CountsOf ℕ = record { visits = is.visits; turns = was.turns } in
    let v : TrailView CountPair = record { undo = with_wanted b (Visits n (row nat_cmp n was.visits)) u.undo; room = u.room - 1 } in
    trails-trails counts_back 1 1 was between is u v w
    (trails-where counts_back b (Visits n (row nat_cmp n was.visits)) was between u v
    (λ k. ap (λ (x : List (ℕ × ℕ)). record { visits = x; turns = was.turns }) (hb k))
    (λ k. ap (λ (x : List (ℕ × ℕ)). record { visits = x; turns = was.turns }) (sb k)) refl (omega arith))
    (trails-where counts_back t (Turn n (row nat_cmp n was.turns)) between is v w
    (λ k. ap (λ (x : List (ℕ × ℕ)). record { visits = is.visits; turns = x }) (ht k))
    (λ k. ap (λ (x : List (ℕ × ℕ)). record { visits = is.visits; turns = x }) (st k)) undo (omega (arith, room)))

-- a visit
pub visit_trails : (b t : Bool) (n vm tm : ℕ) (was is : CountsOf ℕ) (u w : TrailView CountPair)
    → is.visits ≡ (if b then with_row nat_cmp n vm was.visits else was.visits) → is.turns ≡ (if t then with_row nat_cmp n tm was.turns else was.turns)
    → w.undo ≡ with_rows n b t was u.undo → u.room ≤ w.room + 2 → Trails counts_back 2 was u is w
visit_trails b t n vm tm was is u w hv ht =
    rows_trails b t n was is u w
    (λ k. ap (with_slot n (row nat_cmp n was.visits)) hv ∙ slot_where n b (row nat_cmp n was.visits) vm was.visits refl)
    (λ k. ap (with_slot n (row nat_cmp n was.turns)) ht ∙ slot_where n t (row nat_cmp n was.turns) tm was.turns refl)
    (λ k. hv ∙ ap (λ c. if c then with_row nat_cmp n vm was.visits else was.visits) k) (λ k. ht ∙ ap (λ c. if c then with_row nat_cmp n tm was.turns else was.turns) k)

-- ---- slots of what is noted

counted : (n : ℕ) (slots : List (Option ℕ)) → AreCounts slots → IfSome (row nat_cmp n (rows_from 0 slots)) (λ v. v ≤ MAX_COUNT)
counted n slots h = subst (λ o. IfSome o (λ v. v ≤ MAX_COUNT)) (sym (row_at n slots)) (count_at n slots h)

pub have_rows : (b t : Bool) (n : ℕ) (vs ts : List (Option ℕ)) (u : Option (Undo CountPair)) → AreCounts vs → AreCounts ts
    → (b ≡ true → n < length vs) → (t ≡ true → n < length ts) → HaveSlots (length vs) (length ts) (trail_of u)
    → HaveSlots (length vs) (length ts) (trail_of (with_rows n b t (rows_of vs ts) u))
have_rows b t n vs ts u hv ht fv ft h =
    let first = with_wanted b (Visits n (row nat_cmp n (rows_from 0 vs))) u in
    have_where t (length vs) (length ts) (Turn n (row nat_cmp n (rows_from 0 ts))) first (λ k. (ft k, counted n ts ht))
    (have_where b (length vs) (length ts) (Visits n (row nat_cmp n (rows_from 0 vs))) u (λ k. (fv k, counted n vs hv)) h)

-- what is noted of two arrays is noted of those that equal them
pub noted_slots : (n : ℕ) (vs ts us rs : List (Option ℕ)) (u w : Option (Undo CountPair)) → w ≡ with_rows n (nat_lt n (length vs)) (nat_lt n (length ts)) (rows_of vs ts) u
    → vs ≡ us → ts ≡ rs → w ≡ with_rows n (nat_lt n (length us)) (nat_lt n (length rs)) (rows_of us rs) u
noted_slots n vs ts us rs u w undo v t =
    undo ∙ ap (λ s. with_rows n (nat_lt n (length s)) (nat_lt n (length ts)) (rows_of s ts) u) v
    ∙ ap (λ s. with_rows n (nat_lt n (length us)) (nat_lt n (length s)) (rows_of us s) u) t

-- ---- past the slots

pub within : (a b : ℕ) → nat_lt a b ≡ true → a < b
within a b h = grind (arith, nat_tests)

past : (a b : ℕ) → nat_lt a b ≡ false → b ≤ a
past a b h = grind (arith, nat_tests)

pub unchanged_past : (a b n : ℕ) (s t : List (Option ℕ)) → nat_lt a b ≡ false → n ≡ b → (n ≤ a → s ≡ t) → s ≡ t
unchanged_past a b n s t h e f = f (omega (arith, past a b h, e))

-- ---- a visit

pub counts_late : (flags : ℕ) (at_start : Bool) → counts_at_start flags ≡ false → counts flags at_start ≡ true
counts_late flags at_start h = rw h (elim at_start as (λ b. (b || true) ≡ true) [ true ↦ refl | false ↦ refl ])

pub counts_start : (flags : ℕ) (at_start : Bool) → at_start ≡ true → counts flags at_start ≡ true
counts_start flags at_start h = rw h refl

pub visit_counts : (flags n turn : ℕ) (at_start b t : Bool) (was is : CountsOf ℕ) → counts flags at_start ≡ true → b ≡ counts_visits flags → t ≡ notes_turns flags
    → is.visits ≡ (if b then with_row nat_cmp n (one_more (unwrap_or (row nat_cmp n was.visits) 0)) was.visits else was.visits)
    → is.turns ≡ (if t then with_row nat_cmp n turn was.turns else was.turns) → is ≡ visited nat_cmp n flags at_start turn was
visit_counts flags n turn at_start b t was is counted visits turns hv ht = rw (counted, ← visits, ← turns) (λ i. record { visits = hv i; turns = ht i })
