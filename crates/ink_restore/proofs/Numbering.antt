-- Rows by number, and what is made of rows by place.
use Rattle.std.proofs.Common.{◌≡◌, ◌∙◌, ◌⊎◌, inl, inr, sym, ap, refl, subst, ℕ, suc, ◌+◌, ◌<◌, ◌≤◌, length, List, [], ◌∷◌, ◌++◌, drop, get_or, Bool, true, Option, Some, None, is_lt, arith}
use Rattle.std.proofs.lemmas.List.{append_assoc, append-nil, drop_all, drop_more, map-append}
use Rattle.std.specs.Cmp.{nat_cmp_is, ranked}
use Rattle.ink_restore.proofs.Common.{AllByRecursion, MAX_COUNT, Part}
use Rattle.std.specs.Ordering.{nat_cmp}
use Rattle.std.specs.declared.cmp.Ordering.{Ordering}
use Rattle.std.specs.declared.cmp.Ordering.TheVariants.{Less, Equal, Greater}
use Rattle.ink_model.specs.Story.Places.{places}
use Rattle.ink_model.specs.Variables.Rows.{is_before, place_order, rows_rise}
use Rattle.ink_model.specs.Save.Sound.{RowCounts, RowsCount}
use Rattle.ink_model.specs.Story.Tree.{StoryTree}
use Rattle.ink_restore.specs.Counted.{AreBelow, place_at, row_at, rows_at}
use Rattle.ink_restore.proofs.Standing.{both}
use Rattle.ink_tree.specs.Nodes.{NumbersInOrder}
use Rattle.ink_vars.specs.Slots.{AreCounts, rows_from}

-- ---- one slot more

pub rows_last : (k : ℕ) (xs : List (Option ℕ)) (v : ℕ) → rows_from k (xs ++ Some v ∷ []) ≡ rows_from k xs ++ (k + length xs, v) ∷ []
rows_last k [] v = let same : k ≡ k + 0 = omega arith in ap (λ n. (n, v) ∷ []) same
rows_last k (None ∷ xs) v =
    let same : k + 1 + length xs ≡ k + suc (length xs) = omega arith in
    rows_last (k + 1) xs v ∙ ap (λ n. rows_from (k + 1) xs ++ (n, v) ∷ []) same
rows_last k (Some w ∷ xs) v =
    let same : k + 1 + length xs ≡ k + suc (length xs) = omega arith in
    ap (λ rs. (k, w) ∷ rs) (rows_last (k + 1) xs v ∙ ap (λ n. rows_from (k + 1) xs ++ (n, v) ∷ []) same)

pub counts_last : (xs : List (Option ℕ)) (v : ℕ) → AreCounts xs → v ≤ MAX_COUNT → AreCounts (xs ++ Some v ∷ [])
counts_last [] v h most = (most, tt)
counts_last (None ∷ xs) v h most = counts_last xs v h most
counts_last (Some n ∷ xs) v h most = (h.0, counts_last xs v h.1 most)

-- ---- numbers below one

below_from : (n k : ℕ) (xs : List (Option ℕ)) → k + length xs ≤ n → AreBelow n (rows_from k xs)
below_from n k [] le = tt
below_from n k (None ∷ xs) le = below_from n (k + 1) xs (omega (arith, le))
below_from n k (Some v ∷ xs) le = (omega (arith, le), below_from n (k + 1) xs (omega (arith, le)))

pub slots_below : (n : ℕ) (xs : List (Option ℕ)) → length xs ≤ n → AreBelow n (rows_from 0 xs)
slots_below n xs le = below_from n 0 xs (omega (arith, le))

-- ---- rows rise

module _ (s : StoryTree) where
  before : NumbersInOrder s → (m k : ℕ) (xs : List (Option ℕ)) → m < k → k + length xs ≤ length (places s)
      → is_before place_order (place_at s m) (rows_at s (rows_from k xs)) ≡ true
  before order m k [] lt le = refl
  before order m k (None ∷ xs) lt le = before order m (k + 1) xs (omega (arith, lt)) (omega (arith, le))
  before order m k (Some v ∷ xs) lt le =
      let first : m < length (places s) = omega (arith, lt, le) in
      let second : k < length (places s) = omega (arith, le) in
      let less : place_order (place_at s m) (place_at s k) ≡ Less = order (record { number = m }) (record { number = k }) first second ∙ sym (nat_cmp_is m k Less lt) in
      rw less (before order m (k + 1) xs (omega (arith, lt)) (omega (arith, le)))

  rises : NumbersInOrder s → (k : ℕ) (xs : List (Option ℕ)) → k + length xs ≤ length (places s) → rows_rise place_order (rows_at s (rows_from k xs)) ≡ true
  rises order k [] le = refl
  rises order k (None ∷ xs) le = rises order (k + 1) xs (omega (arith, le))
  rises order k (Some v ∷ xs) le =
      let lower : k < k + 1 = omega arith in
      rw (before order k (k + 1) xs lower (omega (arith, le))) (rises order (k + 1) xs (omega (arith, le)))

-- ---- neighbours

is_less : (o : Ordering) → is_lt o ≡ true → o ≡ Less
is_less Less h = refl
is_less Equal h = absurd cc
is_less Greater h = absurd cc

neighbours : (xs : List (List Part × ℕ)) (a b : List Part × ℕ) (ys : List (List Part × ℕ)) → rows_rise place_order (xs ++ a ∷ b ∷ ys) ≡ true → place_order a.0 b.0 ≡ Less
neighbours [] a b ys h =
    let first = both (is_before place_order a.0 (b ∷ ys)) (rows_rise place_order (b ∷ ys)) h in
    is_less (place_order a.0 b.0) (both (is_lt (place_order a.0 b.0)) (is_before place_order a.0 ys) first.0).0
neighbours (x ∷ xs) a b ys h = neighbours xs a b ys (both (is_before place_order x.0 (xs ++ a ∷ b ∷ ys)) (rows_rise place_order (xs ++ a ∷ b ∷ ys)) h).1

-- ---- rows by number, one after another

-- the last slot is a row
pub record EndsIn (slots : List (Option ℕ)) : Type 0 where
  pub number : ℕ
  pub count : ℕ
  pub rows : List (ℕ × ℕ)
  pub len : length slots ≡ number + 1
  pub is : rows_from 0 slots ≡ rows ++ (number, count) ∷ []

module _ (s : StoryTree) (flag : ℕ → Bool) (least : ℕ) (whole : List (List Part × ℕ)) where
  -- of a whole these were numbered, and those are left
  pub record Numbers (slots : List (Option ℕ)) (rest : List (List Part × ℕ)) : Type 0 where
    pub joined : rows_at s (rows_from 0 slots) ++ rest ≡ whole
    pub each : AllByRecursion (RowCounts s flag least) (rows_at s (rows_from 0 slots))
    pub rise : rows_rise place_order (rows_at s (rows_from 0 slots)) ≡ true
    pub few : length slots ≤ length (places s)
    pub counts : AreCounts slots
    pub ended : (length slots ≡ 0) ⊎ EndsIn slots

  each_last : (xs : List (List Part × ℕ)) (r : List Part × ℕ) → AllByRecursion (RowCounts s flag least) xs → RowCounts s flag least r
      → AllByRecursion (RowCounts s flag least) (xs ++ r ∷ [])
  each_last [] r h k = (k, tt)
  each_last (x ∷ xs) r h k = (h.0, each_last xs r h.1 k)

  each_in : (xs : List (List Part × ℕ)) (r : List Part × ℕ) (ys : List (List Part × ℕ)) → AllByRecursion (RowCounts s flag least) (xs ++ r ∷ ys) → RowCounts s flag least r
  each_in [] r ys h = h.0
  each_in (x ∷ xs) r ys h = each_in xs r ys h.1

  rows_more : (old : List (ℕ × ℕ)) (n c : ℕ) → rows_at s (old ++ (n, c) ∷ []) ≡ rows_at s old ++ row_at s (n, c) ∷ []
  rows_more old n c = map-append (row_at s) old ((n, c) ∷ [])

  one_more : (old new : List (Option ℕ)) (n c : ℕ) (r : List Part × ℕ) (rest : List (List Part × ℕ)) → NumbersInOrder s → n < length (places s)
      → row_at s (n, c) ≡ r → RowCounts s flag least r → rows_from 0 new ≡ rows_from 0 old ++ (n, c) ∷ [] → length new ≡ n + 1 → AreCounts new
      → Numbers old (r ∷ rest) → Numbers new rest
  one_more old new n c r rest order own is fits rows len counts h =
      let same : rows_at s (rows_from 0 new) ≡ rows_at s (rows_from 0 old) ++ r ∷ [] =
      ap (rows_at s) rows ∙ rows_more (rows_from 0 old) n c ∙ ap (λ x. rows_at s (rows_from 0 old) ++ x ∷ []) is in
      let few : length new ≤ length (places s) = omega (arith, len, own) in
      record {
        joined = ap (λ xs. xs ++ rest) same ∙ append_assoc (rows_at s (rows_from 0 old)) (r ∷ []) rest ∙ h.joined;
        each = subst (AllByRecursion (RowCounts s flag least)) (sym same) (each_last (rows_at s (rows_from 0 old)) r h.each fits);
        rise = rises s order 0 new (omega (arith, few));
        few = few;
        counts = counts;
        ended = inr (record { number = n; count = c; rows = rows_from 0 old; len = len; is = rows });
      }

  pub numbers_more : (old new : List (Option ℕ)) (n c i : ℕ) (d : List Part × ℕ) → i < length whole → NumbersInOrder s → n < length (places s)
      → row_at s (n, c) ≡ get_or whole i d → RowCounts s flag least (get_or whole i d) → rows_from 0 new ≡ rows_from 0 old ++ (n, c) ∷ [] → length new ≡ n + 1
      → AreCounts new → Numbers old (drop i whole) → Numbers new (drop (i + 1) whole)
  numbers_more old new n c i d lt order own is fits rows len counts h =
      one_more old new n c (get_or whole i d) (drop (i + 1) whole) order own is fits rows len counts (subst (Numbers old) (drop_more whole i d lt) h)

  falls : (slots : List (Option ℕ)) (n c : ℕ) (r : List Part × ℕ) (rest : List (List Part × ℕ)) → NumbersInOrder s → n < length (places s) → n < length slots
      → row_at s (n, c) ≡ r → Numbers slots (r ∷ rest) → rows_rise place_order whole ≡ true → ⊥
  falls slots n c r rest order own lower is h rise = by h.ended
    where
      by : (length slots ≡ 0) ⊎ EndsIn slots → ⊥
      by (inl none) = absurd (omega (arith, none, lower))
      by (inr e) =
          let last = row_at s (e.number, e.count) in
          let before = rows_at s e.rows in
          let same : rows_at s (rows_from 0 slots) ++ r ∷ rest ≡ before ++ last ∷ r ∷ rest =
          ap (λ xs. rows_at s xs ++ r ∷ rest) e.is ∙ ap (λ xs. xs ++ r ∷ rest) (rows_more e.rows e.number e.count) ∙ append_assoc before (last ∷ []) (r ∷ rest) in
          let inside : e.number < length (places s) = omega (arith, e.len, h.few) in
          let less : place_order last.0 r.0 ≡ Less = neighbours before last r rest (ap (rows_rise place_order) (sym same ∙ h.joined) ∙ rise) in
          let numbers : nat_cmp e.number n ≡ Less = sym (order (record { number = e.number }) (record { number = n }) inside own) ∙ ap (λ x. place_order last.0 x.0) is ∙ less in
          let apart : e.number < n = ranked e.number n Less (sym numbers) in
          absurd (omega (arith, e.len, lower, apart))

  pub order_refused : (slots : List (Option ℕ)) (n c i : ℕ) (d : List Part × ℕ) → i < length whole → NumbersInOrder s → n < length (places s) → n < length slots
      → row_at s (n, c) ≡ get_or whole i d → Numbers slots (drop i whole) → RowsCount s flag least whole → ⊥
  order_refused slots n c i d lt order own lower is h k =
      falls slots n c (get_or whole i d) (drop (i + 1) whole) order own lower is (subst (Numbers slots) (drop_more whole i d lt) h) k.rise

  pub row_refused : (slots : List (Option ℕ)) (i : ℕ) (d : List Part × ℕ) → i < length whole → (RowCounts s flag least (get_or whole i d) → ⊥) → Numbers slots (drop i whole)
      → RowsCount s flag least whole → ⊥
  row_refused slots i d lt never h k =
      let m = subst (Numbers slots) (drop_more whole i d lt) h in
      never (each_in (rows_at s (rows_from 0 slots)) (get_or whole i d) (drop (i + 1) whole) (subst (AllByRecursion (RowCounts s flag least)) (sym m.joined) k.each))

  pub numbers_done : (slots : List (Option ℕ)) (i : ℕ) → length whole ≤ i → Numbers slots (drop i whole)
      → (rows_at s (rows_from 0 slots) ≡ whole) × RowsCount s flag least whole
  numbers_done slots i le h =
      let k = subst (Numbers slots) (drop_all i whole le) h in
      let same : rows_at s (rows_from 0 slots) ≡ whole = sym (append-nil (rows_at s (rows_from 0 slots))) ∙ k.joined in (
        same,
        record { rise = ap (rows_rise place_order) (sym same) ∙ k.rise; each = subst (AllByRecursion (RowCounts s flag least)) same k.each },
      )
