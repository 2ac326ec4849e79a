-- Visits and turns: only of containers with the flag, and at their least or above.
use Rattle.std.proofs.Common.{◌≡◌, arith, ℕ, ◌≤◌, lit≤, List, [], ◌∷◌, Bool, true, nat_lt, Option, Some, None, unwrap_or}
use Rattle.ink_sound.proofs.Common.{cond_both, nat_tests, flags_at, counts_visits, notes_turns, StoryTree, at, MAX_COUNT, Part, Finds, Each, place_order, row, with_row}
use Rattle.ink_model.specs.Variables.Counts.{CountsOf, one_more, visited, visits_at}
use Rattle.ink_model.specs.Run.Visits.{all_visited}
use Rattle.ink_model.specs.Save.Sound.{CountsFit, RowCounts, RowsCount}
use Rattle.ink_model.proofs.Orders.{place_total}
use Rattle.ink_sound.proofs.Rows.{each_put, rise_put, row_finds}
use Rattle.ink_sound.proofs.Values.{each_of}

module _ (s : StoryTree) where
  pub most_of : (flag : ℕ → Bool) (least : ℕ) (rows : List (List Part × ℕ)) → Each (RowCounts s flag least) rows → Each (λ r. r.1 ≤ MAX_COUNT) rows
  most_of flag least rows h = each_of (RowCounts s flag least) (λ r. r.1 ≤ MAX_COUNT) (λ r k. k.most) rows h

  pub one_more_most : (n : ℕ) → n ≤ MAX_COUNT → one_more n ≤ MAX_COUNT
  one_more_most n h = cond_both (nat_lt n MAX_COUNT) _ _ (λ m. m ≤ MAX_COUNT) (λ e. grind (arith, nat_tests, e)) (λ _. h)

  one_more_least : (n : ℕ) → 1 ≤ one_more n
  one_more_least n = cond_both (nat_lt n MAX_COUNT) _ _ (λ m. 1 ≤ m) (λ _. omega arith) (λ e. grind (arith, nat_tests, e))

  unwrap_most : (o : Option ℕ) → Finds (λ n. n ≤ MAX_COUNT) o → unwrap_or o 0 ≤ MAX_COUNT
  unwrap_most None h = lit≤ tt
  unwrap_most (Some n) h = h

  pub visits_most : (p : List Part) (c : CountsOf (List Part)) → CountsFit s c → visits_at place_order p c ≤ MAX_COUNT
  visits_most p c h = unwrap_most (row place_order p c.visits) (row_finds place_order (λ n. n ≤ MAX_COUNT) p c.visits (most_of counts_visits 1 c.visits h.visits.each))

  rows_put : (flag : ℕ → Bool) (least : ℕ) (p : List Part) (n : ℕ) (rows : List (List Part × ℕ)) → flag (flags_at (at s p)) ≡ true → least ≤ n → n ≤ MAX_COUNT → RowsCount s flag least rows
      → RowsCount s flag least (with_row place_order p n rows)
  rows_put flag least p n rows e low high h = record {
    rise = rise_put place_order place_total p n rows h.rise;
    each = each_put place_order (RowCounts s flag least) p n rows (record { flagged = e; least_is = low; most = high }) h.each;
  }

  visited_fits : (p : List Part) (turn : ℕ) (c : CountsOf (List Part)) → turn ≤ MAX_COUNT → CountsFit s c → CountsFit s (visited place_order p (flags_at (at s p)) true turn c)
  visited_fits p turn c few h = record {
    visits = cond_both (counts_visits (flags_at (at s p))) _ _ (RowsCount s counts_visits 1)
        (λ e. rows_put counts_visits 1 p (one_more (visits_at place_order p c)) c.visits e (one_more_least (visits_at place_order p c)) (one_more_most (visits_at place_order p c) (visits_most p c h)) h.visits) (λ _. h.visits);
    turns = cond_both (notes_turns (flags_at (at s p))) _ _ (RowsCount s notes_turns 0) (λ e. rows_put notes_turns 0 p turn c.turns e (omega arith) few h.turns) (λ _. h.turns);
  }

  pub all_visited_fits : (turn : ℕ) (ps : List (List Part)) (c : CountsOf (List Part)) → turn ≤ MAX_COUNT → CountsFit s c → CountsFit s (all_visited s turn ps c)
  all_visited_fits turn [] c few h = h
  all_visited_fits turn (p ∷ ps) c few h = all_visited_fits turn ps (visited place_order p (flags_at (at s p)) true turn c) few (visited_fits p turn c few h)
