-- How often containers were visited, and in which turn last, by any kind of key (docs/VARIABLES.md, "Counts").
use Rattle.std.specs.Prelude.{ℕ, ◌+◌, ℤ, ◌-ℤ◌, pos, negsuc, List, Bool, not, ◌&&◌, ◌||◌, nat_lt, if◌then◌else◌, Option, Some, None, is_some, unwrap_or, Result, Ok, Err}
use Rattle.std.specs.declared.cmp.Ordering.{Ordering}
use Rattle.ink_model.specs.Story.Flags.{counts_visits, notes_turns, counts_at_start}
use Rattle.ink_model.specs.Variables.Rows.{row, with_row}
use Rattle.ink_model.specs.declared.fault.Fault.{Fault}
use Rattle.ink_model.specs.declared.fault.Fault.TheVariants.{NotCounted}
use Rattle.ink_model.specs.declared.limits.TheConstants.{MAX_COUNT}

-- both are rows that rise by their key
pub record CountsOf (K : Type 0) : Type 0 where
  pub visits : List (K × ℕ)
  pub turns : List (K × ℕ)

-- one more, up to the most that a count comes to
abbrev pub one_more : ℕ → ℕ
one_more n = if nat_lt n MAX_COUNT then n + 1 else n

-- the turns from one to another; -1 where there was none
abbrev pub turns_from : Option ℕ → ℕ → ℤ
turns_from None turn = negsuc 0
turns_from (Some noted) turn = pos turn -ℤ pos noted

-- a container with these flags counts where it is entered, at its start or not
abbrev pub counts : ℕ → Bool → Bool
counts flags at_start = at_start || not (counts_at_start flags)

module _ {K : Type 0} (compare : K → K → Ordering) where
  abbrev pub visits_at : K → CountsOf K → ℕ
  visits_at k c = unwrap_or (row compare k c.visits) 0

  -- a container with these flags is entered in a turn
  abbrev pub visited : K → ℕ → Bool → ℕ → CountsOf K → CountsOf K
  visited k flags at_start turn c = record {
    visits = if counts flags at_start && counts_visits flags then with_row compare k (one_more (visits_at k c)) c.visits else c.visits;
    turns = if counts flags at_start && notes_turns flags then with_row compare k turn c.turns else c.turns;
  }

  -- this makes a row for its visits or for its turn
  abbrev pub adds_row : K → ℕ → CountsOf K → Bool
  adds_row k flags c =
      (counts_visits flags && not (is_some (row compare k c.visits))) || (notes_turns flags && not (is_some (row compare k c.turns)))

  abbrev pub visits_of : K → ℕ → CountsOf K → Result ℤ Fault
  visits_of k flags c = if counts_visits flags then Ok (pos (visits_at k c)) else Err NotCounted

  abbrev pub turns_since : K → ℕ → ℕ → CountsOf K → Result ℤ Fault
  turns_since k flags turn c = if notes_turns flags then Ok (turns_from (row compare k c.turns) turn) else Err NotCounted
