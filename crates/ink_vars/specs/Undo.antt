-- How changes of globals and counts are put back.
use Rattle.std.specs.Ordering.{nat_cmp}
use Rattle.std.specs.Prelude.{◌≡◌, ◌≤◌, ◌<◌, ◌-◌, ⊤, ℕ, Bool, List, [], ◌∷◌, Option, None, is_some, IfSome, if◌then◌else◌, true}
use Rattle.ink_vars.specs.Globals.{set_value_at}
use Rattle.ink_model.specs.Variables.Counts.{CountsOf}
use Rattle.ink_model.specs.Variables.Rows.{row}
use Rattle.ink_model.specs.Variables.Store.{Values}
use Rattle.ink_model.specs.declared.limits.TheConstants.{MAX_COUNT}
use Rattle.ink_trail.specs.Undo.{Undo, but_last, spare, stood_at, with_pair}
use Rattle.ink_vars.specs.Changes.{noted_at}
use Rattle.ink_vars.specs.Slots.{rows_from, with_slot}
use Rattle.ink_vars.specs.Views.{CountsView, GlobalsView}
use Rattle.ink_vars.specs.declared.changes.Before.{Before}
use Rattle.ink_vars.specs.declared.undo.CountPair.{CountPair}
use Rattle.ink_vars.specs.declared.undo.CountPair.TheVariants.{Visits, Turn}
use Rattle.ink_vars.specs.declared.undo.GlobalPair.{GlobalPair}
use Rattle.ink_vars.specs.declared.undo.GlobalPair.TheVariants.{Added, Changed}

-- ---- globals

-- the globals before a change
abbrev pub global_back : GlobalPair → Values → Values
global_back Added rows = but_last rows
global_back (Changed i v) rows = set_value_at rows i v

-- the globals as they stood at the mark, where one stands
unfoldable pub globals_stood : GlobalsView → Option Values
globals_stood g = stood_at global_back g.trail g.rows

-- how many changes more can be noted without memory while a mark stands; 2^64 where none does
unfoldable pub globals_spare : GlobalsView → ℕ
globals_spare g = spare g.trail

-- what was noted of the global at an index is that it was not there
abbrev pub NewAt : ℕ → List Before → Type 0
NewAt i [] = ⊤
NewAt i (b ∷ bs) = (i ≡ b.index → b.value ≡ None) × NewAt i bs

-- each global that is put back was noted, of n that there are, so that what the globals were at the moment stays known
abbrev pub Covers : List Before → ℕ → List GlobalPair → Type 0
Covers noted n [] = ⊤
Covers noted n (Added ∷ es) = NewAt (n - 1) noted × (is_some (noted_at (n - 1) noted) ≡ true) × Covers noted (n - 1) es
Covers noted n (Changed i v ∷ es) = (is_some (noted_at i noted) ≡ true) × Covers noted n es

-- ---- counts

-- the counts before a change
abbrev pub counts_back : CountPair → CountsOf ℕ → CountsOf ℕ
counts_back (Visits n o) c = record { visits = with_slot n o c.visits; turns = c.turns }
counts_back (Turn n o) c = record { visits = c.visits; turns = with_slot n o c.turns }

-- a pair more where it is wanted
abbrev pub with_wanted : Bool → CountPair → Option (Undo CountPair) → Option (Undo CountPair)
with_wanted b e u = if b then with_pair e 1 u else u

-- what both rows of a container held, each where it is wanted
abbrev pub with_rows : ℕ → Bool → Bool → CountsOf ℕ → Option (Undo CountPair) → Option (Undo CountPair)
with_rows n v t c u = with_wanted t (Turn n (row nat_cmp n c.turns)) (with_wanted v (Visits n (row nat_cmp n c.visits)) u)

-- the counts as they stood at the mark, where one stands
unfoldable pub counts_stood : CountsView → Option (CountsOf ℕ)
counts_stood c = stood_at counts_back c.trail c.rows

-- how many changes more can be noted without memory while a mark stands; 2^64 where none does
unfoldable pub counts_spare : CountsView → ℕ
counts_spare c = spare c.trail

-- the counts in two arrays
abbrev pub rows_of : List (Option ℕ) → List (Option ℕ) → CountsOf ℕ
rows_of visits turns = record { visits = rows_from 0 visits; turns = rows_from 0 turns }

-- a row that is put back has its slot, and is a count
abbrev pub HasSlot : ℕ → ℕ → CountPair → Type 0
HasSlot visits turns (Visits n o) = (n < visits) × IfSome o (λ c. c ≤ MAX_COUNT)
HasSlot visits turns (Turn n o) = (n < turns) × IfSome o (λ c. c ≤ MAX_COUNT)

abbrev pub HaveSlots : ℕ → ℕ → List CountPair → Type 0
HaveSlots visits turns [] = ⊤
HaveSlots visits turns (e ∷ es) = HasSlot visits turns e × HaveSlots visits turns es
