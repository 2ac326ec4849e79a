-- What is known of the marks of a section.
use Rattle.std.specs.Prelude.{◌≡◌, ℕ, ◌<◌, nat_le, List, [], ◌∷◌, ◌++◌, length, reverse, Option, None, Some, Bool, false, ◌==◌, if◌then◌else◌}
use Rattle.ink_model.specs.declared.mark.Mark.{Mark}
use Rattle.ink_model.specs.declared.mark.Mark.TheVariants.{Text, Tag, Enter}
use Rattle.ink_out.specs.declared.enters.Enters.{Enters}
use Rattle.ink_out.specs.declared.enters.Start.{Start}
use Rattle.ink_out.specs.declared.state.State.{State}
use Rattle.ink_out.specs.Tracks.{Tracks}

-- Marks before are listed nearest first.

-- the index of the last Text or Tag
abbrev pub more_at : List Mark → Option ℕ
more_at [] = None
more_at (Text t ∷ before) = Some (length before)
more_at (Tag t ∷ before) = Some (length before)
more_at (m ∷ before) = more_at before

abbrev pub is_past : ℕ → Option ℕ → Bool
is_past i None = false
is_past i (Some k) = nat_le i k

-- each less than the one before it, and the first than the number
abbrev pub Falling : ℕ → List ℕ → Type 0
Falling n [] = Unit {0}
Falling n (k ∷ ks) = (k < n) × Falling k ks

-- the state after some marks, with the newlines that a text settled, the last first
pub record Stands (before : List Mark) (settled : List ℕ) (s : State) : Type 0 where
  pub tracks : Tracks before s.tracker settled
  pub more : s.more ≡ more_at before

-- the index of the nearest start of a number
abbrev pub started : ℕ → List Start → Option ℕ
started n [] = None
started n (s ∷ starts) = if n == s.number then Some s.at else started n starts

-- the starts, the nearest first
abbrev pub starts_of : List Mark → List Start
starts_of [] = []
starts_of (Enter k ∷ before) = record { number = k; at = length before } ∷ starts_of before
starts_of (m ∷ before) = starts_of before

-- the numbers entered
pub record Knows (enters : Enters) (before : List Mark) : Type 0 where
  pub starts : reverse enters.starts.items ≡ starts_of before

-- so many of these starts were passed
pub record Passing : Type 0 where
  pub starts : List Start
  pub count : ℕ

-- of all these starts, those of some marks were passed
pub record Passes (starts : List Start) (passed : Passing) (before : List Mark) : Type 0 where
  pub same : passed.starts ≡ starts
  pub count : passed.count ≡ length (starts_of before)

-- these starts are those of some marks, and of marks behind them
abbrev pub Leads : List Start → List Mark → Type 0
Leads starts before = (ahead : List Start) × (starts ≡ reverse (starts_of before) ++ ahead)

-- a section's marks and its settled newlines, both the oldest first
pub record Sees (marks : List Mark) (settled : List ℕ) (state : State) (enters : Enters) : Type 0 where
  pub stands : Stands (reverse marks) (reverse settled) state
  pub knows : Knows enters (reverse marks)

-- the state after these marks
abbrev pub IsStateOf : List Mark → State → Type 0
IsStateOf marks state = (settled : List ℕ) × Stands (reverse marks) settled state
