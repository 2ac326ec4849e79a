-- What a tracker knows of the marks of a section.
use Rattle.std.specs.Prelude.{◌≡◌, ℕ, ◌<◌, nat_lt, nat_le, List, [], ◌∷◌, ◌++◌, length, Option, None, Some, Bool, true, false, not, ◌||◌, ◌&&◌, ◌==◌, if◌then◌else◌}
pub use Rattle.ink_model.specs.Text.Shown.{has_text}
use Rattle.ink_model.specs.Text.Shown.{glued, newline_before, glues, covered, shown_before, newline_last, newlines_before, has_more}
use Rattle.ink_model.specs.declared.mark.Mark.{Mark}
use Rattle.ink_model.specs.declared.mark.Mark.TheVariants.{Text, Enter}
use Rattle.ink_out.specs.declared.tracker.Hides.{Hides}
use Rattle.ink_out.specs.declared.tracker.Hides.TheVariants.{Near, Any, Never}
use Rattle.ink_out.specs.declared.tracker.Waiting.{Waiting}
use Rattle.ink_out.specs.declared.tracker.First.{First}
use Rattle.ink_out.specs.declared.tracker.Tracker.{Tracker}

-- Marks before are listed nearest first, marks after in order.

-- the marks behind an index, the last first
abbrev pub since : List Mark → ℕ → List Mark
since [] at = []
since (m ∷ before) at = if nat_lt at (length before) then m ∷ since before at else []

-- ---- the newline that waits

-- marks that follow hide it by their glue
abbrev pub hidden_by : Hides → List Mark → Bool
hidden_by Near after = glues after
hidden_by Any after = glued after
hidden_by Never after = false

abbrev pub waits : List Mark → Waiting → List Mark → Bool
waits before w after = not (hidden_by w.hides after || covered (since before w.at) after)

abbrev pub waiting : List Mark → Option Waiting → List Mark → Bool
waiting before None after = false
waiting before (Some w) after = waits before w after

abbrev pub waiting_at : List Mark → Option Waiting → List Mark → List ℕ
waiting_at before None after = []
waiting_at before (Some w) after = if waits before w after then w.at ∷ [] else []

-- the first blank is of a section without a text
abbrev pub IsBroken : Option First → Type 0
IsBroken None = Unit {0}
IsBroken (Some b) = b.broken ≡ true

pub record FitsNewline (before : List Mark) (s : Tracker) (w : Waiting) : Type 0 where
  pub within : w.at < length before
  pub breaks : s.broken ≡ true
  pub any : w.hides ≡ Any → (s.text ≡ false) × IsBroken s.blank
  pub tagged : w.tagged ≡ has_more (since before w.at)

abbrev pub FitsWaiting : List Mark → Tracker → Option Waiting → Type 0
FitsWaiting before s None = Unit {0}
FitsWaiting before s (Some w) = FitsNewline before s w

-- ---- the first blank

abbrev pub stays : List Mark → Option First → List Mark → Bool
stays before None after = false
stays before (Some b) after = not (covered (since before b.at) after || (b.broken && glued after))

pub record FitsBlank (before : List Mark) (s : Tracker) (b : First) : Type 0 where
  pub within : b.at < length before
  pub breaks : b.broken ≡ true → s.broken ≡ true
  pub textless : s.text ≡ false

abbrev pub FitsFirst : List Mark → Tracker → Option First → Type 0
FitsFirst before s None = Unit {0}
FitsFirst before s (Some b) = FitsBlank before s b

-- ---- the tracker

-- what it answers, whatever follows; the shown newlines that nothing can hide any more are settled, the nearest first
pub record Tracks (before : List Mark) (s : Tracker) (settled : List ℕ) : Type 0 where
  pub text : s.text ≡ has_text before
  pub glue : s.glue ≡ glued before
  pub breaks : s.broken ≡ newline_before before
  pub fits : FitsWaiting before s s.newline
  pub first : FitsFirst before s s.blank
  pub newlines : (after : List Mark) → newlines_before before after ≡ waiting_at before s.newline after ++ settled
  pub ends : (after : List Mark) → newline_last before after ≡ waiting before s.newline after
  pub some : (after : List Mark) → shown_before before after ≡ (s.text || stays before s.blank after)

-- a text settles the newline that waits
abbrev pub settled_by : Option Waiting → List ℕ → List ℕ
settled_by None settled = settled
settled_by (Some w) settled = w.at ∷ settled

-- the settled newlines after one more mark
abbrev pub settled_after : Mark → Option Waiting → List ℕ → List ℕ
settled_after (Text t) w settled = settled_by w settled
settled_after m w settled = settled

-- ---- how far a Leave reaches

-- the index of the nearest Enter of a number
abbrev pub enter_at : ℕ → List Mark → Option ℕ
enter_at n [] = None
enter_at n (Enter k ∷ before) = if n == k then Some (length before) else enter_at n before
enter_at n (m ∷ before) = enter_at n before

-- to its Enter, and to the section's start where there is none
abbrev pub reach_of : Option ℕ → List Mark → Option ℕ
reach_of None before = None
reach_of (Some n) before = enter_at n before

-- it reaches past an index
abbrev pub reached : ℕ → Option ℕ → Bool
reached at None = true
reached at (Some enter) = nat_le enter at
