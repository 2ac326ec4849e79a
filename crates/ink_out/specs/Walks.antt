-- What the walk over marks has written, and what waits to be written.
use Rattle.std.specs.Prelude.{◌≡◌, ℕ, ◌<◌, nat_lt, List, [], ◌∷◌, ◌++◌, length, Option, None, Some, Bool, false, not, ◌||◌, ◌&&◌, ◌==◌, if◌then◌else◌}
use Rattle.ink_model.specs.Text.Shown.{glued, covered, is_among, text_before}
use Rattle.ink_model.specs.declared.mark.Mark.{Mark}
use Rattle.ink_model.specs.declared.mark.Mark.TheVariants.{Text, Glue}
use Rattle.ink_out.specs.declared.pile.Held.{Held}
use Rattle.ink_out.specs.declared.pile.Held.TheVariants.{Blank, Newline}
use Rattle.ink_out.specs.declared.tracker.Waiting.{Waiting}
use Rattle.ink_out.specs.declared.walk.Walk.{Walk}
use Rattle.ink_out.specs.Tracks.{since, waiting_at, reached, Tracks}
use Rattle.ink_out.specs.Cleaning.{Holds}
use Rattle.ink_out.specs.Stands.{Passes}
use Rattle.ink_out.specs.declared.enters.Start.{Start}

abbrev pub held_at : Held → ℕ
held_at (Blank at broken text) = at
held_at (Newline at) = at

-- the index of the last Glue behind the last Text
abbrev pub glue_at : List Mark → ℕ
glue_at [] = 0
glue_at (Text t ∷ before) = 0
glue_at (Glue ∷ before) = length before
glue_at (m ∷ before) = glue_at before

-- ---- what waits

-- what one shows, whatever follows
abbrev pub held_text : List Mark → Option Waiting → Held → List Mark → List ℕ
held_text before w (Blank at broken text) after =
    if not (covered (since before at) after || (broken && (glued after || nat_lt at (glue_at before)))) then text.now else []
held_text before w (Newline at) after = if is_among at (waiting_at before w after) then 10 ∷ [] else []

-- the last first
abbrev pub pile_text : List Mark → Option Waiting → List Held → List Mark → List ℕ
pile_text before w [] after = []
pile_text before w (p ∷ ps) after = pile_text before w ps after ++ held_text before w p after

-- what the end of a function's text that reaches back so far leaves
abbrev pub left_pile : Option ℕ → List Held → List Held
left_pile reach [] = []
left_pile reach (p ∷ ps) = if reached (held_at p) reach then left_pile reach ps else p ∷ ps

-- ---- where nothing more hides any

abbrev pub is_at : ℕ → Option Waiting → Bool
is_at at None = false
is_at at (Some w) = at == w.at

abbrev pub now_text : Option Waiting → ℕ → Held → List ℕ
now_text w glue (Blank at broken text) = if broken && nat_lt at glue then [] else text.now
now_text w glue (Newline at) = if is_at at w then 10 ∷ [] else []

abbrev pub pile_now : Option Waiting → ℕ → List Held → List ℕ
pile_now w glue [] = []
pile_now w glue (p ∷ ps) = pile_now w glue ps ++ now_text w glue p

-- ---- the walk

-- piled at falling indexes
abbrev pub Falls : ℕ → List Held → Type 0
Falls n [] = Unit {0}
Falls n (p ∷ ps) = (held_at p < n) × Falls (held_at p) ps

pub record Walks (cleans : Bool) (starts : List Start) (before : List Mark) (w : Walk) : Type 0 where
  pub settled : List ℕ
  pub written : List ℕ
  pub holds : Holds cleans w.shown written
  pub tracks : Tracks before w.tracker settled
  pub knows : Passes starts w.passed before
  pub glue : w.glue ≡ glue_at before
  pub falls : Falls (length before) w.held
  pub text : (after : List Mark) → text_before before after ≡ written ++ pile_text before w.tracker.newline w.held after
