-- Telling watchers of changes (docs/HOST.md).
use Rattle.std.specs.Prelude.{◌≡◌, ℕ, List, [], ◌∷◌, ◌++◌, Bool, true, false, bytes_eq, ◌||◌, if◌then◌else◌}
use Rattle.ink_model.specs.Host.Events.{after}
use Rattle.ink_host.specs.declared.objects.Seen.{Seen}
use Rattle.ink_model.specs.declared.host.Change.{Change}
use Rattle.ink_host.specs.Desk.{Rows, counted, each, entries_as_rows}

-- ---- changes

-- one of the changes is of this name
abbrev pub named : List ℕ → List Change → Bool
named n [] = false
named n (c ∷ cs) = bytes_eq c.name n || named n cs

-- ---- states of watchers

-- What is seen of a watcher: what it was told, whether it is at rest, and how often it was begun, ended and refused memory.
pub record Watching : Type 0 where
  pub log : List Seen
  pub resting : Bool
  pub begins : ℕ
  pub ends : ℕ
  pub refusals : ℕ

abbrev pub begun : Watching → Watching
begun s = record { log = s.log; resting = false; begins = counted s.begins; ends = s.ends; refusals = s.refusals }

abbrev pub round_ended : Watching → Watching
round_ended s = record { log = s.log; resting = true; begins = s.begins; ends = counted s.ends; refusals = s.refusals }

-- it took a change
abbrev pub change_taken : Seen → Watching → Watching
change_taken c s = record { log = s.log ++ c ∷ []; resting = s.resting; begins = s.begins; ends = s.ends; refusals = s.refusals }

-- it was refused memory for one
abbrev pub refused : Watching → Watching
refused s = record { log = s.log; resting = s.resting; begins = s.begins; ends = s.ends; refusals = counted s.refusals }

-- the watchers of a map, as they are seen
abbrev pub standing : {S W : Type 0} → (S → List ℕ) → (W → Watching) → List (S × W) → Rows Watching
standing name state entries = entries_as_rows name state entries

-- the watchers whose names pass are at rest, or none of them is
abbrev pub Stand : (List ℕ → Bool) → Bool → Rows Watching → Type 0
Stand test resting [] = Unit {0}
Stand test resting (r ∷ rows) = (test r.0 ≡ true → r.1.resting ≡ resting) × Stand test resting rows

-- the watcher of one name changes
abbrev pub change : List ℕ → (Watching → Watching) → Rows Watching → Rows Watching
change n f rows = each (λ m s. if bytes_eq n m then f s else s) rows

-- the watcher of each change in turn
abbrev pub in_turn : (Watching → Watching) → List Change → Rows Watching → Rows Watching
in_turn f [] rows = rows
in_turn f (c ∷ cs) rows = in_turn f cs (change c.name f rows)

-- Each change in turn is told to its watcher, by one answer for each: it took it, with the next stamp from n on, or it was refused
-- memory.
abbrev pub heard : ℕ → List Change → List Bool → Rows Watching → Rows Watching
heard n [] answers rows = rows
heard n (c ∷ cs) [] rows = rows
heard n (c ∷ cs) (true ∷ answers) rows = heard (after n) cs answers (change c.name (change_taken (record { stamp = n; name = c.name; value = c.value })) rows)
heard n (c ∷ cs) (false ∷ answers) rows = heard n cs answers (change c.name refused rows)

-- A round: the watcher of each change is begun, in order; then each is told, in order; then each is ended, in order.
abbrev pub round : ℕ → List Change → List Change → List Bool → Rows Watching → Rows Watching
round n cs told answers rows = in_turn round_ended cs (heard n told answers (in_turn begun cs rows))

-- what a watcher was told
abbrev pub log_of : {W : Type 0} → (W → Watching) → W → List Seen
log_of state w = (state w).log

-- it is being told nothing
abbrev pub rests : {W : Type 0} → (W → Watching) → W → Bool
rests state w = (state w).resting

-- Between two states of the watchers there was one round: those of the first changes were begun and ended, and the second, which are
-- those of them that somebody watches, were told, with these answers. A player has one list for both.
abbrev pub IsRound : {W : Type 0} → (W → Watching) → ℕ → List Change → List Change → List Bool → Rows W → Rows W → Type 0
IsRound state n cs told answers old new = each (λ m w. state w) new ≡ round n cs told answers (each (λ m w. state w) old)
