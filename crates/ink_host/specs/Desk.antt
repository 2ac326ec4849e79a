-- The desk, as contracts see it: what is bound and who watches, by name, and what happened (docs/HOST.md).
use Rattle.std.specs.Prelude.{◌≡◌, ℕ, zero, suc, List, [], ◌∷◌, ◌++◌, ◌+◌, ◌%◌, ◌^◌, map, Bool, true, false, bytes_eq, Option, Some, None, Result, Ok, Err, if◌then◌else◌}
use Rattle.std.specs.Option.{option_map}
use Rattle.ink_model.specs.Host.Events.{after, later}
use Rattle.ink_model.specs.Host.Bindings as host
pub use Rattle.ink_model.specs.Variables.Named.{Rows, at, put, without}
use Rattle.ink_model.specs.declared.host.Event.{Event}
use Rattle.ink_model.specs.declared.host.Event.TheVariants.{Call, Saw}
use Rattle.ink_model.specs.declared.host.Given.{Given}
use Rattle.ink_model.specs.declared.host.HostFault.{HostFault}
use Rattle.ink_model.specs.declared.host.HostFault.TheVariants as fault
use Rattle.ink_model.specs.declared.value.Value.{Value}
use Rattle.ink_host.specs.declared.objects.Bound.{Bound}
use Rattle.ink_host.specs.declared.objects.Bound.TheVariants as bound
use Rattle.ink_host.specs.declared.objects.Called.{Called}
use Rattle.ink_host.specs.declared.objects.FnKind.{FnKind}
use Rattle.ink_host.specs.declared.objects.FnKind.TheVariants as kind
use Rattle.ink_host.specs.declared.objects.Seen.{Seen}

-- ---- rows

-- the entries of a map, with what is seen of each key and of each value
abbrev pub entries_as_rows : {S W Y : Type 0} → (S → List ℕ) → (W → Y) → List (S × W) → Rows Y
entries_as_rows name value entries = map (λ e. (name e.0, value e.1)) entries

module _ {X : Type 0} where
  -- there is a row
  abbrev pub has_rows : Rows X → Bool
  has_rows [] = false
  has_rows (r ∷ rows) = true

-- the value of the row at a place
abbrev pub value_at : {X : Type 0} → ℕ → Rows X → Option X
value_at i [] = None
value_at zero (r ∷ rows) = Some r.1
value_at (suc i) (r ∷ rows) = value_at i rows

-- the first row of a name is the one at this place
abbrev pub StandsAt : {X : Type 0} → List ℕ → ℕ → Rows X → Type 0
StandsAt name i [] = ⊥
StandsAt name zero (r ∷ rows) = bytes_eq name r.0 ≡ true
StandsAt name (suc i) (r ∷ rows) = (bytes_eq name r.0 ≡ false) × StandsAt name i rows

-- each row changed, by its name
abbrev pub each : {X Y : Type 0} → (List ℕ → X → Y) → Rows X → Rows Y
each change [] = []
each change (r ∷ rows) = (r.0, change r.0 r.1) ∷ each change rows

-- ---- the desk

pub record DeskView (P T W : Type 0) : Type 0 where
  pub functions : Rows (Bound P T)
  pub watchers : Rows W
  pub events : List Event
  pub next : ℕ

-- nothing is bound, nobody watches, and nothing happened
abbrev pub empty_desk : {P T W : Type 0} → DeskView P T W
empty_desk = record { functions = []; watchers = []; events = []; next = 0 }

-- all watchers are at rest
abbrev pub Resting : {W : Type 0} → (W → Bool) → Rows W → Type 0
Resting at_rest [] = Unit {0}
Resting at_rest (r ∷ rows) = (at_rest r.1 ≡ true) × Resting at_rest rows

abbrev pub kind_of : {P T : Type 0} → Bound P T → FnKind
kind_of (bound.Pure p) = kind.Pure
kind_of (bound.Turn t) = kind.Turn

-- ---- what the machine knows of it (by the rows of pure functions, which no call changes)

-- the pure function, where it is one
abbrev pub pure_of : {P T : Type 0} → Bound P T → Option P
pure_of (bound.Pure p) = Some p
pure_of (bound.Turn t) = None

abbrev pub binding : {P : Type 0} → (P → List Value → Option Given) → Option P → host.Binding
binding meaning None = host.turn_function
binding meaning (Some p) = host.pure_function (meaning p)

abbrev pub bound_in : {P : Type 0} → (P → List Value → Option Given) → Rows (Option P) → host.Bound
bound_in meaning rows name = option_map (binding meaning) (at name rows)

-- what each name is bound to
abbrev pub bound_by : {P T : Type 0} → (P → List Value → Option Given) → Rows (Bound P T) → host.Bound
bound_by meaning rows = bound_in meaning (each (λ n b. pure_of b) rows)

-- what the pure function that is bound to a name answers
abbrev pub answer_of : {P T : Type 0} → (P → List Value → Option Given) → Option (Bound P T) → List Value → Option Given
answer_of meaning None arguments = None
answer_of meaning (Some (bound.Pure p)) arguments = meaning p arguments
answer_of meaning (Some (bound.Turn t)) arguments = None

-- whether the pure function that is bound to a name may find no memory for its answer
abbrev pub lacks_of : {P T : Type 0} → (P → List Value → Bool) → Option (Bound P T) → List Value → Bool
lacks_of may_lack None arguments = false
lacks_of may_lack (Some (bound.Pure p)) arguments = may_lack p arguments
lacks_of may_lack (Some (bound.Turn t)) arguments = false

-- a name is among others
abbrev pub among : List (List ℕ) → List ℕ → Bool
among [] name = false
among (n ∷ ns) name = if bytes_eq name n then true else among ns name

abbrev pub names : {X : Type 0} → Rows X → List (List ℕ)
names [] = []
names (r ∷ rows) = r.0 ∷ names rows

-- a name is watched
abbrev pub watches : {W : Type 0} → Rows W → List ℕ → Bool
watches rows = among (names rows)

-- ---- what happened

-- the calls of the turn function of a name, as it notes them
abbrev pub called_by : List ℕ → List Event → List Called
called_by name [] = []
called_by name (Call to arguments gave n ∷ es) =
    if bytes_eq name to then (record { stamp = n; arguments = arguments; gave = gave }) ∷ called_by name es else called_by name es
called_by name (Saw of n v ∷ es) = called_by name es

-- what the watcher of a name was told, as it notes it
abbrev pub seen_by : List ℕ → List Event → List Seen
seen_by name [] = []
seen_by name (Call to arguments gave n ∷ es) = seen_by name es
seen_by name (Saw of n v ∷ es) = if bytes_eq name of then (record { stamp = n; name = of; value = v }) ∷ seen_by name es else seen_by name es

abbrev pub stamp_of : Event → ℕ
stamp_of (Call to arguments gave n) = n
stamp_of (Saw of n v) = n

-- the stamps count on from n
abbrev pub IsNumbered : ℕ → List Event → Type 0
IsNumbered n [] = Unit {0}
IsNumbered n (e ∷ es) = (stamp_of e ≡ n) × IsNumbered (after n) es

-- a turn function is known by what it notes, a pure function as it is
abbrev pub by_log : {P T : Type 0} → (T → List Called) → Bound P T → Bound P (List Called)
by_log log (bound.Pure p) = bound.Pure p
by_log log (bound.Turn t) = bound.Turn (log t)

abbrev pub logs : {P T : Type 0} → (T → List Called) → Rows (Bound P T) → Rows (Bound P (List Called))
logs log rows = each (λ n b. by_log log b) rows

-- a turn function notes one call more
abbrev pub noting : {P : Type 0} → Called → Bound P (List Called) → Bound P (List Called)
noting c (bound.Pure p) = bound.Pure p
noting c (bound.Turn log) = bound.Turn (log ++ c ∷ [])

-- a function after these events, by its name
abbrev pub called : {P : Type 0} → List Event → List ℕ → Bound P (List Called) → Bound P (List Called)
called es name (bound.Pure p) = bound.Pure p
called es name (bound.Turn log) = bound.Turn (log ++ called_by name es)

-- a watcher after these events, by its name
abbrev pub told_of : List Event → List ℕ → List Seen → List Seen
told_of es name log = log ++ seen_by name es

abbrev pub grown : List Event → Rows (List Seen) → Rows (List Seen)
grown es rows = each (told_of es) rows

module _ {P T W : Type 0} (turn_log : T → List Called) (watch_log : W → List Seen) where
  -- Between two states of a desk these events happened and nothing else: they were kept, with stamps that count on, and each
  -- object was called and told what they say and no more.
  pub record Grew (old : DeskView P T W) (es : List Event) (new : DeskView P T W) : Type 0 where
    pub events : new.events ≡ old.events ++ es
    pub numbered : IsNumbered old.next es
    pub next : new.next ≡ later old.next es
    pub functions : logs turn_log new.functions ≡ each (called es) (logs turn_log old.functions)
    pub watchers : each (λ n w. watch_log w) new.watchers ≡ grown es (each (λ n w. watch_log w) old.watchers)

-- ---- refusals of memory

-- one more, as a counter of 64 bits counts
abbrev pub counted : ℕ → ℕ
counted n = (n + 1) % 2 ^ 64

-- how often a function was refused memory, after a call
abbrev pub refusals_after : {A : Type 0} → Result A HostFault → ℕ → ℕ
refusals_after (Ok g) n = n
refusals_after (Err fault.Refused) n = n
refusals_after (Err fault.OutOfMemory) n = counted n

-- how often what is bound was
abbrev pub refusals_of : {P T : Type 0} → (T → ℕ) → Bound P T → ℕ
refusals_of refusals (bound.Pure p) = 0
refusals_of refusals (bound.Turn t) = refusals t

abbrev pub refusals_at : {P T : Type 0} → (T → ℕ) → Option (Bound P T) → ℕ
refusals_at refusals None = 0
refusals_at refusals (Some b) = refusals_of refusals b
