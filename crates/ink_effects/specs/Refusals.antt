-- Turn functions that were refused memory (docs/HOST.md, "Out of memory").
use Rattle.std.specs.Prelude.{◌≡◌, ◌⊎◌, ℕ, List, Result, Ok, Err, bytes_eq, false}
use Rattle.ink_host.specs.Desk.{DeskView, at, counted, refusals_at}
use Rattle.ink_model.specs.declared.fault.Fault.{Fault}
use Rattle.ink_model.specs.declared.fault.Fault.TheVariants.{OutOfMemory}

module _ {P T W : Type 0} (refusals : T → ℕ) where
  -- how often the function of a name was refused memory
  abbrev pub refusals_for : DeskView P T W → List ℕ → ℕ
  refusals_for desk name = refusals_at refusals (at name desk.functions)

  -- none was refused memory between two states of a desk
  abbrev pub KeepsRefusals : DeskView P T W → DeskView P T W → Type 0
  KeepsRefusals old new = (name : List ℕ) → refusals_for new name ≡ refusals_for old name

  -- one was, once, and no other
  pub record RefusedOnce (old new : DeskView P T W) : Type 0 where
    pub one : List ℕ
    pub once : refusals_for new one ≡ counted (refusals_for old one)
    pub others : (name : List ℕ) → bytes_eq name one ≡ false → refusals_for new name ≡ refusals_for old name

  -- none was refused memory, or one was, once, and then it ended so
  abbrev pub StopsAtRefusal : DeskView P T W → DeskView P T W → Type 0 → Type 0
  StopsAtRefusal old new ended = KeepsRefusals old new ⊎ (ended × RefusedOnce old new)

  -- A run ends with OutOfMemory where a turn function was refused memory: one at the most was, and once.
  abbrev pub RunStopsAtRefusal : {A : Type 0} → DeskView P T W → DeskView P T W → Result A Fault → Type 0
  RunStopsAtRefusal old new (Ok a) = KeepsRefusals old new
  RunStopsAtRefusal old new (Err f) = StopsAtRefusal old new (f ≡ OutOfMemory)

  -- The same of one step: no event has come of it then.
  abbrev pub StepStopsAtRefusal : {A : Type 0} → DeskView P T W → DeskView P T W → Result A Fault → Type 0
  StepStopsAtRefusal old new (Ok a) = KeepsRefusals old new
  StepStopsAtRefusal old new (Err f) = StopsAtRefusal old new ((f ≡ OutOfMemory) × (new.events ≡ old.events))
