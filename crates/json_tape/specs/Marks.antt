-- Which names the members of an object may have.
use Rattle.std.specs.Prelude.{◌≡◌, ℕ, ◌+◌, ◌-◌, ◌*◌, ◌/◌, ◌%◌, List, length, get_or, Option, None}
use Rattle.json_tape.specs.declared.marks.Marks.{Marks}

-- the slot of a name, by its length, its first byte and its last
abbrev pub slot : List ℕ → ℕ
slot name = (length name % 32 + get_or name 0 0 + get_or name 0 0 / 8 + 2 * get_or name (length name - 1) 0) % 32

-- a name leads nowhere where its slot has no mark
abbrev pub AreMarked : {X : Type 0} → Marks → (List ℕ → Option X) → Type 0
AreMarked marks found = (name : List ℕ) → get_or marks.slots (slot name) 0 ≡ 0 → found name ≡ None
