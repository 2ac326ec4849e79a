-- Lines taken from what a source gives.
use Rattle.std.specs.Prelude.{◌≡◌, ◌<◌, ◌≤◌, ◌+◌, ℕ, max, List, [], ◌∷◌, ◌++◌, length, Bool, true, false, ◌⊎◌, Option, Result, Ok, Err}
use Rattle.std.specs.Io.KnownBytes.{IsAtEnd}
use Rattle.ink_model.specs.Text.Bytes.{has_newline}
use Rattle.ink_protocol.specs.Buffered.{Buffered}
use Rattle.ink_protocol.specs.Input.{Takes}
use Rattle.ink_protocol.specs.declared.lines.Line.{Line}
use Rattle.ink_protocol.specs.declared.lines.Line.TheVariants as a
use Rattle.ink_protocol.specs.declared.fault.RunFault.{RunFault}
use Rattle.ink_protocol.specs.declared.fault.RunFault.TheVariants as fault

-- Bytes were taken with no newline in a line of them, and in all no more were read than `most`, but for what had been read.
pub record TakesLine (left left' : Option (List ℕ)) (old new : Buffered) (most : ℕ) (taken line : List ℕ) : Type 0 where
  pub takes : Takes left left' old new taken
  pub room : length taken + length new.unread ≤ max (length old.unread) most
  pub plain : has_newline line ≡ false

-- The bytes of a line that was not taken whole.
pub record TakesPart (left left' : Option (List ℕ)) (old new : Buffered) (most : ℕ) : Type 0 where
  pub part : List ℕ
  pub takes : TakesLine left left' old new most part part

-- Memory was refused for a byte of a line: what was read tells neither that the line is too long nor that the input is.
pub record LineLacksMemory (left left' : Option (List ℕ)) (old new : Buffered) (limit : ℕ) : Type 0 where
  pub part : List ℕ
  pub takes : TakesLine left left' old new limit part part
  pub some : 0 < length part
  pub within : length new.unread ≤ new.spare

-- more than the limit, or as many as may be taken, and more there
abbrev pub IsTooLong : ℕ → Buffered → List ℕ → Type 0
IsTooLong limit new part = (limit < length part) ⊎ ((length part ≤ limit) × (new.spare ≡ 0) × (0 < length new.unread))

-- A line up to its newline, or up to the source's end; or why there is none. No more is read than tells that it is too long.
abbrev pub GivesLine : Option (List ℕ) → Option (List ℕ) → Buffered → Buffered → ℕ → Result Line RunFault → Type 0
GivesLine left left' old new limit (Ok (a.Whole v)) = TakesLine left left' old new (limit + 1) (v.items ++ 10 ∷ []) v.items × (length v.items ≤ limit)
GivesLine left left' old new limit (Ok (a.Last v)) = TakesLine left left' old new (limit + 1) v.items v.items × (length v.items ≤ limit) × (new.unread ≡ []) × IsAtEnd left'
GivesLine left left' old new limit (Err fault.Read) = (p : TakesPart left left' old new (limit + 1)) × (length p.part ≤ limit) × (new.unread ≡ [])
GivesLine left left' old new limit (Err fault.Write) = ⊥
GivesLine left left' old new limit (Err fault.TooLong) = (p : TakesPart left left' old new (limit + 1)) × IsTooLong limit new p.part
GivesLine left left' old new limit (Err fault.OutOfMemory) = LineLacksMemory left left' old new limit

-- whether it is what stands before the source's end
abbrev pub is_last : Result Line RunFault → Bool
is_last (Ok (a.Whole v)) = false
is_last (Ok (a.Last v)) = true
is_last (Err f) = false
