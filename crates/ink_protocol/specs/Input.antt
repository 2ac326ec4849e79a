-- What is read ahead of the lines, and what is taken of it.
use Rattle.std.specs.Prelude.{◌≡◌, ◌<◌, ◌≤◌, ◌+◌, ℕ, List, [], ◌∷◌, ◌++◌, length, take, drop, Bool, true, false, Option, Result, Ok, Err}
use Rattle.std.specs.Io.KnownBytes.{Consumes, IsAtEnd}
use Rattle.ink_protocol.specs.Buffered.{Buffered}
use Rattle.ink_model.specs.Text.Bytes.{has_newline}
use Rattle.ink_protocol.specs.declared.fault.RunFault.{RunFault}
use Rattle.ink_protocol.specs.declared.fault.RunFault.TheVariants as fault
use Rattle.ink_protocol.specs.declared.input.Cut.{Cut}
use Rattle.ink_protocol.specs.declared.input.Cut.TheVariants as cut
use Rattle.ink_protocol.specs.declared.input.Next.{Next}
use Rattle.ink_protocol.specs.declared.input.Next.TheVariants as next
use Rattle.ink_protocol.specs.declared.input.ReadFailed.{ReadFailed}

-- From one moment to another these bytes were taken, and the source gave what it took beyond those that were read.
pub record Takes (left left' : Option (List ℕ)) (old new : Buffered) (taken : List ℕ) : Type 0 where
  pub got : List ℕ
  pub consumed : Consumes left left' got
  pub bytes : old.unread ++ got ≡ taken ++ new.unread
  pub count : new.spare + length taken ≡ old.spare

-- Bytes, the end, or a byte that is one too many.
abbrev pub GivesNext : Option (List ℕ) → Option (List ℕ) → Buffered → Buffered → Result Next ReadFailed → Type 0
GivesNext left left' old new (Ok next.Bytes) = Takes left left' old new [] × (0 < length new.unread) × (length new.unread ≤ new.spare)
GivesNext left left' old new (Ok next.End) = Takes left left' old new [] × (new.unread ≡ []) × IsAtEnd left'
GivesNext left left' old new (Ok next.TooMany) = Takes left left' old new [] × (new.spare ≡ 0) × (0 < length new.unread)
GivesNext left left' old new (Err e) = Takes left left' old new [] × (new.unread ≡ [])

-- Nothing is left of what was read, and no more came.
abbrev pub finds_end : {T E : Type 0} → Result T E → List ℕ → Bool
finds_end (Ok x) [] = true
finds_end (Ok x) (byte ∷ unread) = false
finds_end (Err e) unread = false

-- whether the source's end stands next
abbrev pub is_end : Result Next ReadFailed → Bool
is_end (Ok next.Bytes) = false
is_end (Ok next.End) = true
is_end (Ok next.TooMany) = false
is_end (Err e) = false

-- A newline stands there, and none before it.
abbrev pub IsNewlineAt : List ℕ → ℕ → Type 0
IsNewlineAt bytes n = (has_newline (take n bytes) ≡ false) × (drop n bytes ≡ 10 ∷ drop (n + 1) bytes) × (n < length bytes)

-- a piece at a line's end; or none where the line would be longer than it may be, and else where memory was refused
abbrev pub Extends : List ℕ → List ℕ → ℕ → List ℕ → Result (Unit {0}) RunFault → Type 0
Extends old piece limit new (Ok x) = (new ≡ old ++ piece) × (length old ≤ limit → length new ≤ limit)
Extends old piece limit new (Err fault.Read) = ⊥
Extends old piece limit new (Err fault.Write) = ⊥
Extends old piece limit new (Err fault.TooLong) = limit < length old + length piece
Extends old piece limit new (Err fault.OutOfMemory) = (length old + length piece ≤ limit) × (0 < length piece)

-- A piece with no newline in it is cut off what was read, and `taken` is taken with it.
pub record CutsOff (old new : Buffered) (piece taken : List ℕ) : Type 0 where
  pub bytes : old.unread ≡ taken ++ new.unread
  pub count : new.spare + length taken ≡ old.spare
  pub plain : has_newline piece ≡ false

-- A piece is moved to a line's end: up to a newline, or all that was read; or why not.
abbrev pub Cuts : List ℕ → ℕ → Buffered → Buffered → List ℕ → Result Cut RunFault → Type 0
Cuts line limit old new line' (Ok cut.Newline) = (piece : List ℕ) × CutsOff old new piece (piece ++ 10 ∷ []) × Extends line piece limit line' (Ok tt)
Cuts line limit old new line' (Ok cut.More) = (piece : List ℕ) × CutsOff old new piece piece × (0 < length piece) × Extends line piece limit line' (Ok tt)
Cuts line limit old new line' (Err f) = (piece : List ℕ) × CutsOff old new piece piece × Extends line piece limit line' (Err f)
