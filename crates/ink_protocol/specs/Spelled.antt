-- Lines as they stand in an input, and what stands in it where a line or the input is over its limit.
use Rattle.std.specs.Prelude.{◌≡◌, ◌<◌, ◌≤◌, ◌+◌, ℕ, List, [], ◌∷◌, ◌++◌, length, false, ◌⊎◌, Option}
use Rattle.std.specs.List.{AllByRecursion}
use Rattle.std.specs.Io.KnownBytes.{IsAtEnd}
use Rattle.ink_model.specs.Text.Bytes.{has_newline, is_newline}
use Rattle.ink_model.specs.declared.limits.TheConstants.{MAX_LINE}

pub record IsLine (line : List ℕ) : Type 0 where
  pub plain : has_newline line ≡ false
  pub within : length line ≤ MAX_LINE

-- lines as they stand in an input, each with its newline
abbrev pub spelled : List (List ℕ) → List ℕ
spelled [] = []
spelled (line ∷ lines) = line ++ 10 ∷ spelled lines

-- The input begins with these lines, each whole and within its limit, and behind them stands rest.
pub record Splits (input : List ℕ) (lines : List (List ℕ)) (rest : List ℕ) : Type 0 where
  pub whole : input ≡ spelled lines ++ rest
  pub each : AllByRecursion IsLine lines

-- rest begins with this line and its newline, or is this line, which the reader's end ends
abbrev pub IsFirst : Option (List ℕ) → List ℕ → List ℕ → Type 0
IsFirst left rest line = ((more : List ℕ) × (rest ≡ line ++ 10 ∷ more)) ⊎ ((rest ≡ line) × (0 < length line) × IsAtEnd left)

-- rest begins with more bytes than a line may have, and no newline among them
pub record IsLongLine (rest : List ℕ) : Type 0 where
  pub front : List ℕ
  pub more : List ℕ
  pub whole : rest ≡ front ++ more
  pub plain : has_newline front ≡ false
  pub long : MAX_LINE < length front

-- more bytes stand there than an input may have, and no further newline among as many as it may have
pub record IsLongInput (most : ℕ) (served : List (List ℕ)) (rest : List ℕ) : Type 0 where
  pub front : List ℕ
  pub more : List ℕ
  pub whole : rest ≡ front ++ more
  pub plain : has_newline front ≡ false
  pub count : length (spelled served) + length front ≡ most
  pub long : 0 < length more

-- Memory may be refused for a byte of the line with which rest begins: there is such a byte, and what was read shows neither the
-- line nor the input over its limit.
pub record HasRoom (limit most : ℕ) (input rest : List ℕ) : Type 0 where
  pub byte : ℕ
  pub more : List ℕ
  pub whole : rest ≡ byte ∷ more
  pub plain : is_newline byte ≡ false
  pub in_line : length rest ≤ limit
  pub in_input : length input ≤ most
