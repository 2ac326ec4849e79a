-- A text that is made by pieces, as it is or cleaned.
use Rattle.std.specs.Prelude.{◌≡◌, ◌⊎◌, ◌≤◌, ◌<◌, ℕ, List, [], ◌∷◌, ◌++◌, Bool, true, false, if◌then◌else◌, Option, None, Some, drop, get_or, length, string_bytes, take}
use Rattle.ink_model.specs.Text.Bytes.{is_blank, is_newline, is_white}
use Rattle.ink_model.specs.Text.Clean.{clean}
use Rattle.ink_out.specs.declared.cleaning.Before.{Before}
use Rattle.ink_out.specs.declared.cleaning.Before.TheVariants.{Nothing, Word, Gap}
use Rattle.ink_out.specs.declared.cleaning.Shown.{Shown}

-- what is written in front of a word's character
abbrev pub space : Before → List ℕ
space Nothing = []
space Word = []
space Gap = 32 ∷ []

-- what stands before what follows a blank
abbrev pub gap : Before → Before
gap Nothing = Nothing
gap Word = Gap
gap Gap = Gap

-- what the rest of a text comes to, by what stands on the line before it
abbrev pub cleaned_on : Before → List ℕ → List ℕ
cleaned_on before [] = []
cleaned_on before (c ∷ cs) =
    if is_newline c then 10 ∷ cleaned_on Nothing cs else
    (if is_blank c then cleaned_on (gap before) cs else space before ++ c ∷ cleaned_on Word cs)

-- So many bytes of a text are words, which cleaning leaves as they are, with a space in front of them where a gap stands before them.
-- Behind them the text ends, or a blank or a newline stands.
pub record AreWords (cs : List ℕ) (n : ℕ) : Type 0 where
  pub within : n ≤ length cs
  pub cleaned : 0 < n → (before : Before) (more : List ℕ) → cleaned_on before (cs ++ more) ≡ space before ++ (take n cs ++ cleaned_on Word (drop n cs ++ more))
  pub ends : (n ≡ length cs) ⊎ (is_white (get_or cs n 0) ≡ true)

abbrev pub shown_as : Bool → List ℕ → List ℕ
shown_as true cs = clean cs
shown_as false cs = cs

-- these bytes are what was written; where they are cleaned, they are so whatever follows
abbrev pub HoldsBytes : Bool → Option Before → List ℕ → List ℕ → Type 0
HoldsBytes true None bytes written = ⊥
HoldsBytes true (Some before) bytes written = (rest : List ℕ) → bytes ++ cleaned_on before rest ≡ cleaned_on Nothing (written ++ rest)
HoldsBytes false None bytes written = bytes ≡ written
HoldsBytes false (Some before) bytes written = ⊥

abbrev pub Holds : Bool → Shown → List ℕ → Type 0
Holds cleans s written = HoldsBytes cleans s.before (string_bytes s.text) written
