-- Bytes of texts: which they are, cutting and splitting.
use Rattle.std.specs.Prelude.{ℕ, ◌+◌, ◌-◌, ◌*◌, List, [], ◌∷◌, ◌++◌, length, reverse, Bool, true, false, not, ◌&&◌, ◌||◌, ◌==◌, nat_le, if◌then◌else◌, Option, Some, None}
use Rattle.std.specs.List.{list_any}
use Rattle.std.specs.Option.{option_map}
use Rattle.ink_model.specs.declared.limits.TheConstants.{MAX_TEXT}

abbrev pub is_newline : ℕ → Bool
is_newline c = c == 10

-- a space or a tab
abbrev pub is_blank : ℕ → Bool
is_blank c = c == 32 || c == 9

-- a space, a tab or a newline
abbrev pub is_white : ℕ → Bool
is_white c = is_blank c || is_newline c

abbrev pub has_newline : List ℕ → Bool
has_newline cs = list_any is_newline cs

abbrev pub is_dot : ℕ → Bool
is_dot c = c == 46

abbrev pub is_digit : ℕ → Bool
is_digit c = nat_le 48 c && nat_le c 57

-- there is a byte
abbrev pub is_filled : List ℕ → Bool
is_filled [] = false
is_filled (c ∷ cs) = true

-- a text is within its limit
abbrev pub fits_text : List ℕ → Bool
fits_text cs = nat_le (length cs) MAX_TEXT

-- the longest beginning of which each byte passes, and the rest
abbrev pub leading : (ℕ → Bool) → List ℕ → List ℕ
leading test [] = []
leading test (c ∷ cs) = if test c then c ∷ leading test cs else []

abbrev pub without : (ℕ → Bool) → List ℕ → List ℕ
without test [] = []
without test (c ∷ cs) = if test c then without test cs else c ∷ cs

-- the same at the end
abbrev pub trailing : (ℕ → Bool) → List ℕ → List ℕ
trailing test cs = reverse (leading test (reverse cs))

abbrev pub trimmed : (ℕ → Bool) → List ℕ → List ℕ
trimmed test cs = reverse (without test (reverse cs))

-- a text begins with another
abbrev pub begins_with : List ℕ → List ℕ → Bool
begins_with cs [] = true
begins_with [] (d ∷ ds) = false
begins_with (c ∷ cs) (d ∷ ds) = c == d && begins_with cs ds

-- a text stands in another
abbrev pub has : List ℕ → List ℕ → Bool
has [] ds = not (is_filled ds)
has (c ∷ cs) ds = begins_with (c ∷ cs) ds || has cs ds

-- what follows a word at a line's beginning
abbrev pub after : List ℕ → List ℕ → Option (List ℕ)
after [] cs = Some cs
after (d ∷ ds) [] = None
after (d ∷ ds) (c ∷ cs) = if d == c then after ds cs else None

-- what stands before the first space, and what stands after it
abbrev pub at_space : List ℕ → Option (List ℕ × List ℕ)
at_space [] = None
at_space (c ∷ cs) = if c == 32 then Some ([], cs) else option_map (λ r. (c ∷ r.0, r.1)) (at_space cs)

-- a byte in front of the first of the pieces
abbrev pub onto : ℕ → List (List ℕ) → List (List ℕ)
onto c [] = (c ∷ []) ∷ []
onto c (piece ∷ pieces) = (c ∷ piece) ∷ pieces

-- the pieces between the bytes that pass
abbrev pub pieces : (ℕ → Bool) → List ℕ → List (List ℕ)
pieces test [] = [] ∷ []
pieces test (c ∷ cs) = if test c then [] ∷ pieces test cs else onto c (pieces test cs)

-- the pieces, with a byte between any two
abbrev pub joined : ℕ → List (List ℕ) → List ℕ
joined c [] = []
joined c (piece ∷ []) = piece
joined c (piece ∷ next ∷ rest) = piece ++ c ∷ joined c (next ∷ rest)

-- the number of some digits
abbrev pub number_from : ℕ → List ℕ → ℕ
number_from n [] = n
number_from n (c ∷ cs) = number_from (n * 10 + (c - 48)) cs
