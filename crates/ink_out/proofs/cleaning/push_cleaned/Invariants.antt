use denote.Shadow.{shadow}
use denote.Text.{Utf8}
use Rattle.std.proofs.Common.{◌≡◌, ℕ, List, ◌++◌, length, string_bytes}
use Rattle.ink_out.specs.Cleaning.{cleaned_on}
use Rattle.ink_out.proofs.cleaning.push_cleaned.Given as goal

abbrev pub invariant-loop-rest : goal.invariant-loop-rest
invariant-loop-rest l =
    shadow (Utf8 l.rest)
    × ((more : List ℕ) → string_bytes l.text ++ cleaned_on l.before (l.rest ++ more) ≡ string_bytes l.fn.text ++ cleaned_on l.fn.before (l.piece ++ more))

abbrev pub decreases-loop-rest : goal.decreases-loop-rest
decreases-loop-rest l = length l.rest
