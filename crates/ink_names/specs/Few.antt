-- Names of a few bytes, compared as numbers.
use Rattle.std.specs.Prelude.{ℕ, ◌+◌, ◌*◌, List, slice_index}

-- four bytes from an index on as one number
abbrev pub four_at : List ℕ → ℕ → ℕ
four_at bytes at = slice_index bytes at + 256 * slice_index bytes (at + 1) + 65536 * slice_index bytes (at + 2) + 16777216 * slice_index bytes (at + 3)
