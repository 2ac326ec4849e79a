-- Rows as they are given: one after another.
use Rattle.std.specs.Prelude.{ℕ, List, [], ◌∷◌, Bool, true, ◌&&◌, Option, Some, None}
use Rattle.std.specs.Ordering.{is_lt}
use Rattle.ink_model.specs.Variables.Rows.{name_order}
use Rattle.ink_model.specs.Variables.Store.{Values}

abbrev pub is_after : Option (List ℕ) → List ℕ → Bool
is_after None name = true
is_after (Some last) name = is_lt (name_order last name)

-- each row's name comes after the one before it
abbrev pub rise_after : Option (List ℕ) → Values → Bool
rise_after last [] = true
rise_after last (r ∷ rs) = is_after last r.0 && rise_after (Some r.0) rs
