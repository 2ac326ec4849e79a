-- Where a name stands among the rows of a frame.
use Rattle.std.specs.Prelude.{◌≡◌, ◌<◌, ◌≤◌, ℕ, List, ◌∷◌, ◌++◌, length, get_or, set, take, drop, Some, None, Result, Ok, Err}
use Rattle.ink_model.specs.Variables.Rows.{name_order, row, with_row}
use Rattle.ink_model.specs.Variables.Store.{Values}
use Rattle.ink_model.specs.declared.value.Value.{Value}

-- Found, a name's value is read and written at its row; else the name has no value, and a new row would stand there.
abbrev pub FindsName : List ℕ → Values → Result ℕ ℕ → Type 0
FindsName name rows (Ok i) =
    (i < length rows)
    × ((d : List ℕ × Value) → row name_order name rows ≡ Some (get_or rows i d).1)
    × ((d : List ℕ × Value) (v : Value) → with_row name_order name v rows ≡ set rows i ((get_or rows i d).0, v))
FindsName name rows (Err i) =
    (i ≤ length rows)
    × (row name_order name rows ≡ None)
    × ((v : Value) → with_row name_order name v rows ≡ take i rows ++ (name, v) ∷ drop i rows)
