-- Names of temporaries that are set, and rows.
use Rattle.std.specs.Prelude.{ℕ, List, [], ◌∷◌}
use Rattle.ink_model.specs.Variables.Store.{Values}
use Rattle.ink_frames.specs.declared.temp_rows.Rows.{Rows}
use Rattle.ink_frames.specs.declared.temp_rows.Rows.TheVariants.{Empty, One, Many}
use Rattle.ink_frames.specs.declared.temps.TempName.{TempName}
use Rattle.ink_frames.specs.declared.temps.TempName.TheVariants.{Given, Shared}

abbrev pub text_of : TempName → List ℕ
text_of (Given name) = name.now
text_of (Shared name) = name.now

abbrev pub rows_of : Rows → Values
rows_of Empty = []
rows_of (One r) = r ∷ []
rows_of (Many rs) = rs.items
