-- The part that leads to a content from the content around it.
use Rattle.std.specs.Prelude.{⊤, ◌<◌, ◌^◌, Option, Some, None}
use Rattle.ink_model.specs.declared.place.Part.{Part}
use Rattle.ink_model.specs.declared.place.Part.TheVariants.{Index, Name}

-- an index can be told from a name by its size
abbrev pub FitsLast : Option Part → Type 0
FitsLast None = ⊤
FitsLast (Some (Index i)) = i < 2 ^ 31
FitsLast (Some (Name n)) = ⊤
