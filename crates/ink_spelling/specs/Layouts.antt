-- What is read of a save, in either layout.
use Rattle.std.specs.Prelude.{◌≡◌}
use Rattle.std.specs.List.{AllByRecursion as Each}
use Rattle.ink_model.specs.Run.Configuration.{unnumbered_flow}
use Rattle.ink_model.specs.Save.Reads.{Rests}
use Rattle.ink_model.specs.Save.Unspelled.{Layout}
use Rattle.ink_model.specs.Save.Unspelled as spelled
use Rattle.ink_spelling.specs.declared.layout.SavedLayout.{SavedLayout}
use Rattle.ink_spelling.specs.declared.layout.SavedLayout.TheVariants.{First, Second}

abbrev pub layout_as : SavedLayout → Layout
layout_as (First saved) = spelled.First saved
layout_as (Second game) = spelled.Second game

-- no frame has the number of an Enter, and nothing is being written
abbrev pub Rest : Layout → Type 0
Rest (spelled.First c) = Rests c
Rest (spelled.Second x) = Each (λ r. unnumbered_flow r.1 ≡ r.1) x.flows
