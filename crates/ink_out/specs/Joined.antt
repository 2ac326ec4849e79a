-- Texts one behind another.
use Rattle.std.specs.Prelude.{ℕ, List, [], ◌∷◌, ◌++◌}
use Rattle.ink_model.specs.declared.mark.Mark.{Mark}
use Rattle.ink_model.specs.declared.mark.Mark.TheVariants.{Text}

-- what the texts among marks say
abbrev pub texts_of : List Mark → List ℕ
texts_of [] = []
texts_of (Text t ∷ ms) = t ++ texts_of ms
texts_of (m ∷ ms) = texts_of ms
