-- What tables answer (docs/PROGRAM.md).
use Rattle.std.specs.Prelude.{ℕ, List, [], ◌∷◌, bytes_eq, Option, Some, None, if◌then◌else◌}
use Rattle.ink_model.specs.declared.host.Given.{Given}
use Rattle.ink_words.specs.declared.objects.Row.{Row}

-- the answer of the first row whose arguments are spelled so
abbrev pub answer_in : List ℕ → List Row → Option Given
answer_in text [] = None
answer_in text (r ∷ rows) = if bytes_eq text r.arguments then Some r.answer else answer_in text rows
