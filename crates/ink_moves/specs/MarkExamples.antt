-- How many changes of threads a move makes room for (docs/RUNNING.md, "Marks"), proved by computation.
use Rattle.std.specs.Prelude.{◌≡◌, refl}
use Rattle.ink_moves.specs.declared.flow.TheConstants.{MOVING}

moving : MOVING ≡ 108
moving = refl
