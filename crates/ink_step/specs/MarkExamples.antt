-- How many changes of threads a step makes room for (docs/RUNNING.md, "Marks"), proved by computation.
use Rattle.std.specs.Prelude.{◌≡◌, refl}
use Rattle.ink_step.specs.declared.step.TheConstants.{STEPPING}

stepping : STEPPING ≡ 120
stepping = refl
