-- How much content may be made of.
use Rattle.std.specs.Prelude.{ℕ, ◌+◌, ◌^◌, ◌≤◌, ◌<◌}
use Rattle.serde_json.specs.Data.{Data}
use Rattle.json_tape.specs.Size.{size}
use Rattle.ink_model.specs.declared.limits.TheConstants.{MAX_NESTING}

-- Content that is looked at: its nesting is one above the limit at most, and what it is made of can be counted.
abbrev pub FitsLimits : ℕ → Data → Type 0
FitsLimits nesting d = (nesting ≤ MAX_NESTING + 1) × (size d < 2 ^ 31)
