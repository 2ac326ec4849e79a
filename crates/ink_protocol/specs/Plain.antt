-- JSON values whose compact text is known.
use Rattle.std.specs.Prelude.{◌≡◌, false}
use Rattle.serde_json.specs.View.{view}
use Rattle.serde_json.specs.Written.{has_float}
use Rattle.serde_json.specs.declared.value.Value.{Value}

-- it has no float
abbrev pub IsPlain : Value → Type 0
IsPlain json = has_float (view json) ≡ false
