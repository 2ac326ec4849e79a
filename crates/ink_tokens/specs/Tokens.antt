-- Tokens that are written.
use Rattle.std.specs.Prelude.{◌≡◌, List, ◌++◌}
use Rattle.json.specs.Token.{Token}
use Rattle.json.specs.Tree.{json_tokens}
use Rattle.json.specs.Written.{Written}
use Rattle.serde_json.specs.Data.{Data}
use Rattle.serde_json.specs.Written.{outline}

-- the tokens of a value
abbrev pub data_tokens : Data → List Token
data_tokens d = json_tokens (outline d)

-- A writer has these tokens behind those that it had.
pub record Added (old new : Written) (added : List Token) : Type 0 where
  pub tokens : new.tokens ≡ old.tokens ++ added
  pub before : new.before ≡ old.before
