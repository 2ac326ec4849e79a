-- What a recorder shows (docs/HOST.md).
use Rattle.std.specs.Prelude.{ℕ, List, Bool}
use Rattle.ink_host.specs.declared.objects.Called.{Called}

-- the calls of a turn function, how often it was refused memory, and whether there is room for a call more
pub record Recording : Type 0 where
  pub log : List Called
  pub refusals : ℕ
  pub has_room : Bool
