-- What was read ahead.
use Rattle.std.specs.Prelude.{ℕ, List}

-- Bytes that were read and not yet taken, and how many may still be taken, those among them.
pub record Buffered : Type 0 where
  pub unread : List ℕ
  pub spare : ℕ
