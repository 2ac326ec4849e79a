use Rattle.std.proofs.Common.{◌≡◌}
use Rattle.ink_model.specs.Save.Unspelled.{rows_of}
use Rattle.ink_spelling.proofs.Asking.{RowsAsked}
use Rattle.ink_spelling.proofs.Lists.{members_count, rows_left}
use Rattle.ink_spelling.proofs.temps.read_rows.Given as goal

abbrev pub invariant-loop-name : goal.invariant-loop-name
invariant-loop-name g l = record {
  all : rows_left l.rows.items (g.J.Json.members l.rest) ≡ rows_of (g.J.Json.members l.fn.members);
  asked : RowsAsked (g.J.Json.members l.fn.members) (g.J.Json.members l.rest);
}

abbrev pub decreases-loop-name : goal.decreases-loop-name
decreases-loop-name g l = members_count (g.J.Json.members l.rest)
