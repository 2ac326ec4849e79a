use Rattle.std.proofs.Common.{◌≡◌}
use Rattle.ink_model.specs.Save.Asks.{none_asks, pair_asks, place_asks}
use Rattle.ink_model.specs.Save.Unspelled.{all_of, count_of, pair_of, place_of}
use Rattle.ink_spelling.proofs.Asking.{ItemsAsked}
use Rattle.ink_spelling.proofs.Lists.{count, left}
use Rattle.ink_spelling.proofs.rows.read_all.Given as goal

abbrev pub invariant-loop-item : goal.invariant-loop-item
invariant-loop-item g l = record {
  all : left (pair_of place_of count_of) l.made.items (g.J.Json.elements l.rest) ≡ all_of (pair_of place_of count_of) (g.J.Json.elements l.fn.items);
  asked : ItemsAsked (pair_of place_of count_of) (pair_asks place_of place_asks none_asks) (g.J.Json.elements l.fn.items) (g.J.Json.elements l.rest);
}

abbrev pub decreases-loop-item : goal.decreases-loop-item
decreases-loop-item g l = count (g.J.Json.elements l.rest)
