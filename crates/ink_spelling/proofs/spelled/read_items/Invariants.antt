use Rattle.std.proofs.Common.{◌≡◌}
use Rattle.ink_model.specs.Save.Unspelled.{all_of}
use Rattle.ink_spelling.proofs.Asking.{ItemsAsked}
use Rattle.ink_spelling.proofs.Lists.{count, left}
use Rattle.ink_spelling.proofs.spelled.read_items.Given as goal

abbrev pub invariant-loop-item : goal.invariant-loop-item
invariant-loop-item g l = record {
  all : left g.T.Spelled.spelled l.made.items (g.J.Json.elements l.rest) ≡ all_of g.T.Spelled.spelled (g.J.Json.elements l.fn.items);
  asked : ItemsAsked g.T.Spelled.spelled g.T.Spelled.asks (g.J.Json.elements l.fn.items) (g.J.Json.elements l.rest);
}

abbrev pub decreases-loop-item : goal.decreases-loop-item
decreases-loop-item g l = count (g.J.Json.elements l.rest)
