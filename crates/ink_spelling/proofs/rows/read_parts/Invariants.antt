use Rattle.std.proofs.Common.{◌≡◌, map}
use Rattle.ink_model.specs.Save.Asks.{text_asks}
use Rattle.ink_model.specs.Save.Unspelled.{all_of, part_of}
use Rattle.ink_spelling.proofs.Asking.{ItemsAsked}
use Rattle.ink_spelling.proofs.Lists.{count, left}
use Rattle.ink_spelling.specs.Readings.{part_as}
use Rattle.ink_spelling.proofs.rows.read_parts.Given as goal

abbrev pub invariant-loop-item : goal.invariant-loop-item
invariant-loop-item g l = record {
  all : left part_of (map part_as l.parts.items) (g.J.Json.elements l.rest) ≡ all_of part_of (g.J.Json.elements l.fn.items);
  asked : ItemsAsked part_of text_asks (g.J.Json.elements l.fn.items) (g.J.Json.elements l.rest);
}

abbrev pub decreases-loop-item : goal.decreases-loop-item
decreases-loop-item g l = count (g.J.Json.elements l.rest)
