use Rattle.std.proofs.Common.{◌∷◌, ◌∙◌, [], ap, inr, map}
use Rattle.std.proofs.lemmas.List.{map-append}
use Rattle.ink_model.specs.Save.Asks.{text_asks}
use Rattle.ink_model.specs.Save.Unspelled.{all_of, part_of}
use Rattle.ink_spelling.proofs.Asking.{item_kept}
use Rattle.ink_spelling.proofs.Lists.{fewer, left, left_more}
use Rattle.ink_spelling.specs.Readings.{part_as}
use Rattle.ink_spelling.proofs.rows.read_parts.Goals as goal

pub loop-item-smaller : goal.loop-item-smaller
loop-item-smaller g c = fewer (g.J.Json.elements c.loop-item.rest) (g.J.Json.spells c.in-Some.item) (g.J.Json.elements c.next_item.new.left) c.in-Some.ensures

pub loop-item-preserved : goal.loop-item-preserved
loop-item-preserved g c =
    let elements = g.J.Json.elements in
    let made = c.loop-item.parts.items in
    let part = c.in-Some-read_part.part in
    let item = g.J.Json.spells c.in-Some.item in
    record {
      all = ap (λ xs. left part_of xs (elements c.next_item.new.left)) (ap (map part_as) c.in_ok-push-in-Some-read_part.ensures.ok ∙ map-append part_as made (part ∷ []))
          ∙ left_more part_of (map part_as made) (all_of part_of (elements c.args.items)) (elements c.loop-item.rest) item (elements c.next_item.new.left) c.in-Some.ensures (part_as part)
          c.in-Some-read_part.ensures c.loop-item.invariant.all;
      asked = inr (item_kept part_of text_asks (elements c.args.items) (elements c.loop-item.rest) item (elements c.next_item.new.left) (part_as part) c.in-Some.ensures
          c.in-Some-read_part.ensures c.loop-item.invariant.asked);
    }
