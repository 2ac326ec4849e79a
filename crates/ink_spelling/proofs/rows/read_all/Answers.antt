use Rattle.std.proofs.Common.{◌∙◌, ap, inr, sym}
use Rattle.ink_model.specs.Save.Asks.{none_asks, pair_asks, place_asks}
use Rattle.ink_model.specs.Save.Unspelled.{all_of, count_of, pair_of, place_of}
use Rattle.ink_spelling.proofs.Asking.{item_kept, or_else}
use Rattle.ink_spelling.proofs.Lists.{fewer, left, left_more}
use Rattle.ink_spelling.proofs.rows.read_all.Goals as goal

pub loop-item-smaller : goal.loop-item-smaller
loop-item-smaller g c = fewer (g.J.Json.elements c.loop-item.rest) (g.J.Json.spells c.in-Some.item) (g.J.Json.elements c.next_item.new.left) c.in-Some.ensures

pub loop-item-preserved : goal.loop-item-preserved
loop-item-preserved g c =
    let elements = g.J.Json.elements in
    let f = pair_of place_of count_of in
    let item = g.J.Json.spells c.in-Some.item in
    let kept = sym c.in-Some-2.is ∙ c.in_ok-row.ensures.found in
    record {
      all = ap (λ xs. left f xs (elements c.next_item.new.left)) c.in_ok-push-in-Some-2.ensures.items
          ∙ left_more f c.loop-item.made.items (all_of f (elements c.args.items)) (elements c.loop-item.rest) item (elements c.next_item.new.left) c.in-Some.ensures c.in-Some-2.row
          kept c.loop-item.invariant.all;
      asked = inr (item_kept f (pair_asks place_of place_asks none_asks) (elements c.args.items) (elements c.loop-item.rest) item (elements c.next_item.new.left) c.in-Some-2.row
          c.in-Some.ensures kept c.loop-item.invariant.asked);
    }

pub returns-in_err-push-in-Some-2-clause-memory : goal.returns-in_err-push-in-Some-2-clause-memory
returns-in_err-push-in-Some-2-clause-memory g c =
    let elements = g.J.Json.elements in
    let kept = sym c.in-Some-2.is ∙ c.in_ok-row.ensures.found in
    or_else _ (item_kept (pair_of place_of count_of) (pair_asks place_of place_asks none_asks) (elements c.args.items) (elements c.loop-item.rest) (g.J.Json.spells c.in-Some.item)
    (elements c.next_item.new.left) c.in-Some-2.row c.in-Some.ensures kept c.loop-item.invariant.asked)
