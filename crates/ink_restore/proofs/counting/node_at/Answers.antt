use Rattle.std.proofs.Common.{◌≡◌, ◌∙◌, ◌++◌, ◌∷◌, [], None, arith, length, map, refl, sym, subst}
use Rattle.std.proofs.lemmas.List.{length-map, take_all, take_more}
use Rattle.ink_json.specs.Order.{key_part}
use Rattle.ink_model.specs.Story.Tree.{at}
use Rattle.ink_spelling.specs.Readings.{part_as}
use Rattle.ink_tree.proofs.Down.{missing_before}
use Rattle.ink_tree.proofs.Kept.{some_place}
use Rattle.ink_tree.proofs.Standing.{root_place}
use Rattle.ink_tree.specs.Nodes.{Finds, node_place, story_tree}
use Rattle.ink_restore.proofs.Walking.{part_there, part_within}
use Rattle.ink_restore.proofs.counting.node_at.Goals as goal

pub loop-part-init : goal.loop-part-init
loop-part-init c =
    let s = story_tree c.args.tree.now in
    record {
      here = root_place s;
      node = some_place s;
    }

pub returns-in_err-here : goal.returns-in_err-here
returns-in_err-here c =
    let s = story_tree c.args.tree.now in
    let l = c.loop-part in
    let ps = c.parts-all.result.now in
    let part = key_part c.key_of.result in
    let lt = part_within ps l.part-index c.loop-part-test.true in
    let is = part_there ps l.part-index c.loop-part-test.true _ part c.key_of.ensures in
    let none = missing_before s (map part_as ps) l.part-index (node_place s l.here) part part lt is l.invariant.here refl c.in_err-here.ensures in
    subst (Finds s c.args.place.now) (sym c.from_residual.ensures) (subst (λ p. at s p ≡ None) c.parts-all.ensures none)

pub loop-part-preserved : goal.loop-part-preserved
loop-part-preserved c =
    let l = c.loop-part in
    let ps = c.parts-all.result.now in
    let part = key_part c.key_of.result in
    let lt = part_within ps l.part-index c.loop-part-test.true in
    let is = part_there ps l.part-index c.loop-part-test.true _ part c.key_of.ensures in
    record {
      here = c.in_ok-here.ensures.1 ∙ (λ i. l.invariant.here i ++ is i ∷ []) ∙ sym (take_more (map part_as ps) l.part-index part lt);
      node = c.in_ok-here.ensures.0;
    }

pub returns : goal.returns
returns c =
    let ps = c.parts-all.result.now in
    let l = c.loop-part in
    (l.invariant.node, l.invariant.here ∙ take_all l.part-index (map part_as ps) (omega (arith, length-map ps part_as, c.loop-part-test.false)) ∙ c.parts-all.ensures)
