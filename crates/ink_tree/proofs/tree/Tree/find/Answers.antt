use Rattle.std.proofs.Common.{◌∙◌, ◌++◌, ◌∷◌, [], sym, subst}
use Rattle.std.proofs.lemmas.List.{take_more}
use Rattle.ink_tree.proofs.Common.{key_part, story_tree, node_place, Finds}
use Rattle.ink_tree.proofs.Down.{missing_before}
use Rattle.ink_tree.proofs.Kept.{some_place}
use Rattle.ink_tree.proofs.Standing.{root_place}
use Rattle.ink_tree.proofs.tree.Tree.find.Goals as goal

pub loop-part-init : goal.loop-part-init
loop-part-init c =
    let s = story_tree c.args.self.now in
    record {
      here = root_place s;
      node = some_place s;
    }

pub returns-in_err-here : goal.returns-in_err-here
returns-in_err-here c =
    let s = story_tree c.args.self.now in
    let l = c.loop-part in
    subst (Finds s c.args.parts.now) (sym c.from_residual.ensures)
    (missing_before s c.args.parts.now l.part-index (node_place s l.here) (key_part c.key_of.result) c.part-item.result c.loop-part-test.true c.part-item.is l.invariant.here
    c.key_of.ensures c.in_err-here.ensures)

pub loop-part-preserved : goal.loop-part-preserved
loop-part-preserved c =
    let l = c.loop-part in
    record {
      here = c.in_ok-here.ensures.1 ∙ (λ i. l.invariant.here i ++ (c.key_of.ensures ∙ c.part-item.is) i ∷ []) ∙ sym (take_more c.args.parts.now l.part-index c.part-item.result c.loop-part-test.true);
      node = c.in_ok-here.ensures.0;
    }
