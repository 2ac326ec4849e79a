use Rattle.std.proofs.Common.{◌≡◌, ◌+◌, [], ◌∷◌, ◌++◌, refl, subst, sym, arith}
use Rattle.ink_tree.proofs.Common.{nat_tests, key_part, NoneBefore, story_tree, node_place}
use Rattle.ink_tree.proofs.Gaps.{behind_holder, behind_child}
use Rattle.ink_tree.proofs.tree.Tree.gap_start.Goals as goal

pub returns-then-number-own : goal.returns-then-number-own
returns-then-number-own c =
    let t = c.args.self.now in
    let s = story_tree t in
    let p = node_place s c.args.holder in
    let x = key_part c.args.key in
    let same : c.args.number ≡ c.own.result.number = grind (arith, nat_tests, c.if-number-own.true) in
    subst (λ i. NoneBefore s (p ++ x ∷ []) (i + 1)) (sym same) (behind_holder s t.rising p x c.own.result c.own.ensures.0 c.own.ensures.1)

pub returns-in-Some : goal.returns-in-Some
returns-in-Some c =
    let t = c.args.self.now in
    let s = story_tree t in
    behind_child s t.rising (node_place s c.args.holder) (key_part c.args.key) (record { number = c.args.number }) c.in-Some.ensures.0 (key_part c.in-Some.part) c.behind.result
    c.in-Some.ensures.1 (c.if-is_before.ensures refl) c.behind.ensures
