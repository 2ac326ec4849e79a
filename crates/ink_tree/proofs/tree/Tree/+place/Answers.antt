use Rattle.std.proofs.Common.{◌∷◌, [], ap, length, arith}
use Rattle.ink_tree.proofs.Common.{key_part, length-append, node_place, story_tree}
use Rattle.ink_tree.proofs.Down.{not_root}
use Rattle.ink_tree.proofs.tree.Tree.+place.Goals as goal

pub place_at-place_under-requires : goal.place_at-place_under-requires
place_at-place_under-requires t c =
    (omega (arith, ap length c.in-Some.ensures.1, length-append (node_place (story_tree c.args.self.now) c.in-Some.holder) (key_part c.in-Some.last ∷ [])), tt)

pub place_at-returns-in_err-last-in-Some-clause-root : goal.place_at-returns-in_err-last-in-Some-clause-root
place_at-returns-in_err-last-in-Some-clause-root t c = λ root. absurd (not_root _ _ _ c.in-Some.ensures.1 root)

pub place_at-returns-in_ok-last-in-Some-clause-root : goal.place_at-returns-in_ok-last-in-Some-clause-root
place_at-returns-in_ok-last-in-Some-clause-root t c = λ root. absurd (not_root _ _ _ c.in-Some.ensures.1 root)
