use Rattle.std.proofs.Common.{◌≡◌, ◌++◌, [], ◌∷◌, Some, None, ap, subst, sym, ◌∙◌, option_map}
use Rattle.ink_tree.proofs.Common.{listed_index, at, Index, Name, story_tree, node_place, Finds}
use Rattle.ink_tree.proofs.Absent.{stands}
use Rattle.ink_tree.proofs.Knots.{knot_by_key, knot_from_list, listed_there}
use Rattle.ink_tree.proofs.Standing.{root_place, there}
use Rattle.ink_tree.proofs.tree.Tree.knot.Goals as goal

pub returns-in-Some-clause-place : goal.returns-in-Some-clause-place
returns-in-Some-clause-place c =
    let s = story_tree c.args.self.now in
    let name = c.args.name.now in
    let f = subst (λ p. Finds s (p ++ Name name ∷ []) (Some c.in-Some.node)) (root_place s) c.in-Some.ensures in
    ap Some f.1 ∙ knot_by_key name s (stands s (Name name ∷ []) c.in-Some.node c.args.self.now.rising f)

pub returns-in_err-index-clause-place : goal.returns-in_err-index-clause-place
returns-in_err-index-clause-place c =
    let s = story_tree c.args.self.now in
    let name = c.args.name.now in
    let none : at s (Name name ∷ []) ≡ None = ap (λ p. at s (p ++ Name name ∷ [])) (sym (root_place s)) ∙ c.in_default.ensures in
    ap (option_map (node_place s)) c.from_residual.ensures
    ∙ knot_from_list name s None none (c.in_err-index.ensures ∙ ap (λ p. listed_index name (at s p)) (root_place s))

pub returns-clause-place : goal.returns-clause-place
returns-clause-place c =
    let s = story_tree c.args.self.now in
    let name = c.args.name.now in
    let i = c.in_ok-index.index in
    let none : at s (Name name ∷ []) ≡ None = ap (λ p. at s (p ++ Name name ∷ [])) (sym (root_place s)) ∙ c.in_default.ensures in
    let listed : Some i ≡ listed_index name (Some s) = c.in_ok-index.ensures ∙ ap (λ p. listed_index name (at s p)) (root_place s) in
    there s (Index i ∷ []) c.child_at.result (subst (λ p. Finds s (p ++ Index i ∷ []) c.child_at.result) (root_place s) c.child_at.ensures) (listed_there name s i listed)
    ∙ knot_from_list name s (Some i) none listed
