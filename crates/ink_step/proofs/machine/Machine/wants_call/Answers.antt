use Rattle.std.proofs.Common.{◌≡◌, ◌∙◌, ap, option_map, subst, sym}
use Rattle.ink_step.proofs.Common.{story_tree, bound_by, fields_of, content_place, gone_in, at, leaf, call_of, config_of, leaf_in, place_of}
use Rattle.ink_step.proofs.Makes.{found_leaves, stands_in, wants_call, wants_none}
use Rattle.ink_step.proofs.machine.Machine.wants_call.Given as given
use Rattle.ink_step.proofs.machine.Machine.wants_call.Goals as goal
use Rattle.ink_step.proofs.machine.Machine.wants_call.Goals.{After-first_leaf}
use Rattle.ink_tree.specs.Nodes as nodes

-- what was found stands where flow goes in
stands : (g : given.Over) (c : After-first_leaf g) → let s = story_tree c.args.story.now in option_map (λ x. leaf x.now) c.first_leaf.result.1 ≡ option_map leaf (leaf_in (at s (content_place s (place_of s c.args.place))))
stands g c =
    let s = story_tree c.args.story.now in
    let there = nodes.story_tree c.tree.result.now in
    let found = option_map (λ x. x.now) c.first_leaf.result.1 in
    found_leaves c.first_leaf.result.1 (at s (content_place s (place_of s c.args.place)))
    (subst (λ t. found ≡ leaf_in (at t (content_place t (place_of t c.args.place)))) c.tree.ensures.tree
    (stands_in there (place_of there c.first_leaf.result.0) (content_place there (place_of there c.args.place)) found c.first_leaf.ensures.leaf c.first_leaf.ensures.spot))

pub returns-in-None : goal.returns-in-None
returns-in-None g c =
    let s = story_tree c.args.story.now in
    let b = bound_by g.P.PureFn.meaning c.args.desk.now.functions in
    let at_place = ap (option_map (place_of s)) c.requires.at in
    let found = option_map (λ x. leaf x.now) c.first_leaf.result.1 in
    wants_none s b (place_of s c.args.place) (config_of s c.args.self.now) at_place found (stands g (goal.at.returns-in-None g c).After-first_leaf) (sym c.external_in.ensures ∙ ap (option_map call_of) c.in-None.is)

pub returns-in-Some : goal.returns-in-Some
returns-in-Some g c =
    let s = story_tree c.args.story.now in
    let b = bound_by g.P.PureFn.meaning c.args.desk.now.functions in
    let p = place_of s c.args.place in
    let before = config_of s c.args.self.now in
    let f = fields_of (gone_in s p before) in
    let at_place = ap (option_map (place_of s)) c.requires.at in
    let found = option_map (λ x. leaf x.now) c.first_leaf.result.1 in
    wants_call s b p before at_place found (call_of c.in-Some.call) c.would_call.result (stands g (goal.at.returns-in-Some g c).After-first_leaf)
    (sym c.external_in.ensures ∙ ap (option_map call_of) c.in-Some.is) (c.would_call.ensures s f.evaluating f.fresh f.globals)
