use Rattle.std.proofs.Common.{◌≡◌, ◌∙◌, ap, refl, Err, option_map, rules}
use Rattle.ink_effects.proofs.Common.{story_tree, Leaves, pushed, visits_in, seen_by, node_place, place_of}
use Rattle.ink_model.specs.Story.Acceptance.{leads}
use Rattle.ink_model.specs.declared.value.Value.TheVariants as value
use Rattle.ink_effects.proofs.Asked.{visits_fail, visits_pushed}
use Rattle.ink_effects.proofs.Landings.{count_leads}
use Rattle.ink_effects.proofs.counts.push_count.Goals as goal
use Rattle.ink_effects.proofs.counts.push_count.Goals.{After-counted}

-- the container that is counted is where the path leads
there : (c : After-counted) → let s = story_tree c.args.story.now in option_map (node_place s) c.counted.result ≡ leads s (place_of s c.args.here) c.args.path.now
there c =
    let s = story_tree c.args.story.now in
    c.counted.ensures ∙ count_leads s (place_of s c.args.here) c.args.path.now c.requires

pub returns-in_err-visits-clause-effect : goal.returns-in_err-visits-clause-effect
returns-in_err-visits-clause-effect c threads rest evaluating fresh page globals =
    let s = story_tree c.args.story.now in
    let p = place_of s c.args.here in
    let seen = seen_by s threads (record rest { counts = c.args.counts.now.rows }) in
    let is : c.from_residual.result ≡ Err c.in_err-visits.field-0.0 = search rules in
    rw is (visits_fail s seen (λ r. r) (λ f. refl) evaluating fresh page globals c.args.stack.now.items c.args.stack.now.items (leads s p c.args.path.now) c.in_err-visits.field-0.0
    (c.in_err-visits.ensures ∙ ap (visits_in s seen.counts) (there (goal.at.returns-in_err-visits-clause-effect c).After-counted)))

pub returns-clause-effect : goal.returns-clause-effect
returns-clause-effect c threads rest evaluating fresh page globals =
    let s = story_tree c.args.story.now in
    let p = place_of s c.args.here in
    let seen = seen_by s threads (record rest { counts = c.args.counts.now.rows }) in
    let old = c.args.stack.now.items in
    let new = c.push.new.stack.items in
    let z = c.in_ok-visits.visits in
    let pushes : Leaves (pushed (value.Int z) old) old new c.push.result = search (rules, c.push.ensures.stack) in
    visits_pushed s seen (λ r. r) (λ f. refl) evaluating fresh page globals old new (leads s p c.args.path.now) z z (c.in_ok-visits.ensures ∙ ap (visits_in s seen.counts) (there (goal.at.returns-clause-effect c).After-counted)) refl c.push.result pushes c.push.ensures.memory
