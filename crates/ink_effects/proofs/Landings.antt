-- Where diverts land.
use Rattle.std.proofs.Common.{◌≡◌, ◌∙◌, ap, sym, refl, ℕ, List, [], Some, None, Option, Result, ok_or, option_map, true}
use Rattle.ink_check.specs.Names.{names, number_in, variable_number, variable_of}
use Rattle.ink_model.specs.Story.Acceptance.{content_counted, content_target, counted_container, lands_to, leads, leaf_target, written_target}
use Rattle.ink_model.specs.Run.Effect.{Context, Landing as Goal}
use Rattle.ink_model.specs.Flow.Frames.{ThreadOf, map_thread}
use Rattle.ink_model.specs.Story.Path.{ends_in_index, target}
use Rattle.ink_effects.proofs.Common.{landing_by, led_by, led_to, Values, read, Leaf, Fault, BadTarget, Part, landing_of, Landing, node_place, place_of, Spot}
use Rattle.ink_model.specs.Story.Tree.{StoryTree, leaf, container, at}
use Rattle.ink_model.specs.declared.content.Destination.{Destination}
use Rattle.ink_model.specs.declared.content.Destination.TheVariants as destination
use Rattle.ink_model.specs.declared.content.Leaf.TheVariants.{Count}
use Rattle.ink_model.specs.declared.place.Path.{Path}
use Rattle.ink_model.specs.declared.value.Value.TheVariants as value
use Rattle.ink_model.proofs.Maps.{read_map}

-- the first node is the root
pub root_is : (s : StoryTree) → node_place s (record { number = 0 }) ≡ []
root_is (leaf l) = refl
root_is (container name flags content named) = refl

-- where nothing stands there is no written path
pub nowhere : (s : StoryTree) (p : List Part) → at s p ≡ None → None ≡ written_target s p
unfolding written_target
nowhere s p h = ap (content_target s p) (sym h)

-- and nothing is counted
pub uncounted : (s : StoryTree) (p : List Part) → at s p ≡ None → None ≡ counted_container s p
unfolding counted_container
uncounted s p h = ap (content_counted s p) (sym h)

-- and no variable has a number
pub unnumbered : (s : StoryTree) (p : List Part) → at s p ≡ None → None ≡ variable_number s p
unnumbered s p h = ap (λ o. number_in (names s) (variable_of o)) (sym h)

-- a count's container
pub count_leads : (s : StoryTree) (p : List Part) (text : List ℕ) → at s p ≡ Some (leaf (Count text)) → counted_container s p ≡ leads s p text
unfolding counted_container
count_leads s p text stands = ap (content_counted s p) stands

-- ---- targets

-- a target's path leads somewhere
pub landed_on : (s : StoryTree) (path : Path) (to : Landing) → Some (place_of s to.place) ≡ target s [] path → to.enters ≡ ends_in_index path.parts
    → Some (landing_of s to) ≡ landing_by s (value.Target path)
landed_on s path to leads enters =
    ap (λ b. Some (record { place = place_of s to.place; enters = b })) enters
    ∙ ap (option_map (λ q. record { place = q; enters = ends_in_index path.parts })) leads

-- or nowhere
pub landed_nowhere : (s : StoryTree) (path : Path) → None ≡ target s [] path → None ≡ landing_by s (value.Target path)
landed_nowhere s path leads = ap (option_map (λ q. record { place = q; enters = ends_in_index path.parts })) leads

-- content by a written path
pub written_to : (s : StoryTree) (p : List Part) (seen : Context) (to : Destination) (globals : Values) (text : List ℕ) (q : Option (List Part))
    → to ≡ destination.Path text → q ≡ written_target s p → written_target s p ≡ lands_to s p to → ok_or (option_map (λ r. record { place = r; enters = true }) q) BadTarget ≡ led_to s p seen to globals
written_to s p seen to globals text q by found written =
    ap (λ o. ok_or (option_map (λ r. record { place = r; enters = true }) o) BadTarget) (found ∙ written ∙ ap (lands_to s p) by) ∙ ap (λ d. led_to s p seen d globals) (sym by)

-- content by a variable, which is looked for under the spots that stand for places
pub held_to : (s : StoryTree) (p : List Part) (seen : Context) (to : Destination) (globals : Values) (name : List ℕ) (t : ThreadOf Spot) (led : Result Goal Fault)
    → to ≡ destination.Variable name → seen.thread ≡ map_thread (place_of s) t → led ≡ led_by s (read globals t name) → led ≡ led_to s p seen to globals
held_to s p seen to globals name t led by thread is =
    is ∙ ap (led_by s) (sym (read_map (place_of s) globals t name)) ∙ ap (λ u. led_by s (read globals u name)) (sym thread) ∙ ap (λ d. led_to s p seen d globals) (sym by)

-- what a leaf leads to by a written path
pub leaf_landing : (s : StoryTree) (p : List Part) (l : Leaf) → at s p ≡ Some (leaf l) → written_target s p ≡ leaf_target s p l
unfolding written_target
leaf_landing s p l stands = ap (content_target s p) stands
