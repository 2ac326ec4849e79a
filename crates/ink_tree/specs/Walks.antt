-- Walks upward from a landing place, by the containers that the landing enters, and down to where a step performs.
use Rattle.std.specs.Prelude.{◌≡◌, ◌+◌, List, [], ◌∷◌, length, reverse, Bool, not, ◌&&◌, ◌||◌, if◌then◌else◌, Option, Some, None}
use Rattle.ink_model.specs.Run.Entered.{entered_above, listed_if, passed_places, starts_only, was_inside}
use Rattle.ink_model.specs.Story.Path.{is_container}
use Rattle.ink_model.specs.Run.Place.{content_place}
use Rattle.ink_model.specs.Story.Tree.{StoryTree, at}
use Rattle.ink_model.specs.declared.place.Part.{Part}
use Rattle.ink_tree.specs.Numbers.{node_place, IsNode}
use Rattle.ink_tree.specs.declared.spot.NodeId.{NodeId}
use Rattle.ink_tree.specs.declared.upward.Upward.{Upward}

-- the containers that are still entered, from the place before
abbrev pub still_entered : StoryTree → Option (List Part) → Upward → List (List Part)
still_entered s o rest = entered_above s o rest.at_start (reverse (node_place s rest.node))

-- the next of them, if any is left
abbrev pub EntersNext : StoryTree → Option (List Part) → Upward → Option Upward → Type 0
EntersNext s o rest None = still_entered s o rest ≡ []
EntersNext s o rest (Some next) = IsNode s next.node × (still_entered s o rest ≡ node_place s next.node ∷ still_entered s o next)

-- what a container adds to those around it that are entered: inside, whether flow comes from there; starts, whether only entry at
-- its start counts
abbrev pub with_container : Bool → Bool → Bool → List Part → List (List Part) → List (List Part)
with_container inside starts at_start up rest = if inside && not starts then [] else listed_if (not starts || at_start) up rest

-- one container further up
abbrev pub IsUp : StoryTree → Upward → Option Upward → Type 0
IsUp s rest None = node_place s rest.node ≡ []
IsUp s rest (Some u) = IsNode s u.node × (length (node_place s rest.node) ≡ length (node_place s u.node) + 1)
    × ((o : Option (List Part)) → still_entered s o rest
    ≡ with_container (was_inside (node_place s u.node) o) (starts_only s (node_place s u.node)) u.at_start (node_place s u.node) (still_entered s o u))

-- a step at a place performs there, or it goes into the container that stands there and on at its first content
abbrev pub GoesIn : StoryTree → List Part → Option NodeId → Type 0
GoesIn s p None = (content_place s p ≡ p) × (passed_places s p ≡ listed_if (is_container (at s p)) p [])
GoesIn s p (Some n) = (content_place s p ≡ content_place s (node_place s n)) × (passed_places s p ≡ p ∷ passed_places s (node_place s n))
