-- Which stories are accepted: each written path leads somewhere (docs/STORY_FORMAT.md, "Paths").
use Rattle.std.specs.Prelude.{ℕ, List, map, filter, Bool, true, false, not, ◌&&◌, if◌then◌else◌, Option, Some, None, option_and_then, is_some, Result, Ok, Err}
use Rattle.std.specs.Option.{option_map}
use Rattle.ink_model.specs.Run.Entered.{flags_at}
use Rattle.ink_model.specs.Story.Flags.{counts_visits, is_once_only}
use Rattle.ink_model.specs.Story.Grammar.{first, story}
use Rattle.ink_model.specs.Story.Path.{read_path, target, landing}
use Rattle.ink_model.specs.Story.Places.{places}
use Rattle.ink_model.specs.Story.Tree.{StoryTree, leaf, container, at}
use Rattle.ink_model.specs.declared.content.Destination.{Destination}
use Rattle.ink_model.specs.declared.content.Destination.TheVariants as destination
use Rattle.ink_model.specs.declared.content.Leaf.{Leaf}
use Rattle.ink_model.specs.declared.content.Leaf.TheVariants as leaves
use Rattle.ink_model.specs.declared.fault.Cause.TheVariants.{BadPath}
use Rattle.ink_model.specs.declared.fault.ReadRefusal.{ReadRefusal}
use Rattle.ink_model.specs.declared.place.Part.{Part}
use Rattle.ink_model.specs.declared.place.Path.{Path}

-- ---- where written paths lead

-- where the content at a place leads by a path as it is spelled
abbrev pub leads : StoryTree → List Part → List ℕ → Option (List Part)
leads s p text = option_and_then (target s p) (read_path text)

-- and where flow lands by it
abbrev pub lands : StoryTree → List Part → List ℕ → Option (List Part)
lands s p text = option_and_then (λ path. option_map (landing s path) (target s p path)) (read_path text)

abbrev pub lands_to : StoryTree → List Part → Destination → Option (List Part)
lands_to s p (destination.Path text) = lands s p text
lands_to s p (destination.Variable name) = None

-- The landing of a leaf's written path, or its target where flow does not land there: of a value and of a count.
abbrev pub leaf_target : StoryTree → List Part → Leaf → Option (List Part)
leaf_target s p (leaves.Target text) = leads s p text
leaf_target s p (leaves.Count text) = leads s p text
leaf_target s p (leaves.Divert to conditional) = lands_to s p to
leaf_target s p (leaves.Call to conditional) = lands_to s p to
leaf_target s p (leaves.Tunnel to conditional) = lands_to s p to
leaf_target s p (leaves.Choice text flags) = lands s p text
leaf_target s p l = None

abbrev pub content_target : StoryTree → List Part → Option StoryTree → Option (List Part)
content_target s p None = None
content_target s p (Some (container name flags content named)) = None
content_target s p (Some (leaf l)) = leaf_target s p l

-- the landing or target of the content at a place
unfoldable pub written_target : StoryTree → List Part → Option (List Part)
written_target s p = content_target s p (at s p)

-- The container whose visits a leaf asks for: a count does, and a choice that is offered once only. By a name a choice lands
-- on the first content of that container, where it has any; by an index on the container itself.
abbrev pub leaf_counted : StoryTree → List Part → Leaf → Option (List Part)
leaf_counted s p (leaves.Count text) = leads s p text
leaf_counted s p (leaves.Choice text flags) = if is_once_only flags then leads s p text else None
leaf_counted s p l = None

abbrev pub content_counted : StoryTree → List Part → Option StoryTree → Option (List Part)
content_counted s p None = None
content_counted s p (Some (container name flags content named)) = None
content_counted s p (Some (leaf l)) = leaf_counted s p l

-- the container whose visits the content at a place asks for
unfoldable pub counted_container : StoryTree → List Part → Option (List Part)
counted_container s p = content_counted s p (at s p)

-- ---- what is asked of them

-- visits are counted there
abbrev pub is_counted : StoryTree → Option (List Part) → Bool
is_counted s None = false
is_counted s (Some p) = counts_visits (flags_at (at s p))

abbrev pub is_absolute : Option Path → Bool
is_absolute None = false
is_absolute (Some path) = not path.relative

abbrev pub good_destination : StoryTree → List Part → Destination → Bool
good_destination s p (destination.Path text) = is_some (leads s p text)
good_destination s p (destination.Variable name) = true

-- A value is not relative. What is counted, and what a once-only choice leads to, is a container with flag 1.
abbrev pub good_leaf : StoryTree → List Part → Leaf → Bool
good_leaf s p (leaves.Target text) = is_absolute (read_path text) && is_some (leads s p text)
good_leaf s p (leaves.Count text) = is_counted s (leads s p text)
good_leaf s p (leaves.Divert to conditional) = good_destination s p to
good_leaf s p (leaves.Call to conditional) = good_destination s p to
good_leaf s p (leaves.Tunnel to conditional) = good_destination s p to
good_leaf s p (leaves.Choice text flags) = if is_once_only flags then is_counted s (leads s p text) else is_some (leads s p text)
good_leaf s p l = true

abbrev pub good_content : StoryTree → List Part → Option StoryTree → Bool
good_content s p None = true
good_content s p (Some (container name flags content named)) = true
good_content s p (Some (leaf l)) = good_leaf s p l

abbrev pub has_bad_path : StoryTree → List Part → Bool
has_bad_path s p = not (good_content s p (at s p))

-- the places of bad paths, in reading order
unfoldable pub bad_places : StoryTree → List (List Part)
bad_places s = filter (has_bad_path s) (places s)

abbrev pub bad_path : List Part → ReadRefusal
bad_path p = record { cause = BadPath; place = p }

-- a story whose paths are all good, or the first that is not
unfoldable pub accepted : StoryTree → Result StoryTree ReadRefusal
accepted s = first (map bad_path (bad_places s)) s

-- what is asked of a story, unless there is a reason against it already
abbrev pub and_then : (StoryTree → Result StoryTree ReadRefusal) → Result StoryTree ReadRefusal → Result StoryTree ReadRefusal
and_then asks (Ok s) = asks s
and_then asks (Err r) = Err r

-- the story that bytes spell, where it is accepted, or the first reason against it
unfoldable pub accepted_story : List ℕ → Result StoryTree ReadRefusal
accepted_story bytes = and_then accepted (story bytes)
