-- How the check of paths ends.
use Rattle.std.specs.Prelude.{◌≡◌, ◌⊎◌, ⊤, ℕ, List, Bool, true, false, ◌||◌, Option, Some, None, is_some, Result, Ok, Err}
use Rattle.ink_model.specs.Story.Acceptance.{accepted, bad_path, content_counted, content_target, good_content, leads}
use Rattle.ink_model.specs.Story.Grammar.{here}
use Rattle.ink_model.specs.Story.Path.{ends_in_index, read_path, target}
use Rattle.ink_model.specs.Story.Tree.{StoryTree}
use Rattle.ink_model.specs.declared.fault.Cause.TheVariants as cause
use Rattle.ink_model.specs.declared.fault.Failure.{Failure}
use Rattle.ink_model.specs.declared.fault.Failure.TheVariants.{OutOfMemory, Refused}
use Rattle.ink_model.specs.declared.fault.ReadRefusal.{ReadRefusal}
use Rattle.ink_model.specs.declared.place.Part.{Part}
use Rattle.ink_model.specs.declared.place.Path.{Path}
use Rattle.ink_tree.specs.Nodes.{node_place, place_of}
use Rattle.ink_tree.specs.declared.spot.NodeId.{NodeId}
use Rattle.ink_check.specs.Links.{counted_place, keeps_path, number_of, pushed_of, pushed_path, target_place}
use Rattle.ink_check.specs.Names.{number_in, variable_of}
use Rattle.ink_tree.specs.declared.leading.Lead.{Lead}
use Rattle.ink_check.specs.declared.link.Link.{Link}

-- where the path leads that a node's text spells, and whether by an index; or it leads nowhere
abbrev pub Leads : StoryTree → NodeId → List ℕ → Result Lead (Failure NodeId) → Type 0
Leads s n text (Ok lead) = (path : Path) × (read_path text ≡ Some path) × (target s (node_place s n) path ≡ Some (place_of s lead.spot)) × (ends_in_index path.parts ≡ lead.by_index)
Leads s n text (Err OutOfMemory) = ⊥
Leads s n text (Err (Refused m)) = (m ≡ n) × (leads s (node_place s n) text ≡ None)

-- memory is asked for only to keep a path that is pushed, or the name of a variable
abbrev pub takes_memory : StoryTree → List Part → Option StoryTree → Bool
takes_memory s p t = keeps_path s p t || is_some (variable_of t)

-- what the written path of a node's content comes to, or the number of its variable; or it is bad
abbrev pub Follows : StoryTree → List (List ℕ) → NodeId → Option StoryTree → Result Link (Failure NodeId) → Type 0
Follows s names n t (Ok l) = (good_content s (node_place s n) t ≡ true) × (target_place s l ≡ content_target s (node_place s n) t)
    × (counted_place s l ≡ content_counted s (node_place s n) t) × (pushed_of l ≡ pushed_path t) × (number_of l ≡ number_in names (variable_of t))
Follows s names n t (Err OutOfMemory) = takes_memory s (node_place s n) t ≡ true
Follows s names n t (Err (Refused m)) = (m ≡ n) × (good_content s (node_place s n) t ≡ false)

-- the first bad path of a story
abbrev pub IsFirstBad : StoryTree → Failure NodeId → Type 0
IsFirstBad s OutOfMemory = ⊤
IsFirstBad s (Refused n) = accepted s ≡ Err (bad_path (node_place s n))

-- the refusal for it, if memory is not refused
abbrev pub IsRefusedFor : StoryTree → Failure NodeId → ReadRefusal → Type 0
IsRefusedFor s OutOfMemory r = r ≡ here cause.OutOfMemory
IsRefusedFor s (Refused n) r = (r ≡ here cause.OutOfMemory) ⊎ (r ≡ bad_path (node_place s n))
