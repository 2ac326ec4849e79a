-- Where a save stands (docs/SAVES.md, "The layout").
use Rattle.std.specs.Prelude.{◌≡◌, ℕ, List, Bool, false, bytes_eq, codes, if◌then◌else◌, Option, Some, None, option_and_then}
use Rattle.std.specs.Option.{option_map}
use Rattle.serde_json.specs.Data.{Data, Items, no_items, item}
use Rattle.serde_json.specs.Find.{as_array, as_str, get}
use Rattle.ink_model.specs.Protocol.Answer.{Saves}
use Rattle.ink_model.specs.Story.Path.{path_text}
use Rattle.ink_model.specs.Save.Unspelled.{place_of}
use Rattle.ink_model.specs.Protocol.Session.{Save}
use Rattle.ink_model.specs.Protocol.State.{State, Condition, Ready, Broken}
use Rattle.ink_model.specs.Story.Tree.{StoryTree}
use Rattle.ink_model.specs.declared.place.Part.{Part}
use Rattle.ink_sound.specs.Kept.{StateFits, StoryFits}

-- the list in a member
abbrev pub list_in : List ℕ → Data → Option Items
list_in key d = option_and_then as_array (get key d)

abbrev pub last_item : Items → Option Data
last_item no_items = None
last_item (item d no_items) = Some d
last_item (item d (item e ds)) = last_item (item e ds)

-- the last of the list in a member
abbrev pub last_in : List ℕ → Data → Option Data
last_in key d = option_and_then last_item (list_in key d)

-- ---- the current flow

abbrev pub is_text : List ℕ → Option (List ℕ) → Bool
is_text text None = false
is_text text (Some t) = bytes_eq text t

-- whether a flow has this name
abbrev pub is_named : List ℕ → Data → Bool
is_named name flow = is_text name (option_and_then as_str (get (codes "name") flow))

abbrev pub flow_named : List ℕ → Items → Option Data
flow_named name no_items = None
flow_named name (item d ds) = if is_named name d then Some d else flow_named name ds

abbrev pub current_flow : Data → Option Data
current_flow save = option_and_then (λ name. option_and_then (flow_named name) (list_in (codes "flows") save)) (option_and_then as_str (get (codes "current") save))

-- ---- its place

-- the top frame: the last one of the last thread
abbrev pub top_frame : Data → Option Data
top_frame flow = option_and_then (last_in (codes "frames")) (last_in (codes "threads") flow)

-- where that stands
abbrev pub place_in : Data → Option Data
place_in save = option_and_then (get (codes "place")) (option_and_then top_frame (current_flow save))

-- as a path from the root: its parts joined by dots, indexes in decimal
abbrev pub path_to : List Part → List ℕ
path_to place = path_text (record { relative = false; parts = place })

-- There is none where flow has stopped.
abbrev pub path_of : Data → Option (List ℕ)
path_of save = option_map path_to (option_and_then place_of (place_in save))

-- ---- the saves of a player

-- where a player stands: at the place of the top frame in the current thread
abbrev pub stands_at : Condition → Option (List ℕ)
stands_at (Ready c) = option_map path_to c.flow.threads.thread.frame.place
stands_at (Broken f globals) = None

-- a save that a player gives tells where it stands
abbrev pub SavesTellPlaces : Type 0
SavesTellPlaces = (s : StoryTree) → StoryFits s → (old new : State) → StateFits s old → (j : Data) → Save old (Saves j) new → path_of j ≡ stands_at old.condition
