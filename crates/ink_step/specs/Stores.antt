-- When a value is stored at once.
use Rattle.std.specs.Prelude.{◌≡◌, ℕ, List, true, false, Some, is_some, option_and_then, option_map}
use Rattle.ink_model.specs.Flow.Frames.{map_threads, place_in}
use Rattle.ink_model.specs.Run.Place.{next_place}
use Rattle.ink_model.specs.Values.Stack.{popped}
use Rattle.ink_model.specs.Variables.Store.{stored}
use Rattle.ink_model.specs.Story.Tree.{StoryTree}
use Rattle.ink_model.specs.Memory.Variables.{is_pointer}
use Rattle.ink_step.specs.declared.machine.Machine.{Machine}
use Rattle.ink_tree.specs.Nodes.{place_of}
use Rattle.ink_tree.specs.declared.spot.Spot.{Spot}
use Rattle.ink_vars.specs.Changes.{global_index}

-- A value lies on the stack, the global of a name is there, which has this index, neither is a pointer, and flow goes on to the place
-- after.
pub record StoresAtOnce (s : StoryTree) (m : Machine) (name : List ℕ) (after : Spot) (index : ℕ) : Type 0 where
  pub next : option_and_then (next_place s) (place_in (map_threads (place_of s) m.flow.threads.threads)) ≡ Some (place_of s after)
  pub value : is_some (popped m.flow.stack.items) ≡ true
  pub kept : is_pointer (option_map (λ r. r.0) (popped m.flow.stack.items)) ≡ false
  pub there : is_some (stored name m.shared.globals.rows) ≡ true
  pub plain : is_pointer (stored name m.shared.globals.rows) ≡ false
  pub stands : index ≡ global_index name m.shared.globals.rows
