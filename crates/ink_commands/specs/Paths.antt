-- Where a host's path leads, and where memory is asked for to read it (docs/PROTOCOL.md, "Command lines").
use Rattle.std.specs.Prelude.{◌≡◌, ◌⊎◌, ℕ, List, IsSome, Option, Result, ok_or}
use Rattle.ink_model.specs.Protocol.Answer.{Reply}
use Rattle.ink_model.specs.Choices.Choosing.{jump_place}
use Rattle.ink_model.specs.Memory.Refusals.{ByRule}
use Rattle.ink_model.specs.Story.Path.{read_path}
use Rattle.ink_model.specs.Protocol.Changed.{FailsAllocation}
use Rattle.ink_model.specs.Protocol.State.{State}
use Rattle.ink_model.specs.Story.Tree.{StoryTree}
use Rattle.ink_model.specs.Protocol.Turns.{Jump}
pub use Rattle.ink_model.specs.Protocol.Unread.{ReadsPath}
use Rattle.ink_model.specs.declared.fault.Cause.{Cause}
use Rattle.ink_model.specs.declared.fault.Cause.TheVariants as cause
use Rattle.ink_model.specs.declared.fault.Refusal.{Refusal}
use Rattle.ink_model.specs.declared.fault.Refusal.TheVariants as refusal
use Rattle.ink_tree.specs.Nodes.{place_of}
use Rattle.ink_tree.specs.declared.spot.Spot.{Spot}

-- why a path was not read
abbrev pub refusal_of : Cause → Refusal
refusal_of cause.OutOfMemory = refusal.OutOfMemory
refusal_of c = refusal.NoSuchPath

-- What is found by a path is what its rule gives; or why not: the rule gives nothing, or it is a path for which memory was refused.
abbrev pub FindsBy : {A B : Type 0} → List ℕ → (A → B → Type 0) → Option A → Result B Refusal → Type 0
FindsBy path gives rule result = ByRule (λ r. (r ≡ refusal.OutOfMemory) × IsSome (read_path path)) gives (λ why. why) (ok_or rule refusal.NoSuchPath) result

-- where a path lands
abbrev pub FindsPlace : StoryTree → List ℕ → Result Spot Refusal → Type 0
FindsPlace s path result = FindsBy path (λ q spot. place_of s spot ≡ q) (jump_place s path) result

-- `jump`, for whose path memory may be refused
abbrev pub JumpsTo : StoryTree → List ℕ → State → Reply → State → Type 0
JumpsTo s path old reply new = Jump s path old reply new ⊎ (ReadsPath path old.condition × FailsAllocation old reply new)
