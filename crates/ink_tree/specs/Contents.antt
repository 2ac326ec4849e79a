-- What is asked of one content.
use Rattle.std.specs.Prelude.{ℕ, List, Bool, false, nat_le, Option, Some, None}
use Rattle.ink_model.specs.Story.Tree.{StoryTree, leaf, container, count}

-- an index is one of a container's, or its end
abbrev pub reaches : StoryTree → ℕ → Bool
reaches (leaf l) i = false
reaches (container own flags content named) i = nat_le i (count content)

-- the same of what is found at a place
abbrev pub reaches_in : Option StoryTree → ℕ → Bool
reaches_in None i = false
reaches_in (Some t) i = reaches t i

-- the name that a container gives itself
abbrev pub name_in : Option StoryTree → Option (List ℕ)
name_in None = None
name_in (Some (leaf l)) = None
name_in (Some (container own flags content named)) = own
