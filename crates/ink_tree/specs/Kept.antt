-- What is kept of a story's contents, so that no step walks a place.
use Rattle.std.specs.Prelude.{◌≡◌, ⊤, ℕ, ◌+◌, ◌/◌, ◌%◌, ◌==◌, ◌<◌, List, [], ◌∷◌, ◌++◌, length, Bool, false, nat_le, nat_lt, ◌&&◌, ◌||◌, reverse, slice_get, if◌then◌else◌, Option, Some, None}
use Rattle.std.specs.Borrow.{Bor}
use Rattle.std.specs.Option.{option_map}
use Rattle.ink_json.specs.Node.{Node}
pub use Rattle.ink_model.specs.Story.View.{leaf_in}
use Rattle.ink_model.specs.Run.Entered.{flags_at, is_around}
use Rattle.ink_model.specs.Run.Place.{next_place}
use Rattle.ink_model.specs.Story.Places.{places}
use Rattle.ink_model.specs.Story.Tree.{StoryTree, container, at, width}
use Rattle.ink_model.specs.Story.View.{own_content}
use Rattle.ink_model.specs.declared.content.Content.{Content}
use Rattle.ink_model.specs.declared.content.Content.TheVariants.{Leaf, Container}
use Rattle.ink_model.specs.declared.content.Leaf.{Leaf as Single}
use Rattle.ink_model.specs.declared.place.Part.{Part}
use Rattle.ink_model.specs.declared.place.Part.TheVariants.{Index}
use Rattle.ink_tree.specs.Numbers.{node_place, IsNode}
use Rattle.ink_tree.specs.declared.link.Link.{Link}
use Rattle.ink_tree.specs.declared.spot.NodeId.{NodeId}

-- ---- of a content itself

abbrev pub kept_leaf : Content → Option Single
kept_leaf (Leaf l) = Some l
kept_leaf (Container c) = None

abbrev pub kept_name : Content → Option (List ℕ)
kept_name (Leaf l) = None
kept_name (Container c) = c.name

abbrev pub kept_width : Content → ℕ
kept_width (Leaf l) = 0
kept_width (Container c) = c.width

abbrev pub kept_keys : Content → ℕ
kept_keys (Leaf l) = 0
kept_keys (Container c) = c.keys

abbrev pub kept_flags : Content → ℕ
kept_flags (Leaf l) = 0
kept_flags (Container c) = c.flags

-- an index is one of the content's, or its end
abbrev pub kept_reaches : Content → ℕ → Bool
kept_reaches (Leaf l) i = false
kept_reaches (Container c) i = nat_le i c.width

-- how many contents it is, with what is in it
abbrev pub kept_size : Content → ℕ
kept_size (Leaf l) = 1
kept_size (Container c) = c.size

-- ---- of all contents

-- the place one part down from the content of a number; without a part the root's
abbrev pub way_to : StoryTree → ℕ → Option Part → List Part
way_to s i None = []
way_to s i (Some x) = node_place s (record { number = i }) ++ x ∷ []

-- what is kept of the content at a place
abbrev pub KeepsContent : StoryTree → List Part → Node → Type 0
KeepsContent s p n = (n.holder < length (places s)) × (way_to s n.holder n.last ≡ p) × (Some n.content ≡ option_map own_content (at s p))

-- a content and all that is in it have the numbers from one on that are below another
abbrev pub Spans : StoryTree → ℕ → ℕ → Type 0
Spans s i behind = (q : NodeId) → IsNode s q → is_around (node_place s (record { number = i })) (node_place s q) ≡ (nat_le i q.number && nat_lt q.number behind)

-- of a content that has a number and so many contents by index, the first comes right behind it
abbrev pub StartsBehind : StoryTree → ℕ → ℕ → Type 0
StartsBehind s i w = 0 < w → node_place s (record { number = i + 1 }) ≡ node_place s (record { number = i }) ++ Index 0 ∷ []

-- what is kept of the content of a number
abbrev pub KeepsAt : StoryTree → ℕ → Node → Type 0
KeepsAt s i n = KeepsContent s (node_place s (record { number = i })) n × Spans s i (i + kept_size n.content) × StartsBehind s i (kept_width n.content)

-- what is kept of the contents of a story, in reading order
abbrev pub KeepsAll : StoryTree → List Node → Type 0
KeepsAll s ns = (i : ℕ) (n : Node) → slice_get ns i ≡ Some n → KeepsAt s i n

-- ---- the way on

-- the place of the first content by index in what stands at a place
abbrev pub first_inside : StoryTree → List Part → Option (List Part)
first_inside s p = if nat_lt 0 (width (at s p)) then Some (p ++ Index 0 ∷ []) else None

-- where a link leads; the root stands for nowhere
abbrev pub linked_to : Link → Option NodeId
linked_to l = if nat_lt 0 (l.bits / 2) then Some (record { number = l.bits / 2 }) else None

-- what it notes of the containers around
abbrev pub is_under_flags : Link → Bool
is_under_flags l = l.bits % 2 == 1

-- a container around a content has flags, by the way up from its end
abbrev pub flagged_above : StoryTree → List Part → Bool
flagged_above s [] = false
flagged_above s (x ∷ up) = nat_lt 0 (flags_at (at s (reverse up))) || flagged_above s up

-- the content at a place is linked to the one after it, and it is noted whether flags are around it
abbrev pub IsLinked : StoryTree → List Part → Link → Type 0
IsLinked s p l = (option_map (node_place s) (linked_to l) ≡ next_place s p) × (is_under_flags l ≡ flagged_above s (reverse p))

-- the same, where anything is
abbrev pub MayBeLinked : StoryTree → List Part → Option (Bor Link) → Type 0
MayBeLinked s p None = ⊤
MayBeLinked s p (Some l) = IsLinked s p l.now

-- the same of the first contents of a story, in reading order
abbrev pub AreLinked : StoryTree → List Link → Type 0
AreLinked s ls = (i : ℕ) (l : Link) → slice_get ls i ≡ Some l → IsLinked s (node_place s (record { number = i })) l
