-- A story as one flat list: a node for each content, in reading order.
use Rattle.std.specs.Prelude.{◌≡◌, ℕ, ◌+◌, List, [], ◌∷◌, ◌++◌, length, take, drop, Option, Some, None, Result, Ok, Err}
use Rattle.ink_model.specs.Story.Tree.{StoryTree, leaf, container, Trees, no_trees, tree, Keyed, no_keys, key}
use Rattle.ink_model.specs.Story.View.{own_content, count_keys}
use Rattle.ink_model.specs.declared.content.Content.{Content}
use Rattle.ink_model.specs.declared.content.Content.TheVariants as contents
use Rattle.ink_model.specs.declared.content.Leaf.TheVariants.{Newline}
use Rattle.ink_model.specs.declared.fault.Failure.{Failure}
use Rattle.ink_model.specs.declared.fault.ReadRefusal.{ReadRefusal}
use Rattle.ink_model.specs.declared.place.Part.{Part}
use Rattle.ink_model.specs.declared.place.Part.TheVariants.{Index, Name}
use Rattle.ink_json.specs.Reading.{Fails}
use Rattle.ink_json.specs.Node.{Node}

-- ---- the nodes of a tree

-- the node of content by itself
abbrev pub own_node : ℕ → Option Part → StoryTree → Node
own_node holder last t = record { content = own_content t; holder = holder; last = last }

abbrev mutual
  -- the nodes of content and of all that is in it, from this number on; what is around the content has a number, and a part leads to
  -- the content from there
  pub nodes_of : ℕ → ℕ → Option Part → StoryTree → List Node
  nodes_of n holder last (leaf l) = own_node holder last (leaf l) ∷ []
  nodes_of n holder last (container name flags content named) =
      own_node holder last (container name flags content named)
      ∷ (nodes_from (n + 1) n 0 content ++ nodes_by_key (n + 1 + length (nodes_from (n + 1) n 0 content)) n named)

  -- of elements from this index on
  pub nodes_from : ℕ → ℕ → ℕ → Trees → List Node
  nodes_from n holder i no_trees = []
  nodes_from n holder i (tree t ts) =
      nodes_of n holder (Some (Index i)) t ++ nodes_from (n + length (nodes_of n holder (Some (Index i)) t)) holder (i + 1) ts

  pub nodes_by_key : ℕ → ℕ → Keyed → List Node
  nodes_by_key n holder no_keys = []
  nodes_by_key n holder (key k t ks) = nodes_of n holder (Some (Name k)) t ++ nodes_by_key (n + length (nodes_of n holder (Some (Name k)) t)) holder ks

-- the nodes of what is in a container
abbrev pub nodes_inside : ℕ → ℕ → Trees → Keyed → List Node
nodes_inside n holder content named = nodes_from n holder 0 content ++ nodes_by_key (n + length (nodes_from n holder 0 content)) holder named

-- the node of a container, with so much in it
abbrev pub container_node : ℕ → Option Part → Option (List ℕ) → ℕ → ℕ → ℕ → ℕ → Node
container_node holder last name flags width keys size =
    record { content = contents.Container (record { name = name; width = width; keys = keys; size = size; flags = flags }); holder = holder; last = last }

-- the nodes of a whole story
abbrev pub story_nodes : StoryTree → List Node
story_nodes t = nodes_of 0 0 None t

-- ---- the tree of such nodes

-- content, and the part that leads to it
abbrev pub Standing : Type 0
Standing = Option Part × StoryTree

abbrev pub trees_in : List Standing → Trees
trees_in [] = no_trees
trees_in (x ∷ xs) = tree x.1 (trees_in xs)

abbrev pub name_in_last : Option Part → List ℕ
name_in_last None = []
name_in_last (Some (Index i)) = []
name_in_last (Some (Name k)) = k

abbrev pub keys_in : List Standing → Keyed
keys_in [] = no_keys
keys_in (x ∷ xs) = key (name_in_last x.0) x.1 (keys_in xs)

-- a content in front of others, of which a container takes as many as it holds by index, and then as many as it has by key
abbrev pub with_content : Content → Option Part → List Standing → List Standing
with_content (contents.Leaf l) last xs = (last, leaf l) ∷ xs
with_content (contents.Container c) last xs =
    (last, container c.name c.flags (trees_in (take c.width xs)) (keys_in (take c.keys (drop c.width xs)))) ∷ drop c.keys (drop c.width xs)

-- the contents that nodes are of, those left out that are in others of them
abbrev pub standing : List Node → List Standing
standing [] = []
standing (n ∷ ns) = with_content n.content n.last (standing ns)

abbrev pub first_tree : List Standing → StoryTree
first_tree [] = leaf Newline
first_tree (x ∷ xs) = x.1

abbrev pub rebuilt : List Node → StoryTree
rebuilt ns = first_tree (standing ns)

-- nodes are those of the tree that they stand for
abbrev pub IsListed : List Node → Type 0
IsListed ns = ns ≡ story_nodes (rebuilt ns)

-- ---- what reading leaves

-- behind the nodes before come those of the tree that the definition reads; or why it reads none
abbrev pub Lists : {X : Type 0} → List Node → List Node → ℕ → Option Part → Result X (Failure ReadRefusal) → Result StoryTree ReadRefusal → Type 0
Lists old new holder last (Ok x) read = (t : StoryTree) × (read ≡ Ok t) × (new ≡ old ++ nodes_of (length old) holder last t)
Lists old new holder last (Err e) read = Fails e read

-- the same of containers by key, which are so many
abbrev pub ListsByKey : List Node → List Node → ℕ → Result ℕ (Failure ReadRefusal) → Result Keyed ReadRefusal → Type 0
ListsByKey old new holder (Ok n) read = (ks : Keyed) × (read ≡ Ok ks) × (n ≡ count_keys ks) × (new ≡ old ++ nodes_by_key (length old) holder ks)
ListsByKey old new holder (Err e) read = Fails e read
