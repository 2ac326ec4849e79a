-- The list of a story's nodes, as content is read.
use Rattle.std.proofs.Common.{◌≡◌, ℕ, suc, ◌+◌, ◌^◌, ◌≤◌, ◌<◌, List, [], ◌∷◌, ◌++◌, length, Bool, true, false, cond, Option, None, Some, Result, Ok, Err, refl, sym, ap, ◌∙◌, append_assoc, arith}
use Rattle.ink_json.proofs.Common.{length-append, Data, Items, no_items, item, Members, no_members, member, size, items_size, members_size, size_positive, count_keys, Leaf, Part, Index, InkVersion, Node}
use Rattle.std.specs.Result.{result_unwrap_or}
use Rattle.json_tape.specs.Value.{json_data, Entry, members_data}
use Rattle.ink_model.specs.Story.Grammar.{first, leaf_faults, is_own, own_after, tree_of, content_of, keyed_by}
use Rattle.ink_model.specs.Story.Places.{places, places_from}
use Rattle.ink_model.specs.Story.Tree.{StoryTree, leaf, container, Trees, tree, Keyed, key, count}
use Rattle.ink_model.specs.declared.content.Content.TheVariants as contents
use Rattle.ink_model.specs.declared.content.Leaf.TheVariants.{Newline}
use Rattle.ink_model.specs.declared.fault.Cause.{Cause}
use Rattle.ink_json.specs.Listing.{IsListed, container_node, nodes_of, nodes_from, nodes_by_key, nodes_inside, rebuilt}
use Rattle.ink_json.specs.Reading.{placed}
use Rattle.ink_json.proofs.Listing.{from_more, listed, many, many_from}
use Rattle.ink_json.proofs.Many.{places_within, under_more}

-- ---- leaves

-- a leaf that was read goes behind the nodes before
pub leaf_listed : (d : Result Leaf Cause) (l : Leaf) (old new : List Node) (h : ℕ) (x : Option Part) → placed d ≡ Ok l → new ≡ old ++ record { content = contents.Leaf l; holder = h; last = x } ∷ []
    → (t : StoryTree) × (first (leaf_faults d) (leaf (result_unwrap_or d Newline)) ≡ Ok t) × (new ≡ old ++ nodes_of (length old) h x t)
leaf_listed (Ok k) l old new h x e more = (leaf l, cc, more)
leaf_listed (Err c) l old new h x e more = absurd cc

-- ---- containers

-- once all in a container is listed, the whole container is
module _ (old : List Node) (h : ℕ) (x : Option Part) (name : Option (List ℕ)) (flags number : ℕ) (content : Trees) (keyed : Keyed) (here : number ≡ length old) where
  abbrev inside : List Node
  inside = nodes_inside (length old + 1) (length old) content keyed

  pub opened_listed : (l1 l2 : List Node) → l1 ≡ old ++ container_node h x name flags 0 0 0 ∷ [] → l2 ≡ l1 ++ nodes_inside (length l1) number content keyed
      → l2 ≡ old ++ container_node h x name flags 0 0 0 ∷ nodes_inside (length old + 1) (length old) content keyed
  opened_listed l1 l2 first more =
      let own = container_node h x name flags 0 0 0 in
      let long : length l1 ≡ length old + 1 = ap length first ∙ length-append old (own ∷ []) in
      more ∙ (λ j. first j ++ nodes_inside (long j) (here j) content keyed) ∙ append_assoc old (own ∷ []) inside

  pub container_listed : (l3 : List Node) (w k : ℕ) → w ≡ count content → k ≡ count_keys keyed
      → l3 ≡ old ++ container_node h x name flags w k (length (nodes_inside (length old + 1) (length old) content keyed) + 1) ∷ nodes_inside (length old + 1) (length old) content keyed
      → l3 ≡ old ++ nodes_of (length old) h x (container name flags content keyed)
  container_listed l3 w k wide by_key is =
      let s = container name flags content keyed in
      let total : length inside + 1 ≡ length (places s) = omega (arith, many (length old) h x s) in
      is ∙ (λ j. old ++ container_node h x name flags (wide j) (by_key j) (total j) ∷ inside)

-- once a container is opened there is room for what is in it, and its own node stays
pub opened_room : (old new : List Node) (n : Node) (a b : ℕ) → new ≡ old ++ n ∷ [] → a ≡ b → length old + a + 1 < 2 ^ 31 → length new + b < 2 ^ 31
opened_room old new n a b is same room = omega (arith, ap length is, length-append old (n ∷ []), same, room)

pub opened_within : (old l1 l2 : List Node) (n : Node) (more : List Node) (number : ℕ) → number ≡ length old → l1 ≡ old ++ n ∷ [] → l2 ≡ l1 ++ more → number < length l2
opened_within old l1 l2 n more number here opened all = omega (arith, here, ap length opened, length-append old (n ∷ []), ap length all, length-append l1 more)

-- elements, and then containers by key
pub inside_listed : (old l1 l2 : List Node) (number : ℕ) (content : Trees) (keyed ks : Keyed) → l1 ≡ old ++ nodes_from (length old) number 0 content
    → l2 ≡ l1 ++ nodes_by_key (length l1) number ks → keyed ≡ ks → l2 ≡ old ++ nodes_inside (length old) number content keyed
inside_listed old l1 l2 number content keyed ks elements named same =
    let first = nodes_from (length old) number 0 content in
    let long : length l1 ≡ length old + length first = ap length elements ∙ length-append old first in
    named ∙ (λ j. elements j ++ nodes_by_key (long j) number (sym same j)) ∙ append_assoc old first (nodes_by_key (length old + length first) number keyed)

-- content adds no more nodes than its value is made of values
pub grown : (version : InkVersion) (old new : List Node) (n h : ℕ) (x : Option Part) (listed : Bool) (d : Data) (t : StoryTree) → new ≡ old ++ nodes_of n h x t → tree_of version listed d ≡ t → length new ≤ length old + size d
grown version old new n h x listed d t is same =
    omega (arith, ap length is, length-append old (nodes_of n h x t), many n h x t, ap (λ u. length (places u)) same, places_within version listed d)

-- one element more
pub element_listed : (version : InkVersion) (now new whole : List Node) (h i : ℕ) (here next : Data) (left rest : Items) → rest ≡ item next left → (t : StoryTree) → tree_of version true here ≡ t
    → new ≡ now ++ nodes_of (length now) h (Some (Index i)) t → now ++ nodes_from (length now) h i (content_of version (item here rest)) ≡ whole
    → new ++ nodes_from (length new) h (i + 1) (content_of version (item next left)) ≡ whole
element_listed version now new whole h i here next left rest e t is more listed =
    from_more now new whole h i t (content_of version (item next left))
    (ap (λ u. now ++ nodes_from (length now) h i (tree u (content_of version (item next left)))) (sym is)
    ∙ ap (λ ds. now ++ nodes_from (length now) h i (content_of version (item here ds))) (sym e) ∙ listed) more

-- after the elements there is room for the last one
elements_within : (version : InkVersion) (i : ℕ) (d : Data) (ds : Items) → length (places_from i (content_of version (item d ds))) + size (own_after d ds) ≤ items_size (item d ds)
elements_within version i d no_items = omega arith
elements_within version i d (item e ds) =
    omega (arith, under_more (Index i) (places (tree_of version true d)) (places_from (i + 1) (content_of version (item e ds))), places_within version true d, elements_within version (i + 1) e ds)

pub last_grown : (version : InkVersion) (old new : List Node) (number : ℕ) (d : Data) (ds : Items) (last : Data) → new ≡ old ++ nodes_from (length old) number 0 (content_of version (item d ds)) → own_after d ds ≡ last
    → length new + size last ≤ length old + items_size (item d ds)
last_grown version old new number d ds last is e =
    omega (arith, ap length is, length-append old (nodes_from (length old) number 0 (content_of version (item d ds))), many_from (length old) number 0 (content_of version (item d ds)), ap size e, elements_within version 0 d ds)

-- ---- containers by key

keys_unless : (b : Bool) (k : List ℕ) (t : StoryTree) (ks : Keyed) (n : ℕ) → count_keys ks ≤ n → count_keys (cond b ks (key k t ks)) ≤ suc n
keys_unless true k t ks n h = omega arith
keys_unless false k t ks n h = omega arith

-- there are no more of them than members
pub keys_within : (version : InkVersion) (ms : Members) → count_keys (keyed_by version ms) ≤ members_size ms
keys_within version no_members = omega arith
keys_within version (member k d ms) = omega (arith, keys_unless (is_own k) k (tree_of version false d) (keyed_by version ms) (members_size ms) (keys_within version ms), size_positive d)

-- the next of them
module _ (version : InkVersion) (e : Entry) (more : List Entry) (own : is_own e.0.now ≡ false) where
  pub next_key : keyed_by version (members_data (e ∷ more)) ≡ key e.0.now (tree_of version false (json_data e.1)) (keyed_by version (members_data more))
  next_key = rw own refl

-- a key that is no name is passed
pub own_key : (version : InkVersion) (e : Entry) (more : List Entry) → is_own e.0.now ≡ true → keyed_by version (members_data (e ∷ more)) ≡ keyed_by version (members_data more)
own_key version e more own = rw own refl

-- ---- the whole story

-- the nodes of the root are those of the tree that they stand for
pub root_listed : (old new : List Node) (x : Option Part) (t : StoryTree) → old ≡ [] → x ≡ None → new ≡ old ++ nodes_of (length old) 0 x t → (t ≡ rebuilt new) × IsListed new
root_listed old new x t none root is =
    let both = listed new t (is ∙ (λ j. none j ++ nodes_of (length (none j)) 0 (root j) t)) in (sym both.0, both.1)
