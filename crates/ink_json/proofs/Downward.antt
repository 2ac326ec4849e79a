-- One part down in the list of a story's nodes.
use Rattle.std.proofs.Common.{◌≡◌, ◌∙◌, ap, sym, refl, ℕ, zero, suc, ◌+◌, ◌<◌, ◌≤◌, List, [], ◌∷◌, ◌++◌, length, drop, get_or, true, false, if◌then◌else◌, Option, Some, None, Ordering, Less, Equal, Greater, is_eq, nat_cmp, append_assoc, add-zero, arith}
use Rattle.std.proofs.Math.Seq.{drop-append_seam}
use Rattle.ink_json.proofs.Common.{slice_cmp, match_ordering, nat_tests, Part, Index, Name, Node}
use Rattle.std.proofs.lemmas.List.{append-nil, drop-drop, get_or-drop, length-append, length-drop}
use Rattle.ink_model.specs.Story.Tree.{StoryTree, leaf, container, Trees, no_trees, tree, Keyed, no_keys, key, nth, by_key, down}
use Rattle.ink_model.specs.Story.View.{own_content}
use Rattle.ink_json.specs.Descent.{tree_at, Stands, size_of, leads}
use Rattle.ink_json.specs.Listing.{nodes_of, nodes_from, nodes_by_key, own_node, story_nodes, Standing, first_tree, rebuilt}
use Rattle.ink_json.proofs.Listing.{many, stands, standing_from, standing_by_key}

-- ---- the nodes of what is in a content

-- contents, one behind another
abbrev pub nodes_of_all : ℕ → ℕ → List Standing → List Node
nodes_of_all n holder [] = []
nodes_of_all n holder (x ∷ xs) = nodes_of n holder x.0 x.1 ++ nodes_of_all (n + length (nodes_of n holder x.0 x.1)) holder xs

abbrev children_of : StoryTree → List Standing
children_of (leaf l) = []
children_of (container name flags content named) = standing_from 0 content ++ standing_by_key named

all_by_key : (n h : ℕ) (ks : Keyed) → nodes_by_key n h ks ≡ nodes_of_all n h (standing_by_key ks)
all_by_key n h no_keys = refl
all_by_key n h (key k t ks) = let first = nodes_of n h (Some (Name k)) t in ap (λ l. first ++ l) (all_by_key (n + length first) h ks)

all_from : (n h i : ℕ) (ts : Trees) (ks : Keyed) → nodes_from n h i ts ++ nodes_by_key (n + length (nodes_from n h i ts)) h ks ≡ nodes_of_all n h (standing_from i ts ++ standing_by_key ks)
all_from n h i no_trees ks = ap (λ m. nodes_by_key m h ks) (add-zero n) ∙ all_by_key n h ks
all_from n h i (tree t ts) ks =
    let first = nodes_of n h (Some (Index i)) t in
    let m = n + length first in
    let others = nodes_from m h (i + 1) ts in
    let number : n + length (first ++ others) ≡ m + length others = omega (arith, length-append first others) in
    append_assoc first others (nodes_by_key (n + length (first ++ others)) h ks) ∙ ap (λ j. first ++ (others ++ nodes_by_key j h ks)) number
    ∙ ap (λ l. first ++ l) (all_from m h (i + 1) ts ks)

-- its own node, and then those
in_front : (n h : ℕ) (x : Option Part) (t : StoryTree) → nodes_of n h x t ≡ own_node h x t ∷ nodes_of_all (n + 1) n (children_of t)
in_front n h x (leaf l) = refl
in_front n h x (container name flags content named) = ap (λ l. own_node h x (container name flags content named) ∷ l) (all_from (n + 1) n 0 content named)

sized : (n h : ℕ) (x : Option Part) (t : StoryTree) → size_of (own_content t) ≡ length (nodes_of n h x t)
sized n h x (leaf l) = refl
sized n h x (container name flags content named) = sym (many n h x (container name flags content named))

-- ---- the first of them to which a part leads

abbrev first_at : Part → List Standing → Option StoryTree
first_at p [] = None
first_at p (x ∷ xs) = if leads p x.0 then Some x.1 else first_at p xs

same_index : (i j : ℕ) → i ≡ j → is_eq (nat_cmp i j) ≡ true
same_index i j e = grind (arith, nat_tests)

other_index : (i j : ℕ) → j < i → is_eq (nat_cmp i j) ≡ false
other_index i j h = grind (arith, nat_tests)

no_index : (i : ℕ) (ks : Keyed) → first_at (Index i) (standing_by_key ks) ≡ None
no_index i no_keys = refl
no_index i (key k t ks) = no_index i ks

index_found : (d i j : ℕ) (ts : Trees) (ks : Keyed) → i ≡ j + d → first_at (Index i) (standing_from j ts ++ standing_by_key ks) ≡ nth d ts
index_found d i j no_trees ks e = no_index i ks
index_found zero i j (tree t ts) ks e = ap (λ b. if b then Some t else first_at (Index i) (standing_from (j + 1) ts ++ standing_by_key ks)) (same_index i j (omega arith))
index_found (suc d) i j (tree t ts) ks e =
    ap (λ b. if b then Some t else first_at (Index i) (standing_from (j + 1) ts ++ standing_by_key ks)) (other_index i j (omega arith)) ∙ index_found d i (j + 1) ts ks (omega arith)

past_elements : (k : List ℕ) (j : ℕ) (ts : Trees) (xs : List Standing) → first_at (Name k) (standing_from j ts ++ xs) ≡ first_at (Name k) xs
past_elements k j no_trees xs = refl
past_elements k j (tree t ts) xs = past_elements k (j + 1) ts xs

by_order : (o : Ordering) (a b : Option StoryTree) → (if is_eq o then a else b) ≡ match_ordering o b a b
by_order Less a b = refl
by_order Equal a b = refl
by_order Greater a b = refl

name_found : (k : List ℕ) (ks : Keyed) → first_at (Name k) (standing_by_key ks) ≡ by_key k ks
name_found k no_keys = refl
name_found k (key l t ks) = ap (λ o. if is_eq (slice_cmp nat_cmp k l) then Some t else o) (name_found k ks) ∙ by_order (slice_cmp nat_cmp k l) (Some t) (by_key k ks)

first_down : (p : Part) (t : StoryTree) → first_at p (children_of t) ≡ down p t
first_down p (leaf l) = refl
first_down (Index i) (container name flags content named) = index_found i i 0 content named (omega arith)
first_down (Name k) (container name flags content named) = past_elements k 0 content (standing_by_key named) ∙ name_found k named

-- ---- what stands at a number

-- a list that goes on from a number with the nodes of a content
rebuilt_from : (n h : ℕ) (x : Option Part) (t : StoryTree) (rest : List Node) → rebuilt (nodes_of n h x t ++ rest) ≡ t
rebuilt_from n h x t rest = ap first_tree (stands n h x t rest)

pub root_stands : (ns : List Node) → ns ≡ story_nodes (rebuilt ns) → Stands ns 0
root_stands ns is = record { holder = 0; last = None; after = []; listed = is ∙ sym (append-nil (story_nodes (rebuilt ns))) }

-- the list goes on from a number with this node
module _ (ns : List Node) (n : ℕ) (own : Node) (rest : List Node) (is : drop n ns ≡ own ∷ rest) where
  within : n < length ns
  within = omega (arith, ap length is, length-drop n ns)

  one_on : drop (n + 1) ns ≡ rest
  one_on = sym (drop-drop 1 n ns) ∙ ap (drop 1) is

  got : (x : Node) → x ≡ get_or ns n x → x ≡ own
  got x at_it = at_it ∙ ap (λ m. get_or ns m x) (sym (add-zero n)) ∙ sym (get_or-drop n ns 0 x) ∙ ap (λ l. get_or l 0 x) is

-- the node at a number is that of the content, whose nodes all lie in the list
pub record Own (ns : List Node) (n : ℕ) (x : Node) : Type 0 where
  pub content : x.content ≡ own_content (tree_at ns n)
  pub reach : n + size_of x.content ≤ length ns

pub own_at : (ns : List Node) (n : ℕ) (x : Node) → Stands ns n → x ≡ get_or ns n x → Own ns n x
own_at ns n x s at_it =
    let t = tree_at ns n in
    let is = s.listed ∙ ap (λ l. l ++ s.after) (in_front n s.holder s.last t) in
    let rest = nodes_of_all (n + 1) n (children_of t) ++ s.after in
    let same : x ≡ own_node s.holder s.last t = got ns n (own_node s.holder s.last t) rest is x at_it in
    let size : size_of x.content ≡ length (nodes_of n s.holder s.last t) = ap (λ y. size_of y.content) same ∙ sized n s.holder s.last t in
    let inside : n < length ns = within ns n (own_node s.holder s.last t) rest is in
    record {
      content = ap (λ y. y.content) same;
      reach = omega (arith, ap length s.listed, length-append (nodes_of n s.holder s.last t) s.after, length-drop n ns, size);
    }

-- ---- from one content to the next

-- What is left from a number on: contents, in which what stands at a part is still to be found.
pub record Walk (ns : List Node) (next end holder : ℕ) (p : Part) (found : Option StoryTree) : Type 0 where
  pub left : List Standing
  pub after : List Node
  pub listed : drop next ns ≡ nodes_of_all next holder left ++ after
  pub ends : end ≡ next + length (nodes_of_all next holder left)
  pub same : first_at p left ≡ found

pub begin : (ns : List Node) (n : ℕ) (p : Part) (x : Node) → Stands ns n → x ≡ get_or ns n x → Walk ns (n + 1) (n + size_of x.content) n p (down p (tree_at ns n))
begin ns n p x s at_it =
    let t = tree_at ns n in
    let own = own_node s.holder s.last t in
    let all = nodes_of_all (n + 1) n (children_of t) in
    let is = s.listed ∙ ap (λ l. l ++ s.after) (in_front n s.holder s.last t) in
    let same : x ≡ own = got ns n own (all ++ s.after) is x at_it in
    let size : size_of x.content ≡ suc (length all) = ap (λ y. size_of y.content) same ∙ sized n s.holder s.last t ∙ ap length (in_front n s.holder s.last t) in
    record {
      left = children_of t;
      after = s.after;
      listed = one_on ns n own (all ++ s.after) is;
      ends = omega (arith, size);
      same = first_down p t;
    }

-- the next content is the one, or it is passed
pub record Ahead (ns : List Node) (next end holder : ℕ) (p : Part) (found : Option StoryTree) (x : Node) : Type 0 where
  pub some : 0 < size_of x.content
  pub fits : next + size_of x.content ≤ end
  pub stands : Stands ns next
  pub hit : leads p x.last ≡ true → Some (tree_at ns next) ≡ found
  pub passed : leads p x.last ≡ false → Walk ns (next + size_of x.content) end holder p found

module _ (ns : List Node) (next end holder : ℕ) (p : Part) (found : Option StoryTree) where
  module _ (after : List Node) (y : Standing) (ys : List Standing) where
    abbrev first : List Node
    first = nodes_of next holder y.0 y.1

    abbrev others : List Node
    others = nodes_of_all (next + length first) holder ys

    abbrev own : Node
    own = own_node holder y.0 y.1

    abbrev inside : List Node
    inside = nodes_of_all (next + 1) next (children_of y.1)

    module _ (listed : drop next ns ≡ (first ++ others) ++ after) where
      split : drop next ns ≡ first ++ (others ++ after)
      split = listed ∙ append_assoc first others after

      headed : drop next ns ≡ own ∷ (inside ++ (others ++ after))
      headed = split ∙ ap (λ l. l ++ (others ++ after)) (in_front next holder y.0 y.1)

      here : tree_at ns next ≡ y.1
      here = ap rebuilt split ∙ rebuilt_from next holder y.0 y.1 (others ++ after)

      ahead_in : (x : Node) → end ≡ next + length (first ++ others) → first_at p (y ∷ ys) ≡ found → x ≡ get_or ns next x → Ahead ns next end holder p found x
      ahead_in x ends same at_it =
          let is : x ≡ own = got ns next own (inside ++ (others ++ after)) headed x at_it in
          let size : size_of x.content ≡ length first = ap (λ z. size_of z.content) is ∙ sized next holder y.0 y.1 in
          let many : length first ≡ suc (length inside) = ap length (in_front next holder y.0 y.1) in
          let last : x.last ≡ y.0 = ap (λ z. z.last) is in
          let which : (if leads p x.last then Some y.1 else first_at p ys) ≡ found = ap (λ l. if leads p l then Some y.1 else first_at p ys) last ∙ same in
          let long : next + length first ≡ next + size_of x.content = omega (arith, size) in
          record {
            some = omega (arith, size, many);
            fits = omega (arith, size, length-append first others);
            stands = record { holder = holder; last = y.0; after = others ++ after; listed = split ∙ ap (λ t. nodes_of next holder y.0 t ++ (others ++ after)) (sym here) };
            hit = λ h. ap (λ t. Some t) here ∙ ap (λ b. if b then Some y.1 else first_at p ys) (sym h) ∙ which;
            passed = λ h. record {
              left = ys;
              after = after;
              listed = sym (drop-drop (size_of x.content) next ns) ∙ (λ i. drop (size i) (split i)) ∙ drop-append_seam first (others ++ after)
                  ∙ ap (λ m. nodes_of_all m holder ys ++ after) long;
              ends = ends ∙ omega (arith, length-append first others, size, ap (λ m. length (nodes_of_all m holder ys)) long);
              same = ap (λ b. if b then Some y.1 else first_at p ys) (sym h) ∙ which;
            };
          }

      within_in : next < length ns
      within_in = within ns next own (inside ++ (others ++ after)) headed

  ahead_of : (left : List Standing) (after : List Node) (x : Node) → drop next ns ≡ nodes_of_all next holder left ++ after → end ≡ next + length (nodes_of_all next holder left)
      → first_at p left ≡ found → next < end → x ≡ get_or ns next x → Ahead ns next end holder p found x
  ahead_of [] after x listed ends same more at_it = absurd (omega arith)
  ahead_of (y ∷ ys) after x listed ends same more at_it = ahead_in after y ys listed x ends same at_it

  pub ahead : (x : Node) → Walk ns next end holder p found → next < end → x ≡ get_or ns next x → Ahead ns next end holder p found x
  ahead x w more at_it = ahead_of w.left w.after x w.listed w.ends w.same more at_it

  walk_within_of : (left : List Standing) (after : List Node) → drop next ns ≡ nodes_of_all next holder left ++ after → end ≡ next + length (nodes_of_all next holder left)
      → next < end → next < length ns
  walk_within_of [] after listed ends more = absurd (omega arith)
  walk_within_of (y ∷ ys) after listed ends more = within_in after y ys listed

  pub walk_within : Walk ns next end holder p found → next < end → next < length ns
  walk_within w more = walk_within_of w.left w.after w.listed w.ends more

  walked_of : (left : List Standing) → end ≡ next + length (nodes_of_all next holder left) → first_at p left ≡ found → end ≤ next → None ≡ found
  walked_of [] ends same all = same
  walked_of (y ∷ ys) ends same all =
      absurd (omega (arith, length-append (nodes_of next holder y.0 y.1) (nodes_of_all (next + length (nodes_of next holder y.0 y.1)) holder ys), ap length (in_front next holder y.0 y.1)))

  -- past the last one, nothing stands at the part
  pub walked : Walk ns next end holder p found → end ≤ next → None ≡ found
  walked w = walked_of w.left w.ends w.same
