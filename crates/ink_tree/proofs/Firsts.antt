-- Names that lead to the first container of the name.
use Rattle.std.proofs.Common.{◌≡◌, ◌∙◌, ap, sym, refl, ℕ, zero, suc, ◌+◌, ◌<◌, ◌≤◌, List, [], ◌∷◌, ◌++◌, inl, inr, rules, Bool, true, false, true≢false, bytes_eq, cond, if◌then◌else◌, Option, Some, None, is_some, option_and_then, arith}
use Rattle.std.proofs.lemmas.Slice.Eq.{bytes_eq-Decides}
use Rattle.std.specs.Map.{update}
use Rattle.ink_tree.proofs.Common.{cases_Bool, cond-true, cond-false, none-some, same_Some, listed_index, is_named, named_index, StoryTree, leaf, container, Trees, no_trees, tree, nth, down, at, width, count, Part, Index, name_in, first_of, given}
use Rattle.ink_tree.proofs.Further.{below}
use Rattle.ink_tree.proofs.Standing.{index_stands}

first_alone : (o : Option ℕ) → o ≡ first_of o None
first_alone None = refl
first_alone (Some i) = refl

-- a name that leads nowhere before leads to what it is given, and the others lead where they did
pub name_put : (f : List ℕ → Option ℕ) (own name : List ℕ) (i : ℕ) → f own ≡ None
    → update bytes_eq f own (Some i) name ≡ first_of (f name) (if bytes_eq name own then Some i else None)
name_put f own name i none =
    elim (cases_Bool (bytes_eq own name)) [
      | inl is ↦
          let same : own ≡ name = (bytes_eq-Decides own name).0 is in
          let also : bytes_eq name own ≡ true = (bytes_eq-Decides name own).1 (sym same) in
          let free : f name ≡ None = ap f (sym same) ∙ none in
          cond-true (bytes_eq own name) (Some i) (f name) is ∙ sym (rw (free, also) refl)
      | inr other ↦
          let also : bytes_eq name own ≡ false = search (rules, bytes_eq-Decides, other) in
          cond-false (bytes_eq own name) (Some i) (f name) other ∙ first_alone (f name) ∙ sym (rw also refl)
    ]

-- what a name led to is put back
pub name_put_back : (f g : List ℕ → Option ℕ) (own name : List ℕ) (i first : ℕ) → f own ≡ Some first → ((n : List ℕ) → g n ≡ update bytes_eq f own (Some i) n)
    → update bytes_eq g own (Some first) name ≡ first_of (f name) (if bytes_eq name own then Some i else None)
name_put_back f g own name i first there after =
    elim (cases_Bool (bytes_eq own name)) [
      | inl is ↦
          let same : own ≡ name = (bytes_eq-Decides own name).0 is in
          let kept : f name ≡ Some first = ap f (sym same) ∙ there in
          cond-true (bytes_eq own name) (Some first) (g name) is ∙ sym (rw kept refl)
      | inr other ↦
          let also : bytes_eq name own ≡ false = search (rules, bytes_eq-Decides, other) in
          cond-false (bytes_eq own name) (Some first) (g name) other ∙ after name ∙ cond-false (bytes_eq own name) (Some i) (f name) other ∙ first_alone (f name) ∙ sym (rw also refl)
    ]

-- ---- a list, from an index on

-- what is left behind so many contents
abbrev rest : ℕ → Trees → Trees
rest i no_trees = no_trees
rest zero (tree t ts) = tree t ts
rest (suc i) (tree t ts) = rest i ts

-- the first container from an index on that gives itself a name
abbrev pub named_from : List ℕ → ℕ → Option StoryTree → Option ℕ
named_from name i None = None
named_from name i (Some (leaf l)) = None
named_from name i (Some (container own flags content named)) = named_index name i (rest i content)

whole : (ts : Trees) → rest 0 ts ≡ ts
whole no_trees = refl
whole (tree t ts) = refl

pub from_start : (name : List ℕ) (o : Option StoryTree) → named_from name 0 o ≡ listed_index name o
from_start name None = refl
from_start name (Some (leaf l)) = refl
from_start name (Some (container own flags content named)) = ap (named_index name 0) (whole content)

none_left : (i : ℕ) (ts : Trees) → count ts ≤ i → rest i ts ≡ no_trees
none_left i no_trees h = refl
none_left zero (tree t ts) h = absurd (omega arith)
none_left (suc i) (tree t ts) h = none_left i ts (omega arith)

pub from_end : (name : List ℕ) (i : ℕ) (o : Option StoryTree) → width o ≤ i → None ≡ named_from name i o
from_end name i None h = refl
from_end name i (Some (leaf l)) h = refl
from_end name i (Some (container own flags content named)) h = sym (ap (named_index name i) (none_left i content h))

one_left : (i : ℕ) (ts : Trees) (t : StoryTree) → nth i ts ≡ Some t → rest i ts ≡ tree t (rest (suc i) ts)
one_left i no_trees t e = absurd (none-some t e)
one_left zero (tree u ts) t e = (λ j. tree (same_Some u t e j) (sym (whole ts) j))
one_left (suc i) (tree u ts) t e = one_left i ts t e

one_named : (name : List ℕ) (i : ℕ) (t : StoryTree) (ts : Trees) → named_index name i (tree t ts) ≡ cond (is_named name (name_in (Some t))) (Some i) (named_index name (i + 1) ts)
one_named name i (leaf l) ts = refl
one_named name i (container own flags content named) ts = refl

-- by the content at that index
one_on : (name : List ℕ) (i : ℕ) (o : Option StoryTree) (t : StoryTree) → option_and_then (down (Index i)) o ≡ Some t
    → named_from name i o ≡ cond (is_named name (name_in (Some t))) (Some i) (named_from name (i + 1) o)
one_on name i None t e = absurd (none-some t e)
one_on name i (Some (leaf l)) t e = absurd (none-some t e)
one_on name i (Some (container own flags content named)) t e =
    let next : suc i ≡ i + 1 = omega arith in
    ap (named_index name i) (one_left i content t e) ∙ one_named name i t (rest (suc i) content)
    ∙ ap (λ k. cond (is_named name (name_in (Some t))) (Some i) (named_index name (i + 1) (rest k content))) next

found : (o : Option StoryTree) → is_some o ≡ true → (t : StoryTree) × (o ≡ Some t)
found None h = absurd (true≢false (sym h))
found (Some t) h = (t, refl)

module _ (s : StoryTree) (p : List Part) (name : List ℕ) (i : ℕ) (h : i < width (at s p)) (own : Option (List ℕ)) (is : own ≡ name_in (at s (p ++ Index i ∷ []))) where
  from_next : named_from name i (at s p) ≡ cond (is_named name own) (Some i) (named_from name (i + 1) (at s p))
  from_next =
      let (t, there) = found (at s (p ++ Index i ∷ [])) (index_stands s p i h) in
      one_on name i (at s p) t (below s p (Index i) (at s p) refl ∙ there)
      ∙ ap (λ n. cond (is_named name n) (Some i) (named_from name (i + 1) (at s p))) (sym (is ∙ ap name_in there))

  -- by whether it is that name
  pub from_here : (b : Bool) → is_named name own ≡ b → cond b (Some i) (named_from name (i + 1) (at s p)) ≡ named_from name i (at s p)
  from_here b h = sym (from_next ∙ ap (λ b. cond b (Some i) (named_from name (i + 1) (at s p))) h)

  chosen : (b : Bool) (first last : Option ℕ) → first_of first (cond b (Some i) last) ≡ first_of (first_of first (cond b (Some i) None)) last
  chosen true None last = refl
  chosen true (Some j) last = refl
  chosen false None last = refl
  chosen false (Some j) last = refl

  -- the names so far lead to the first, or else the list from here on does
  pub names_next : (old new : Option ℕ) (whole : Option ℕ) → first_of old (named_from name i (at s p)) ≡ whole → new ≡ first_of old (given name i own)
      → first_of new (named_from name (i + 1) (at s p)) ≡ whole
  names_next old new whole before more =
      ap (λ o. first_of o (named_from name (i + 1) (at s p))) more ∙ sym (chosen (is_named name own) old (named_from name (i + 1) (at s p)))
      ∙ ap (first_of old) (sym from_next) ∙ before

pub names_start : (name : List ℕ) (old : Option ℕ) (o : Option StoryTree) → old ≡ None → first_of old (named_from name 0 o) ≡ listed_index name o
names_start name old o is = ap (λ n. first_of n (named_from name 0 o)) is ∙ from_start name o

pub names_end : (name : List ℕ) (all : Option ℕ) (i : ℕ) (o : Option StoryTree) → first_of all (named_from name i o) ≡ listed_index name o → width o ≤ i → all ≡ listed_index name o
names_end name all i o is past = first_alone all ∙ ap (first_of all) (from_end name i o past) ∙ is
