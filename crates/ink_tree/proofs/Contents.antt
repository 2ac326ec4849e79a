-- What a content by itself says of what is found at a place.
use Rattle.std.proofs.Common.{◌≡◌, ◌∙◌, ap, sym, refl, ℕ, List, [], ◌∷◌, ◌++◌, Option, Some, None, option_map, option_and_then, arith}
use Rattle.ink_tree.proofs.Common.{none-some, same_Some, flags_at, StoryTree, leaf, container, Keyed, no_keys, key, by_key, down, at, width, Trees, Part, Name, name_in, reaches_in, kept_flags, kept_keys, kept_leaf, kept_name, kept_reaches, kept_width, leaf_in}
use Rattle.ink_model.specs.declared.content.Leaf.{Leaf as Single}
use Rattle.ink_model.specs.Story.View.{count_keys, own_content}
use Rattle.ink_model.specs.declared.content.Content.{Content}
use Rattle.ink_tree.proofs.Further.{below}

-- what a content by itself says is what is found there, where it is so of a leaf and of a container
module _ (o : Option StoryTree) (c : Content) (is : Some c ≡ option_map own_content o) where
  seen : {A : Type 0} (f : Content → A) (g : Option StoryTree → A) → ((l : Single) → f (own_content (leaf l)) ≡ g (Some (leaf l)))
      → ((own : Option (List ℕ)) (flags : ℕ) (content : Trees) (named : Keyed) → f (own_content (container own flags content named)) ≡ g (Some (container own flags content named)))
      → f c ≡ g o
  seen {A} f g of_leaf of_container = by o is
    where
      by : (p : Option StoryTree) → Some c ≡ option_map own_content p → f c ≡ g p
      by None e = absurd (none-some c (sym e))
      by (Some (leaf l)) e = ap f (same_Some c _ e) ∙ of_leaf l
      by (Some (container own flags content named)) e = ap f (same_Some c _ e) ∙ of_container own flags content named

  pub leaf_seen : kept_leaf c ≡ leaf_in o
  leaf_seen = seen kept_leaf leaf_in (λ l. refl) (λ own flags content named. refl)

  pub width_seen : kept_width c ≡ width o
  width_seen = seen kept_width width (λ l. refl) (λ own flags content named. refl)

  pub flags_seen : kept_flags c ≡ flags_at o
  flags_seen = seen kept_flags flags_at (λ l. refl) (λ own flags content named. refl)

  pub name_seen : kept_name c ≡ name_in o
  name_seen = seen kept_name name_in (λ l. refl) (λ own flags content named. refl)

  pub reaches_seen : (i : ℕ) → kept_reaches c i ≡ reaches_in o i
  reaches_seen i = seen (λ d. kept_reaches d i) (λ p. reaches_in p i) (λ l. refl) (λ own flags content named. refl)

-- ---- a container without keys

nothing_by_key : (ks : Keyed) (n : List ℕ) → count_keys ks ≡ 0 → by_key n ks ≡ None
nothing_by_key no_keys n none = refl
nothing_by_key (key k t ks) n none = absurd (omega arith)

keyless : (o : Option StoryTree) (c : Content) (n : List ℕ) → Some c ≡ option_map own_content o → kept_keys c ≡ 0 → option_and_then (down (Name n)) o ≡ None
keyless None c n is none = refl
keyless (Some (leaf l)) c n is none = refl
keyless (Some (container name flags content named)) c n is none =
    let keys = ap kept_keys (same_Some c (own_content (container name flags content named)) is) in nothing_by_key named n (omega (arith, keys, none))

-- nothing stands there by a name
pub no_keys_in : (s : StoryTree) (p : List Part) (c : Content) (n : List ℕ) → Some c ≡ option_map own_content (at s p) → kept_keys c ≡ 0 → at s (p ++ Name n ∷ []) ≡ None
no_keys_in s p c n is none = sym (below s p (Name n) (at s p) refl) ∙ keyless (at s p) c n is none
