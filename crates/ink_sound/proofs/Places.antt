-- Places of a story: where flow enters, goes on, lands, and where paths lead.
use Rattle.std.proofs.Common.{◌≡◌, ◌∙◌, ap, sym, refl, subst, arith, ℕ, zero, suc, ◌+◌, ◌<◌, List, [], ◌∷◌, ◌++◌, reverse, true, ◌&&◌, ◌||◌, nat_lt, nat_le, nat_eq, if◌then◌else◌, Option, Some, None, is_some, option_and_then}
use Rattle.ink_model.proofs.Listed.{listed_within, named_within}
use Rattle.ink_sound.proofs.Common.{cond_both, nat_tests, option_map, lands, jump_place, landing_by, Part, Index, Name, Path, Value, Finds, PlaceFits}
use Rattle.std.proofs.lemmas.List.{append-nil, reverse-append, reverse-reverse}
use Rattle.ink_model.specs.Run.Effect.{Landing}
use Rattle.ink_model.specs.Story.Path.{above, absolute_target, by_name, ends_at, ends_in_index, is_container, is_place, is_up, landing, listed_index, read_path, stepped, stepped_last, target, walked}
use Rattle.ink_model.specs.Run.Place.{content_place, first_content, first_content_at, knot, landed, named_index, next_place, next_upwards, start_place}
use Rattle.ink_model.specs.Story.Tree.{StoryTree, leaf, container, Trees, no_trees, tree, at, by_key, count, down, nth, width}
use Rattle.ink_model.specs.declared.value.Value.TheVariants as value
use Rattle.ink_sound.proofs.Values.{Any, any_finds, finds_of, map_finds, map_found, on_finds}

-- content stands there
abbrev pub Stands : StoryTree → List Part → Type 0
Stands s p = is_some (at s p) ≡ true

-- ---- a way on from a place

pub at_append : (p q : List Part) (s : StoryTree) → at s (p ++ q) ≡ option_and_then (λ t. at t q) (at s p)
at_append [] q s = refl
at_append (x ∷ p) q s = elim (down x s) as (λ o. option_and_then (λ u. at u (p ++ q)) o ≡ option_and_then (λ t. at t q) (option_and_then (λ u. at u p) o))
    [ None ↦ refl | Some u ↦ at_append p q u ]

-- what holds content that stands stands too
pub stands_before : (s : StoryTree) (p q : List Part) → Stands s (p ++ q) → Stands s p
stands_before s p q h = (elim (at s p) as (λ o. is_some (option_and_then (λ t. at t q) o) ≡ true → is_some o ≡ true) [ None ↦ λ e. e | Some t ↦ λ e. refl ])
    (sym (ap is_some (at_append p q s)) ∙ h)

-- ---- by index

nth_stands : (i : ℕ) (ts : Trees) → i < count ts → is_some (option_and_then (λ u. Some u) (nth i ts)) ≡ true
nth_stands i no_trees h = absurd (omega arith)
nth_stands zero (tree t ts) h = refl
nth_stands (suc i) (tree t ts) h = nth_stands i ts (omega arith)

in_stands : (i : ℕ) (o : Option StoryTree) → i < width o → is_some (option_and_then (λ t. at t (Index i ∷ [])) o) ≡ true
in_stands i (Some (container name flags content named)) h = nth_stands i content h
in_stands i o h = absurd (omega arith)

pub index_stands : (s : StoryTree) (p : List Part) (i : ℕ) → i < width (at s p) → Stands s (p ++ Index i ∷ [])
index_stands s p i h = ap is_some (at_append p (Index i ∷ []) s) ∙ in_stands i (at s p) h

-- ---- places

pub stands_fits : (s : StoryTree) (p : List Part) → Stands s p → PlaceFits s p
unfolding is_place
stands_fits s p h = ap (λ b. b || ends_at s (reverse p)) h

or_end : (ts : Trees) (i : ℕ) → (is_some (option_and_then (λ u. Some u) (nth i ts)) || nat_eq i (count ts)) ≡ nat_le i (count ts)
or_end no_trees zero = refl
or_end no_trees (suc i) = grind (arith, nat_tests)
or_end (tree t ts) zero = grind (arith, nat_tests)
or_end (tree t ts) (suc i) = grind (arith, nat_tests, or_end ts i)

reached : (o : Option StoryTree) (i : ℕ) → (is_some (option_and_then (λ u. at u (Index i ∷ [])) o) || (is_container o && nat_eq i (width o))) ≡ (is_container o && nat_le i (width o))
reached (Some (container name flags content named)) i = or_end content i
reached o i = refl

-- an index up to the container's width, which is its end
pub reach_fits : (s : StoryTree) (p : List Part) (i : ℕ) → (is_container (at s p) && nat_le i (width (at s p))) ≡ true → PlaceFits s (p ++ Index i ∷ [])
unfolding is_place
reach_fits s p i h =
    (λ j. is_some (at_append p (Index i ∷ []) s j) || ends_at s (reverse-append p (Index i ∷ []) j))
    ∙ ap (λ o. is_some (option_and_then (λ u. at u (Index i ∷ [])) (at s p)) || (is_container o && nat_eq i (width o))) (ap (at s) (reverse-reverse p))
    ∙ reached (at s p) i ∙ h

-- ---- on the way of flow

abbrev first_stands : (t : StoryTree) → is_some (at t (first_content t)) ≡ true
first_stands (container name flags (tree t ts) named) = first_stands t
first_stands t = refl

pub entered_fits : (s : StoryTree) (p : List Part) → PlaceFits s p → PlaceFits s (content_place s p)
unfolding content_place
entered_fits s p h = (elim (at s p) as (λ o. at s p ≡ o → PlaceFits s (p ++ first_content_at o)) [
  | None ↦ λ e. subst (PlaceFits s) (sym (append-nil p)) h
  | Some t ↦ λ e. stands_fits s (p ++ first_content t)
      (ap is_some (at_append p (first_content t) s) ∙ ap (λ o. is_some (option_and_then (λ u. at u (first_content t)) o)) e ∙ first_stands t)
]) refl

upwards_fits : (s : StoryTree) (up : List Part) → Finds (PlaceFits s) (next_upwards s up)
upwards_fits s (Index i ∷ up) = cond_both (nat_lt (i + 1) (width (at s (reverse up)))) _ _ (Finds (PlaceFits s))
    (λ e. subst (PlaceFits s) (sym (reverse-append (Index (i + 1) ∷ []) up)) (stands_fits s (reverse up ++ Index (i + 1) ∷ []) (index_stands s (reverse up) (i + 1) (grind (arith, nat_tests, e)))))
    (λ _. upwards_fits s up)
upwards_fits s up = tt

pub next_fits : (s : StoryTree) (p : List Part) → Finds (PlaceFits s) (next_place s p)
unfolding next_place
next_fits s p = upwards_fits s (reverse p)

pub start_fits : (s : StoryTree) → PlaceFits s (start_place s)
start_fits s = cond_both (nat_lt 0 (width (Some s))) _ _ (PlaceFits s) (λ e. stands_fits s (Index 0 ∷ []) (index_stands s [] 0 (grind (arith, nat_tests, e)))) (λ _. stands_fits s [] refl)

-- ---- where paths lead

above_stands : (s : StoryTree) (r : List Part) → Stands s (reverse r) → Finds (Stands s) (above r)
above_stands s [] h = tt
above_stands s (x ∷ up) h = stands_before s (reverse up) (x ∷ []) (subst (Stands s) (reverse-append (x ∷ []) up) h)

pub up_stands : (s : StoryTree) (p : List Part) → Stands s p → Finds (Stands s) (above (reverse p))
up_stands s p h = above_stands s (reverse p) (subst (Stands s) (sym (reverse-reverse p)) h)

name_stands : (s : StoryTree) (p : List Part) (name : List ℕ) → Finds (Stands s) (by_name s p name)
name_stands s p name = cond_both (is_some (at s (p ++ Name name ∷ []))) _ _ (Finds (Stands s)) (λ e. e)
    (λ _. map_found (Stands s) (listed_index name (at s p)) _ (λ i e. index_stands s p i (listed_within name (at s p) i e)))

step_stands : (s : StoryTree) (p : List Part) (c : Part) → Stands s p → Finds (Stands s) (stepped s p c)
step_stands s p (Index i) h = cond_both (nat_lt i (width (at s p))) _ _ (Finds (Stands s)) (λ e. index_stands s p i (grind (arith, nat_tests, e))) (λ _. tt)
step_stands s p (Name name) h = cond_both (is_up name) _ _ (Finds (Stands s)) (λ _. up_stands s p h) (λ _. name_stands s p name)

last_fits : (s : StoryTree) (p : List Part) (c : Part) → Stands s p → Finds (PlaceFits s) (stepped_last s p c)
last_fits s p (Index i) h = cond_both (is_container (at s p) && nat_le i (width (at s p))) _ _ (Finds (PlaceFits s)) (λ e. reach_fits s p i e) (λ _. tt)
last_fits s p (Name name) h = finds_of (Stands s) (PlaceFits s) (stepped s p (Name name)) (step_stands s p (Name name) h) (λ q k. stands_fits s q k)

walked_fits : (s : StoryTree) (cs p : List Part) → Stands s p → Finds (PlaceFits s) (walked s p cs)
walked_fits s [] p h = stands_fits s p h
walked_fits s (c ∷ []) p h = last_fits s p c h
walked_fits s (c ∷ d ∷ cs) p h = on_finds (Stands s) (PlaceFits s) (stepped s p c) (λ q. walked s q (d ∷ cs)) (step_stands s p c h) (λ q k. walked_fits s (d ∷ cs) q k)

-- from content that stands
pub target_fits : (s : StoryTree) (from : List Part) (path : Path) → Stands s from → Finds (PlaceFits s) (target s from path)
unfolding target
target_fits s from path h = walked_fits s path.parts (if path.relative then from else []) (cond_both path.relative from [] (Stands s) (λ _. h) (λ _. refl))

pub landed_fits : (s : StoryTree) (p : List Part) → PlaceFits s p → PlaceFits s (landed s p)
unfolding landed
landed_fits s p h = cond_both (nat_lt 0 (width (at s p))) _ _ (PlaceFits s) (λ e. stands_fits s (p ++ Index 0 ∷ []) (index_stands s p 0 (grind (arith, nat_tests, e)))) (λ _. h)

landing_fits : (s : StoryTree) (path : Path) (p : List Part) → PlaceFits s p → PlaceFits s (landing s path p)
landing_fits s path p h = cond_both (ends_in_index path.parts) _ _ (PlaceFits s) (λ _. h) (λ _. landed_fits s p h)

-- where a written path lands
pub lands_fits : (s : StoryTree) (p : List Part) (text : List ℕ) → Stands s p → Finds (PlaceFits s) (lands s p text)
lands_fits s p text h = on_finds Any (PlaceFits s) (read_path text) _ (any_finds (read_path text))
    (λ path _. map_finds (PlaceFits s) (PlaceFits s) (target s p path) (landing s path) (target_fits s p path h) (λ q k. landing_fits s path q k))

-- where a target that was read leads
pub led_fits : (s : StoryTree) (v : Value) → Finds (λ (l : Landing). PlaceFits s l.place) (landing_by s v)
led_fits s (value.Target path) = map_finds (PlaceFits s) (λ (l : Landing). PlaceFits s l.place) (target s [] path) _ (target_fits s [] path refl) (λ q h. h)
led_fits s v = tt

-- where a host's path lands
pub jump_fits : (s : StoryTree) (text : List ℕ) → Finds (PlaceFits s) (jump_place s text)
jump_fits s text = on_finds Any (PlaceFits s) (read_path text) _ (any_finds (read_path text)) (λ path _. map_finds (PlaceFits s) (PlaceFits s) (absolute_target s path) (landing s path)
    (cond_both path.relative _ _ (Finds (PlaceFits s)) (λ _. tt) (λ _. target_fits s [] path refl)) (λ q k. landing_fits s path q k))

-- ---- knots

pub knot_fits : (s : StoryTree) (name : List ℕ) → Finds (PlaceFits s) (knot name s)
unfolding knot
knot_fits (leaf l) name = tt
knot_fits (container own flags content named) name =
    let s : StoryTree = container own flags content named in
    (elim (by_key name named) as (λ o. by_key name named ≡ o → Finds (PlaceFits s) (if is_some o then Some (Name name ∷ []) else option_map (λ i. Index i ∷ []) (named_index name 0 content))) [
      | None ↦ λ e. map_found (PlaceFits s) (named_index name 0 content) _ (λ i is. stands_fits s (Index i ∷ []) (nth_stands i content (omega (arith, named_within name 0 content i is))))
      | Some t ↦ λ e. stands_fits s (Name name ∷ []) (ap (λ o. is_some (option_and_then (λ u. at u []) o)) e)
    ]) refl
