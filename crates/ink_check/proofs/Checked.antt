-- What the check of a story comes to, place by place.
use Rattle.std.proofs.Common.{◌≡◌, ℕ, suc, ◌+◌, ◌-◌, ◌<◌, ◌≤◌, Bool, true, false, List, [], ◌∷◌, ◌++◌, get_or, map, cond, is_some, length, take, drop, refl, sym, ap, ap₂, ◌∙◌, arith, Option, Some, None, Ok, Err}
use Rattle.std.specs.Borrow.{Bor}
use Rattle.std.specs.List.{filter, slice_get}
use Rattle.std.specs.Option.{option_and_then, option_map, unwrap_or}
use Rattle.std.proofs.Math.ListN.{get_or-map}
use Rattle.std.proofs.Math.Seq.{drop-cons}
use Rattle.std.proofs.lemmas.List.{drop_all, map-append, take_all, take_more}
use Rattle.std.proofs.lemmas.Option.{unwrap_or-slice_get}
use Rattle.ink_model.specs.Story.Acceptance.{accepted, bad_path, bad_places, good_content, has_bad_path}
use Rattle.ink_model.specs.Story.Path.{ends_in_index}
use Rattle.ink_model.specs.Story.Places.{places}
use Rattle.ink_model.specs.Story.Tree.{StoryTree, leaf, container, at}
use Rattle.ink_model.specs.declared.place.Part.{Part}
use Rattle.ink_model.specs.declared.place.Part.TheVariants.{Index, Name}
use Rattle.ink_model.specs.declared.fault.Failure.{Failure}
use Rattle.ink_model.specs.declared.fault.Failure.TheVariants.{OutOfMemory, Refused}
use Rattle.ink_tree.specs.Nodes.{node_place}
use Rattle.ink_tree.specs.declared.spot.NodeId.{NodeId}
use Rattle.ink_names.specs.Names.{number_of}
use Rattle.ink_names.proofs.Numbers.{number_behind, still}
use Rattle.ink_check.specs.Links as links
use Rattle.ink_check.specs.Names.{names, names_from, number_in, variable_number, variable_of, with_name, with_variable}
use Rattle.ink_check.specs.Outcome.{Follows, IsFirstBad}
use Rattle.ink_check.specs.declared.link.Link.{Link}
use Rattle.ink_check.specs.declared.link.Link.TheVariants.{Nothing}

-- ---- a path's last component

abbrev pub is_index : Option Part → Bool
is_index None = false
is_index (Some (Index i)) = true
is_index (Some (Name n)) = false

pub last_index : (ps : List Part) → is_index (slice_get ps (length ps - 1)) ≡ ends_in_index ps
last_index [] = refl
last_index (Index i ∷ []) = refl
last_index (Name n ∷ []) = refl
last_index (c ∷ d ∷ cs) =
    let next : length (c ∷ d ∷ cs) - 1 ≡ suc (length (d ∷ cs) - 1) = omega arith in
    ap (λ k. is_index (slice_get (c ∷ d ∷ cs) k)) next ∙ last_index (d ∷ cs)

-- ---- from one place to the next

abbrev nth_place : List (List Part) → ℕ → List Part
nth_place ps n = unwrap_or (slice_get ps n) []

drop_next : (ps : List (List Part)) (n : ℕ) → n < length ps → drop n ps ≡ nth_place ps n ∷ drop (n + 1) ps
drop_next ps n h =
    let more : suc n ≡ n + 1 = omega arith in
    drop-cons ps n [] h ∙ ap (λ p. p ∷ drop (suc n) ps) (sym (unwrap_or-slice_get ps n [])) ∙ ap (λ k. nth_place ps n ∷ drop k ps) more

take_next : (ps : List (List Part)) (n : ℕ) → n < length ps → take (n + 1) ps ≡ take n ps ++ nth_place ps n ∷ []
take_next ps n h = take_more ps n [] h ∙ ap (λ p. take n ps ++ p ∷ []) (sym (unwrap_or-slice_get ps n []))

abbrev node : ℕ → NodeId
node n = record { number = n }

abbrev is_good : StoryTree → List Part → Bool
is_good s p = good_content s p (at s p)

-- the bad places from a node on
abbrev pub bad_from : StoryTree → ℕ → List (List Part)
bad_from s n = filter (has_bad_path s) (drop n (places s))

pub all_bad : (s : StoryTree) → bad_places s ≡ bad_from s 0
unfolding bad_places
all_bad s = refl

pub good_next : (s : StoryTree) (n : ℕ) → n < length (places s) → is_good s (node_place s (node n)) ≡ true → bad_from s n ≡ bad_from s (n + 1)
good_next s n h good = ap (filter (has_bad_path s)) (drop_next (places s) n h) ∙ rw good refl

bad_next : (s : StoryTree) (n : ℕ) → n < length (places s) → is_good s (node_place s (node n)) ≡ false → bad_from s n ≡ node_place s (node n) ∷ bad_from s (n + 1)
bad_next s n h bad = ap (filter (has_bad_path s)) (drop_next (places s) n h) ∙ rw bad refl

pub none_left : (s : StoryTree) (n : ℕ) → length (places s) ≤ n → bad_from s n ≡ []
none_left s n h = ap (filter (has_bad_path s)) (drop_all n (places s) h)

bad_here : (s : StoryTree) (n : ℕ) → n < length (places s) → bad_places s ≡ bad_from s n → is_good s (node_place s (node n)) ≡ false → accepted s ≡ Err (bad_path (node_place s (node n)))
unfolding accepted
bad_here s n h so_far bad = rw (so_far ∙ bad_next s n h bad) refl

pub first_bad : (s : StoryTree) (names : List (List ℕ)) (n : ℕ) (e : Failure NodeId) → n < length (places s) → bad_places s ≡ bad_from s n
    → Follows s names (node n) (at s (node_place s (node n))) (Err e) → IsFirstBad s e
first_bad s names n OutOfMemory h so_far follows = tt
first_bad s names n (Refused m) h so_far (same, bad) = rw same (bad_here s n h so_far bad)

pub all_good : (s : StoryTree) → bad_places s ≡ [] → accepted s ≡ Ok s
unfolding accepted
all_good s good = rw good refl

-- ---- names

-- the names after one more place
pub names_next : (s : StoryTree) (n : ℕ) (now new : List (List ℕ)) → n < length (places s)
    → new ≡ with_variable (variable_of (at s (node_place s (node n)))) now → names_from s (drop n (places s)) now ≡ names s
    → names_from s (drop (n + 1) (places s)) new ≡ names s
names_next s n now new h is so_far =
    ap (names_from s (drop (n + 1) (places s))) is ∙ sym (ap (λ ps. names_from s ps now) (drop_next (places s) n h)) ∙ so_far

-- a name keeps its number where others come
with_still : (name q : List ℕ) (now : List (List ℕ)) (i : ℕ) → number_of now q ≡ Some i → number_of (with_name name now) q ≡ Some i
with_still name q now i its = by (is_some (number_of now name))
  where
    by : (b : Bool) → number_of (cond b now (now ++ name ∷ [])) q ≡ Some i
    by true = its
    by false = still now name q i its

from_still : (s : StoryTree) (ps : List (List Part)) (now : List (List ℕ)) (q : List ℕ) (i : ℕ) → number_of now q ≡ Some i → number_of (names_from s ps now) q ≡ Some i
from_still s [] now q i its = its
from_still s (p ∷ ps) now q i its = from_still s ps (with_variable (variable_of (at s p)) now) q i (by (variable_of (at s p)))
  where
    by : (variable : Option (List ℕ)) → number_of (with_variable variable now) q ≡ Some i
    by None = its
    by (Some name) = with_still name q now i its

-- and a name that came has one
has_number : (name : List ℕ) (now : List (List ℕ)) → (i : ℕ) × (number_of (with_name name now) name ≡ Some i)
has_number name now = by (number_of now name) refl
  where
    by : (found : Option ℕ) → number_of now name ≡ found → (i : ℕ) × (number_of (cond (is_some found) now (now ++ name ∷ [])) name ≡ Some i)
    by None absent = (length now, number_behind now name absent)
    by (Some i) its = (i, its)

numbered : (s : StoryTree) (ps : List (List Part)) (variable : Option (List ℕ)) (now : List (List ℕ))
    → number_in (with_variable variable now) variable ≡ number_in (names_from s ps (with_variable variable now)) variable
numbered s ps None now = refl
numbered s ps (Some name) now =
    let its = has_number name now in
    its.1 ∙ sym (from_still s ps (with_name name now) name its.0 its.1)

-- the number of a variable is that among all names
pub number_next : (s : StoryTree) (n : ℕ) (now new : List (List ℕ)) (l : Link) → n < length (places s)
    → new ≡ with_variable (variable_of (at s (node_place s (node n)))) now → links.number_of l ≡ number_in new (variable_of (at s (node_place s (node n))))
    → names_from s (drop n (places s)) now ≡ names s → links.number_of l ≡ variable_number s (node_place s (node n))
number_next s n now new l h is its so_far =
    let variable = variable_of (at s (node_place s (node n))) in
    let all = names_next s n now (with_variable variable now) h refl so_far in
    its ∙ ap (λ ns. number_in ns variable) is ∙ numbered s (drop (n + 1) (places s)) variable now ∙ ap (λ ns. number_in ns variable) all

-- ---- links

-- the root comes first
first_said : {X : Type 0} (s : StoryTree) (said : List Part → X) (x : X) → get_or (map said (places s)) 0 x ≡ said []
first_said (leaf l) said x = refl
first_said (container name flags content named) said x = refl

-- what is kept of each node's link, and what the definition says of its place
module _ {X : Type 0} (s : StoryTree) (kept : Link → Option X) (said : List Part → Option X) where
  pub link_next : (n : ℕ) (ls new : List Link) (l : Link) → n < length (places s) → kept l ≡ said (node_place s (node n)) → new ≡ ls ++ l ∷ []
      → map kept ls ≡ map said (take n (places s)) → map kept new ≡ map said (take (n + 1) (places s))
  link_next n ls new l h is more so_far =
      ap (map kept) more
      ∙ map-append kept ls (l ∷ [])
      ∙ ap (λ ps. ps ++ kept l ∷ []) so_far
      ∙ ap (λ p. map said (take n (places s)) ++ p ∷ []) is
      ∙ sym (map-append said (take n (places s)) (node_place s (node n) ∷ []))
      ∙ ap (map said) (sym (take_next (places s) n h))

  pub all_linked : (n : ℕ) (ls new : List Link) → new ≡ ls → length (places s) ≤ n → map kept ls ≡ map said (take n (places s)) → map kept new ≡ map said (places s)
  all_linked n ls new is h so_far = ap (map kept) is ∙ so_far ∙ ap (map said) (take_all n (places s) h)

  module _ (ls : List Link) (same : map kept ls ≡ map said (places s)) where
    first_link : kept (get_or ls 0 Nothing) ≡ said []
    first_link = sym (get_or-map kept ls 0 Nothing) ∙ ap (λ xs. get_or xs 0 (kept Nothing)) same ∙ first_said s said (kept Nothing)

    -- of a node, or of the root where there is no node of that number
    link_of : (n : NodeId) → kept (get_or ls n.number (get_or ls 0 Nothing)) ≡ said (node_place s n)
    link_of n =
        sym (get_or-map kept ls n.number (get_or ls 0 Nothing))
        ∙ ap₂ (λ xs x. get_or xs n.number x) same first_link
        ∙ get_or-map said (places s) n.number []
        ∙ ap said (sym (unwrap_or-slice_get (places s) n.number []))

    -- of a link that is lent, where it is something
    pub lent_of : (n : NodeId) (found : Option (Bor Link)) → kept Nothing ≡ None
        → unwrap_or (option_map (λ l. l.now) found) Nothing ≡ get_or ls n.number (get_or ls 0 Nothing) → option_and_then (λ l. kept l.now) found ≡ said (node_place s n)
    lent_of n None none is = sym none ∙ ap kept is ∙ link_of n
    lent_of n (Some l) none is = ap kept is ∙ link_of n
