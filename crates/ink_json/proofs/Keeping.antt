-- Nodes as they are kept, one more behind those before.
use Rattle.std.proofs.Common.{◌≡◌, ◌∙◌, ap, sym, refl, ℕ, zero, suc, ◌+◌, ◌-◌, ◌^◌, ◌<◌, ◌≤◌, List, [], ◌∷◌, ◌++◌, length, take, get_or, slice_get, slice_set, Bool, true, false, nat_lt, ◌==◌, if◌then◌else◌, Option, Some, None, option_map, arith}
use Rattle.std.proofs.lemmas.Bool.{eqb-true, eqb-false}
use Rattle.ink_json.proofs.Common.{nat_tests, Leaf, Part, Index, Name, container_node, Node}
use Rattle.std.proofs.lemmas.List.{get_or_append_left, get_or_push, length-append, length-set, map-append, map-set}
use Rattle.std.proofs.lemmas.Option.{get_or_from_slice_get, slice_get-map}
use Rattle.json.proofs.Found.{Some_inj}
use Rattle.ink_model.specs.declared.content.Container.{Container}
use Rattle.ink_model.specs.declared.content.Content.TheVariants as contents
use Rattle.ink_json.specs.Kept.{part_at, node_of, nodes_kept, IsNoName, IsKnown, AreKnown, filled, filled_at}
use Rattle.ink_json.specs.declared.kept.Kept.{Kept}
use Rattle.ink_json.specs.declared.kept.TheConstants.{FIRST_NAME, NO_PART}
use Rattle.ink_json.proofs.Listing.{set_at}

-- ---- one name more

abbrev chosen : Bool → Bool → ℕ → List ℕ → Option Part
chosen b c code k = if b then Some (Index code) else (if c then None else Some (Name k))

module _ (names : List (List ℕ)) (n : List ℕ) where
  same_part : (code : ℕ) (b c : Bool) → nat_lt code FIRST_NAME ≡ b → (code == NO_PART) ≡ c → IsKnown (length names) code
      → chosen b c code (get_or (names ++ n ∷ []) (code - FIRST_NAME) []) ≡ chosen b c code (get_or names (code - FIRST_NAME) [])
  same_part code true c low at known = refl
  same_part code false true low at known = refl
  same_part code false false low at known =
      let above : FIRST_NAME ≤ code = grind (arith, nat_tests, low) in
      let within = known above (eqb-false code NO_PART at) in
      ap (λ k. Some (Name k)) (get_or_append_left names (n ∷ []) [] (code - FIRST_NAME) (omega arith))

  pub names_more : (ks : List Kept) → AreKnown (length names) ks → nodes_kept (names ++ n ∷ []) ks ≡ nodes_kept names ks
  names_more [] h = refl
  names_more (k ∷ ks) h =
      (λ i. record { content = k.content; holder = k.holder; last = same_part k.last (nat_lt k.last FIRST_NAME) (k.last == NO_PART) refl refl h.0 i } ∷ names_more ks h.1 i)

-- ---- what is known

known_more : (a b code : ℕ) → a ≤ b → IsKnown a code → IsKnown b code
known_more a b code h known = λ above named. omega (arith, known above named)

pub all_known : (a b : ℕ) (ks : List Kept) → a ≤ b → AreKnown a ks → AreKnown b ks
all_known a b [] h known = tt
all_known a b (k ∷ ks) h known = (known_more a b k.last h known.0, all_known a b ks h known.1)

pub known_push : (a : ℕ) (ks : List Kept) (k : Kept) → AreKnown a ks → IsKnown a k.last → AreKnown a (ks ++ k ∷ [])
known_push a [] k known more = (more, tt)
known_push a (j ∷ ks) k known more = (known.0, known_push a ks k known.1 more)

-- .. also where it was not pushed
pub known_pushed : (pushed : Bool) (a : ℕ) (ks new : List Kept) (k : Kept) → new ≡ (if pushed then ks ++ k ∷ [] else ks) → length ks + 1 < 2 ^ 31 → a ≤ length ks → AreKnown a ks → IsKnown a k.last → (length new < 2 ^ 31) × (a ≤ length new) × AreKnown a new
known_pushed true a ks new k is room few known more = rw is (omega (arith, length-append ks (k ∷ [])), omega (arith, length-append ks (k ∷ [])), known_push a ks k known more)
known_pushed false a ks new k is room few known more = rw is (omega arith, few, known)

pub no_name_known : (a code : ℕ) → IsNoName code → IsKnown a code
no_name_known a code h = λ above named. absurd (named (h above))

-- ---- a node without a name

no_name_part : (names : List (List ℕ)) (code : ℕ) (b c : Bool) → nat_lt code FIRST_NAME ≡ b → (code == NO_PART) ≡ c → IsNoName code
    → chosen b c code (get_or names (code - FIRST_NAME) []) ≡ chosen b c code (get_or [] (code - FIRST_NAME) [])
no_name_part names code true c low at none = refl
no_name_part names code false true low at none = refl
no_name_part names code false false low at none = absurd (eqb-false code NO_PART at (none (grind (arith, nat_tests, low))))

pub no_name_pushed : (names : List (List ℕ)) (ks : List Kept) (k : Kept) → IsNoName k.last
    → nodes_kept names (ks ++ k ∷ []) ≡ nodes_kept names ks ++ record { content = k.content; holder = k.holder; last = part_at [] k.last } ∷ []
no_name_pushed names ks k none =
    let part : part_at names k.last ≡ part_at [] k.last = no_name_part names k.last (nat_lt k.last FIRST_NAME) (k.last == NO_PART) refl refl none in
    map-append (node_of names) ks (k ∷ []) ∙ (λ j. nodes_kept names ks ++ record { content = k.content; holder = k.holder; last = part j } ∷ [])

-- .. and one that is taken back
pub taken_back : (ks : List Kept) (k : Kept) → take (length ks) (ks ++ k ∷ []) ≡ ks
taken_back [] k = refl
taken_back (j ∷ ks) k = ap (λ l. j ∷ l) (taken_back ks k)

-- ---- the node of a name

abbrev pub named_code : List (List ℕ) → ℕ
named_code names = FIRST_NAME + length names

-- .. of one that is there
known_part : (names : List (List ℕ)) (i : ℕ) → i < length names → length names < 2 ^ 31 → part_at names (FIRST_NAME + i) ≡ Some (Name (get_or names i []))
known_part names i there few = go (nat_lt (FIRST_NAME + i) FIRST_NAME) (FIRST_NAME + i == NO_PART) refl refl
  where
    go : (b c : Bool) → nat_lt (FIRST_NAME + i) FIRST_NAME ≡ b → (FIRST_NAME + i == NO_PART) ≡ c → chosen b c (FIRST_NAME + i) (get_or names (FIRST_NAME + i - FIRST_NAME) []) ≡ Some (Name (get_or names i []))
    go true c low at = absurd (grind (arith, nat_tests, low))
    go false true low at = absurd (omega (arith, eqb-true (FIRST_NAME + i) NO_PART at))
    go false false low at = let place : FIRST_NAME + i - FIRST_NAME ≡ i = omega arith in ap (λ j. Some (Name (get_or names j []))) place

pub again_known : (a i code : ℕ) → code ≡ FIRST_NAME + i → i < a → IsKnown a code
again_known a i code is there = λ above named. omega arith

pub again_pushed : (names : List (List ℕ)) (n : List ℕ) (i : ℕ) (ks : List Kept) (k : Kept) → k.last ≡ FIRST_NAME + i → i < length names → length names < 2 ^ 31 → get_or names i [] ≡ n
    → nodes_kept names (ks ++ k ∷ []) ≡ nodes_kept names ks ++ record { content = k.content; holder = k.holder; last = Some (Name n) } ∷ []
again_pushed names n i ks k is there few same =
    let part : part_at names k.last ≡ Some (Name n) = ap (part_at names) is ∙ known_part names i there few ∙ ap (λ n. Some (Name n)) same in
    map-append (node_of names) ks (k ∷ []) ∙ (λ j. nodes_kept names ks ++ record { content = k.content; holder = k.holder; last = part j } ∷ [])

named_part : (names : List (List ℕ)) (n : List ℕ) → length names + 1 < 2 ^ 31 → part_at (names ++ n ∷ []) (named_code names) ≡ Some (Name n)
named_part names n few =
    let long : length (names ++ n ∷ []) ≡ length names + 1 = length-append names (n ∷ []) in
    known_part (names ++ n ∷ []) (length names) (omega arith) (omega arith) ∙ ap (λ n. Some (Name n)) (get_or_push names n [] (length names) refl)

pub named_pushed : (names : List (List ℕ)) (n : List ℕ) (ks : List Kept) (k : Kept) → k.last ≡ named_code names → length names + 1 < 2 ^ 31 → AreKnown (length names) ks
    → nodes_kept (names ++ n ∷ []) (ks ++ k ∷ []) ≡ nodes_kept names ks ++ record { content = k.content; holder = k.holder; last = Some (Name n) } ∷ []
named_pushed names n ks k is few known =
    let part : part_at (names ++ n ∷ []) k.last ≡ Some (Name n) = ap (part_at (names ++ n ∷ [])) is ∙ named_part names n few in
    map-append (node_of (names ++ n ∷ [])) ks (k ∷ []) ∙ (λ i. names_more names n ks known i ++ record { content = k.content; holder = k.holder; last = part i } ∷ [])

pub named_known : (names : List (List ℕ)) (n : List ℕ) (ks : List Kept) (k : Kept) → k.last ≡ named_code names → length ks + 1 < 2 ^ 31 → length names ≤ length ks → AreKnown (length names) ks
    → (length (ks ++ k ∷ []) < 2 ^ 31) × (length (names ++ n ∷ []) ≤ length (ks ++ k ∷ [])) × AreKnown (length (names ++ n ∷ [])) (ks ++ k ∷ [])
named_known names n ks k is room few known =
    let long : length (names ++ n ∷ []) ≡ length names + 1 = length-append names (n ∷ []) in (
      omega (arith, length-append ks (k ∷ [])),
      omega (arith, long, length-append ks (k ∷ [])),
      known_push (length (names ++ n ∷ [])) ks k (all_known (length names) (length (names ++ n ∷ [])) ks (omega arith) known) (λ above named. omega (arith, is, long)),
    )

-- ---- a container whose node is mended once all in it is known

known_set : (a : ℕ) (ks : List Kept) (i : ℕ) (k l : Kept) → slice_get ks i ≡ Some k → l.last ≡ k.last → AreKnown a ks → AreKnown a (slice_set ks i l)
known_set a [] i k l is same known = tt
known_set a (j ∷ ks) zero k l is same known = let e : j ≡ k = Some_inj j k is in (rw (same, ← e) known.0, known.1)
known_set a (j ∷ ks) (suc i) k l is same known = (known.0, known_set a ks i k l is same known.1)

-- at this index a container is filled, so that these become those
abbrev Fills : ℕ → ℕ → ℕ → List Kept → ℕ → List Kept → Type 0
Fills w k size ks i new = (x : Kept) → slice_get ks i ≡ Some x → new ≡ slice_set ks i (filled_at w k size x)

pub known_filled : (a w k size : ℕ) (ks : List Kept) (i : ℕ) (new : List Kept) → i < length ks → Fills w k size ks i new → length ks < 2 ^ 31 → a ≤ length ks → AreKnown a ks
    → (length new < 2 ^ 31) × (a ≤ length new) × AreKnown a new
known_filled a w k size ks i new below fills room few known =
    let (x, is) = found ks i below in
    rw (fills x is) (omega (arith, room, length-set ks i (filled_at w k size x)), omega (arith, few, length-set ks i (filled_at w k size x)), known_set a ks i x (filled_at w k size x) is refl known)
  where
    found : (ks : List Kept) (i : ℕ) → i < length ks → (x : Kept) × (slice_get ks i ≡ Some x)
    found [] i below = absurd (omega arith)
    found (k ∷ ks) zero below = (k, refl)
    found (k ∷ ks) (suc i) below = found ks i (omega arith)

pub filled_in : (x : Kept) (c : Container) (w k size i : ℕ) (ks : List Kept) → x ≡ get_or ks i x → x.content ≡ contents.Container c → (y : Kept) → slice_get ks i ≡ Some y
    → slice_set ks i (record { content = contents.Container (record { name = c.name; width = w; keys = k; size = size; flags = c.flags }); holder = x.holder; last = x.last }) ≡ slice_set ks i (filled_at w k size y)
filled_in x c w k size i ks got is y there =
    let same : x ≡ y = got ∙ get_or_from_slice_get ks i y x there in
    ap (slice_set ks i) ((λ j. record { content = filled w k size (sym is j); holder = x.holder; last = x.last }) ∙ ap (filled_at w k size) same)

pub left_alone : (x : Kept) (l : Leaf) (w k size i : ℕ) (ks : List Kept) → x ≡ get_or ks i x → x.content ≡ contents.Leaf l → (y : Kept) → slice_get ks i ≡ Some y → slice_set ks i x ≡ slice_set ks i (filled_at w k size y)
left_alone x l w k size i ks got is y there =
    let same : x ≡ y = got ∙ get_or_from_slice_get ks i y x there in
    ap (slice_set ks i) ((λ j. record { content = (is ∙ ap (filled w k size) (sym is)) j; holder = x.holder; last = x.last }) ∙ ap (filled_at w k size) same)

-- .. and then its node says how much is in it
module _ (h : ℕ) (last : Option Part) (name : Option (List ℕ)) (flags w k size : ℕ) (before inside : List Node) where
  abbrev own : Node
  own = container_node h last name flags 0 0 0

  own_there : (before inside : List Node) → slice_get (before ++ own ∷ inside) (length before) ≡ Some own
  own_there [] inside = refl
  own_there (n ∷ before) inside = own_there before inside

  pub closed : (names : List (List ℕ)) (ks new : List Kept) (now : List Node) (i : ℕ) → nodes_kept names ks ≡ now → now ≡ before ++ own ∷ inside → i ≡ length before → Fills w k size ks i new
      → size ≡ length inside + 1 → nodes_kept names new ≡ before ++ container_node h last name flags w k (length inside + 1) ∷ inside
  closed names ks new now i view is number fills long =
      let nodes : nodes_kept names ks ≡ before ++ own ∷ inside = view ∙ is in
      let there : option_map (node_of names) (slice_get ks i) ≡ Some own = sym (slice_get-map (node_of names) ks i) ∙ (λ j. slice_get (nodes j) (number j)) ∙ own_there before inside in
      from names ks new i nodes number fills long (slice_get ks i) refl there
    where
      from : (names : List (List ℕ)) (ks new : List Kept) (i : ℕ) → nodes_kept names ks ≡ before ++ own ∷ inside → i ≡ length before → Fills w k size ks i new → size ≡ length inside + 1
          → (o : Option Kept) → slice_get ks i ≡ o → option_map (node_of names) o ≡ Some own → nodes_kept names new ≡ before ++ container_node h last name flags w k (length inside + 1) ∷ inside
      from names ks new i nodes number fills long None at e = absurd cc
      from names ks new i nodes number fills long (Some x) at e =
          let mended : Node → Node = λ n. record { content = filled w k size n.content; holder = n.holder; last = n.last } in
          let same : node_of names x ≡ own = Some_inj _ _ e in
          ap (nodes_kept names) (fills x at) ∙ map-set (node_of names) ks i (filled_at w k size x) ∙ (λ j. slice_set (nodes j) (number j) (mended (same j))) ∙ set_at before inside own (mended own)
          ∙ (λ j. before ++ container_node h last name flags w k (long j) ∷ inside)
