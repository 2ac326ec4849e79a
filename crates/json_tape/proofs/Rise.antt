-- What holds of values in which the names of each object rise.
use Rattle.std.proofs.Common.{◌≡◌, ℕ, ◌+◌, List, ◌∷◌, ◌++◌, length, drop, Bool, true, false, ◌&&◌, Option, Some, None, option_map, option_and_then, unwrap_or, refl, sym, ap, ◌∙◌, subst, arith, append_assoc}
use Rattle.json_tape.proofs.Common.{and_parts, and_from, Token, node_token, LinkAt, Passes, json_tokens, items_tokens, members_tokens, depth, Node, value-json_tokens, value-json_tokens_back}
use Rattle.json.specs.Json as json
use Rattle.json.specs.Find.{BeginsWith, InMembers, as_object}
use Rattle.json.specs.declared.tape.Node.TheVariants as nodes
use Rattle.json.proofs.Grammar.{left_some}
use Rattle.json_tape.specs.Rise.{is_behind, names_rise, is_ordered, are_items_ordered, are_members_ordered, begins_ordered, first_rises, objects_rise}
use Rattle.json_tape.proofs.Elements.{object_here}
use Rattle.json_tape.proofs.Spelled.{found_again}

-- ---- what tokens begin with

pub ordered_is : (ts : List Token) (j : json.Json) → BeginsWith ts j → begins_ordered ts ≡ is_ordered j
ordered_is ts j h = ap (λ o. unwrap_or (option_map (λ p. is_ordered p.0) o) true) (found_again ts j h).1

pub rises_is : (ts : List Token) (ms : json.Members) → BeginsWith ts (json.object ms) → first_rises ts ≡ names_rise None ms
rises_is ts ms h = ap (λ o. unwrap_or (option_map (names_rise None) (option_and_then (λ p. as_object p.0) o)) true) (found_again ts (json.object ms) h).1

-- ---- names one after another

pub goes_on : (before : Option (List ℕ)) (k : List ℕ) (j : json.Json) (ms : json.Members) → is_behind before k ≡ true → names_rise before (json.member k j ms) ≡ names_rise (Some k) ms
goes_on before k j ms e = rw e refl

pub falls : (before : Option (List ℕ)) (k : List ℕ) (j : json.Json) (ms : json.Members) → is_behind before k ≡ false → names_rise before (json.member k j ms) ≡ false
falls before k j ms e = rw e refl

-- ---- the object that begins at a place of a tape

pub object_rises : (all : List Token) (at end : ℕ) (n : Node) (b : Bool) → drop at all ≡ node_token n ∷ drop (at + 1) all → n ≡ nodes.Object end → LinkAt all at n
    → ((ms : json.Members) → InMembers (drop (at + 1) all) ms → b ≡ names_rise None ms) → objects_rise (drop at all) ≡ b && objects_rise (drop (at + 1) all)
object_rises all at end n b first is link rises =
    let passes : Passes all at end = subst (LinkAt all at) is link in
    let found = left_some (json.value passes.0 (drop at all)) (drop end all) passes.1 in
    let begins : BeginsWith (drop at all) found.0 = (passes.0, drop end all, found.1) in
    let here : drop at all ≡ Token.begin_object ∷ drop (at + 1) all = first ∙ ap (λ n. node_token n ∷ drop (at + 1) all) is in
    let ms = object_here all at end (drop at all) (nodes.Object end) found.0 refl (here ∙ ap (λ ts. Token.begin_object ∷ ts) (sym (ap (drop 1) here))) refl begins in
    let same : first_rises (drop at all) ≡ b = rises_is (drop at all) ms.0 (subst (BeginsWith (drop at all)) ms.1 begins) ∙ sym (rises ms.0 ms.2) in
    ap objects_rise here ∙ ap (λ c. c && objects_rise (drop (at + 1) all)) (ap first_rises (sym here) ∙ same)

pub no_object_rises : (n : Node) (ts : List Token) → ((a : ℕ) → n ≡ nodes.Object a → ⊥) → objects_rise (node_token n ∷ ts) ≡ objects_rise ts
no_object_rises (nodes.Object a) ts never = absurd (never a refl)
no_object_rises n ts never = refl

-- ---- the objects of a value

begins_with : (j : json.Json) (ts : List Token) → BeginsWith (json_tokens j ++ ts) j
begins_with j ts = (depth j, ts, value-json_tokens j (depth j) ts (omega arith))

mutual
  value_ordered : (j : json.Json) (ts : List Token) → objects_rise (json_tokens j ++ ts) ≡ true → (is_ordered j ≡ true) × (objects_rise ts ≡ true)
  value_ordered (json.array js) ts h = items_ordered js ts h
  value_ordered (json.object ms) ts h =
      let here = and_parts _ _ h in
      let begins = begins_with (json.object ms) ts in
      let inside = members_ordered ms ts here.1 in
      (and_from _ _ (sym (rises_is (json_tokens (json.object ms) ++ ts) ms begins) ∙ here.0) inside.0, inside.1)
  value_ordered j ts h = (refl, h)

  items_ordered : (js : json.Items) (ts : List Token) → objects_rise (items_tokens js ++ ts) ≡ true → (are_items_ordered js ≡ true) × (objects_rise ts ≡ true)
  items_ordered json.no_items ts h = (refl, h)
  items_ordered (json.item j js) ts h =
      let here = value_ordered j (items_tokens js ++ ts) (ap objects_rise (sym (append_assoc (json_tokens j) (items_tokens js) ts)) ∙ h) in
      let rest = items_ordered js ts here.1 in
      (and_from _ _ here.0 rest.0, rest.1)

  members_ordered : (ms : json.Members) (ts : List Token) → objects_rise (members_tokens ms ++ ts) ≡ true → (are_members_ordered ms ≡ true) × (objects_rise ts ≡ true)
  members_ordered json.no_members ts h = (refl, h)
  members_ordered (json.member k j ms) ts h =
      let here = value_ordered j (members_tokens ms ++ ts) (ap objects_rise (sym (append_assoc (json_tokens j) (members_tokens ms) ts)) ∙ h) in
      let rest = members_ordered ms ts here.1 in
      (and_from _ _ here.0 rest.0, rest.1)

-- the value that tokens begin with is ordered where the names rise in each object among them
pub risen : (ts : List Token) (j : json.Json) → BeginsWith ts j → objects_rise ts ≡ true → begins_ordered ts ≡ true
risen ts j h rise =
    let found = found_again ts j h in
    let same : ts ≡ json_tokens j ++ found.0 = value-json_tokens_back (length ts) ts found.0 j found.1 in
    ordered_is ts j h ∙ (value_ordered j found.0 (ap objects_rise (sym same) ∙ rise)).0
