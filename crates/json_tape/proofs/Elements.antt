-- What a node tells of the value that begins at its place in a tape.
use Rattle.std.proofs.Common.{inl, inr, ◌≡◌, ℕ, ◌+◌, ◌<◌, ◌≤◌, List, [], ◌∷◌, length, drop, get_or, set, Bool, true, false, Option, Some, None, refl, sym, ap, ◌∙◌, subst, arith}
use Rattle.std.proofs.lemmas.Bool.{cases_eq}
use Rattle.std.proofs.lemmas.Grind.{get_or-set_at}
use Rattle.std.proofs.lemmas.List.{drop_all, drop-drop, get_or-set_other, length-drop}
use Rattle.json_tape.proofs.Common.{bytes_eq-Decides, Bor, Token, node_token, Passes, Node, slot}
use Rattle.std.specs.Str.{bytes_eq}
use Rattle.json.specs.Json as json
use Rattle.json.specs.Json.{Json, Items, Members, after_end_array, value}
use Rattle.json.specs.Find.{BeginsWith, HasValue, InItems, InMembers, later_or, as_str, as_number, as_bool, as_array, as_object, get, get_member}
use Rattle.json.specs.declared.tape.Node.TheVariants.{Object, EndObject, Array, EndArray, Key, String, Number, Bool as Truth}
use Rattle.json.proofs.Found.{not_found, Some_inj, IsKey, one_reading, opened, not_empty, items_close, items_need_tokens, items_go_on, members_go_on, members_close, members_short}
use Rattle.json.proofs.Grammar.{value_is, left_some}
use Rattle.json_tape.proofs.Spelled.{mapped}

-- ---- the first token of a value

abbrev pub token_of : Json → Token
token_of json.null = Token.null
token_of (json.boolean b) = Token.boolean b
token_of (json.number s) = Token.number s
token_of (json.string s) = Token.string s
token_of (json.array js) = Token.begin_array
token_of (json.object ms) = Token.begin_object

read_as : {k : Json} {ts : List Token} (d : ℕ) (t : Token) (j : Json) (rest : List Token) → value d (t ∷ ts) ≡ Some (k, ts) → value d (t ∷ ts) ≡ Some (j, rest) → (k ≡ j) × (ts ≡ rest)
read_as d t j rest is e = let both = Some_inj _ _ (sym is ∙ e) in (ap (λ p. p.0) both, ap (λ p. p.1) both)

first_token : (t : Token) (ts : List Token) (j : Json) → BeginsWith (t ∷ ts) j → t ≡ token_of j
first_token Token.begin_object ts j (d, rest, e) = ap (λ p. token_of p.0) (mapped _ _ _ (sym (value_is d _) ∙ e)).2
first_token Token.begin_array ts j (d, rest, e) = ap (λ p. token_of p.0) (mapped _ _ _ (sym (value_is d _) ∙ e)).2
first_token (Token.string s) ts j (d, rest, e) = ap token_of (read_as d (Token.string s) j rest (value_is d _) e).0
first_token (Token.number s) ts j (d, rest, e) = ap token_of (read_as d (Token.number s) j rest (value_is d _) e).0
first_token (Token.boolean b) ts j (d, rest, e) = ap token_of (read_as d (Token.boolean b) j rest (value_is d _) e).0
first_token Token.null ts j (d, rest, e) = ap token_of (read_as d Token.null j rest (value_is d _) e).0
first_token t ts j (d, rest, e) = not_found (j, rest) (sym (value_is d _) ∙ e)

pub first_node : (ts : List Token) (n : Node) (j : Json) → ts ≡ node_token n ∷ drop 1 ts → BeginsWith ts j → node_token n ≡ token_of j
first_node ts n j first h = first_token (node_token n) (drop 1 ts) j (subst (λ ts. BeginsWith ts j) first h)

-- ---- strings, numbers and truths

abbrev pub str_in : Token → Option (List ℕ)
str_in (Token.string s) = Some s
str_in t = None

abbrev pub number_in : Token → Option (List ℕ)
number_in (Token.number s) = Some s
number_in t = None

abbrev pub bool_in : Token → Option Bool
bool_in (Token.boolean b) = Some b
bool_in t = None

pub str_is : (ts : List Token) (n : Node) (j : Json) → ts ≡ node_token n ∷ drop 1 ts → BeginsWith ts j → str_in (node_token n) ≡ as_str j
str_is ts n (json.string s) first h = ap str_in (first_node ts n (json.string s) first h)
str_is ts n j first h = ap str_in (first_node ts n j first h)

pub no_str : (n : Node) → ((s : Bor (List ℕ)) → n ≡ String s → ⊥) → None ≡ str_in (node_token n)
no_str (String s) never = absurd (never s refl)
no_str n never = refl

pub number_is : (ts : List Token) (n : Node) (j : Json) → ts ≡ node_token n ∷ drop 1 ts → BeginsWith ts j → number_in (node_token n) ≡ as_number j
number_is ts n (json.number s) first h = ap number_in (first_node ts n (json.number s) first h)
number_is ts n j first h = ap number_in (first_node ts n j first h)

pub no_number : (n : Node) → ((s : Bor (List ℕ)) → n ≡ Number s → ⊥) → None ≡ number_in (node_token n)
no_number (Number s) never = absurd (never s refl)
no_number n never = refl

pub bool_is : (ts : List Token) (n : Node) (j : Json) → ts ≡ node_token n ∷ drop 1 ts → BeginsWith ts j → bool_in (node_token n) ≡ as_bool j
bool_is ts n (json.boolean b) first h = ap bool_in (first_node ts n (json.boolean b) first h)
bool_is ts n j first h = ap bool_in (first_node ts n j first h)

pub no_bool : (n : Node) → ((b : Bool) → n ≡ Truth b → ⊥) → None ≡ bool_in (node_token n)
no_bool (Truth b) never = absurd (never b refl)
no_bool n never = refl

-- ---- arrays and objects

abbrev HasItems : List Token → Json → Type 0
HasItems ts j = (js : Items) × (j ≡ json.array js) × InItems ts js

abbrev HasMembers : List Token → Json → Type 0
HasMembers ts j = (ms : Members) × (j ≡ json.object ms) × InMembers ts ms

-- behind the first token
inside : (all : List Token) (at : ℕ) (ts : List Token) → drop at all ≡ ts → drop 1 ts ≡ drop (at + 1) all
inside all at ts is = ap (drop 1) (sym is) ∙ drop-drop 1 at all

an_array : (ts : List Token) (j : Json) → Token.begin_array ≡ token_of j → BeginsWith ts j → HasItems (drop 1 ts) j
an_array ts (json.array js) t h = (js, refl, opened ts (json.array js) h)
an_array ts j t h = absurd cc

an_object : (ts : List Token) (j : Json) → Token.begin_object ≡ token_of j → BeginsWith ts j → HasMembers (drop 1 ts) j
an_object ts (json.object ms) t h = (ms, refl, opened ts (json.object ms) h)
an_object ts j t h = absurd cc

pub array_here : (all : List Token) (at a : ℕ) (ts : List Token) (n : Node) (j : Json) → drop at all ≡ ts → ts ≡ node_token n ∷ drop 1 ts → n ≡ Array a → BeginsWith ts j → HasItems (drop (at + 1) all) j
array_here all at a ts n j place first is h =
    subst (λ ts. HasItems ts j) (inside all at ts place) (an_array ts j (ap node_token (sym is) ∙ first_node ts n j first h) h)

pub object_here : (all : List Token) (at a : ℕ) (ts : List Token) (n : Node) (j : Json) → drop at all ≡ ts → ts ≡ node_token n ∷ drop 1 ts → n ≡ Object a → BeginsWith ts j → HasMembers (drop (at + 1) all) j
object_here all at a ts n j place first is h =
    subst (λ ts. HasMembers ts j) (inside all at ts place) (an_object ts j (ap node_token (sym is) ∙ first_node ts n j first h) h)

pub no_array : (n : Node) (j : Json) → ((a : ℕ) → n ≡ Array a → ⊥) → node_token n ≡ token_of j → as_array j ≡ None
no_array (Array a) (json.array js) never t = absurd (never a refl)
no_array n (json.array js) never t = absurd cc
no_array n j never t = refl

pub no_object : (n : Node) (j : Json) → ((a : ℕ) → n ≡ Object a → ⊥) → node_token n ≡ token_of j → as_object j ≡ None
no_object (Object a) (json.object ms) never t = absurd (never a refl)
no_object n (json.object ms) never t = absurd cc
no_object n j never t = refl

-- ---- where a value ends

abbrev pub EndsAt : List Token → ℕ → ℕ → Type 0
EndsAt all at end = (depth : ℕ) (j : Json) (rest : List Token) → value depth (drop at all) ≡ Some (j, rest) → rest ≡ drop end all

pub ends_by_link : (all : List Token) (at end : ℕ) → Passes all at end → EndsAt all at end
ends_by_link all at end link depth j rest e =
    let linked = left_some (value link.0 (drop at all)) (drop end all) link.1 in
    ap (λ p. p.1) (Some_inj _ _ (one_reading depth link.0 (drop at all) _ _ e linked.1))

-- a value that is no array and no object is one token
pub ends_alone : (n : Node) (ts : List Token) (d : ℕ) (j : Json) (rest : List Token) → ((a : ℕ) → n ≡ Object a → ⊥) → ((a : ℕ) → n ≡ Array a → ⊥) → value d (node_token n ∷ ts) ≡ Some (j, rest)
    → rest ≡ ts
ends_alone (Object a) ts d j rest p q e = absurd (p a refl)
ends_alone (Array a) ts d j rest p q e = absurd (q a refl)
ends_alone EndObject ts d j rest p q e = not_found (j, rest) (sym (value_is d _) ∙ e)
ends_alone EndArray ts d j rest p q e = not_found (j, rest) (sym (value_is d _) ∙ e)
ends_alone (Key s) ts d j rest p q e = not_found (j, rest) (sym (value_is d _) ∙ e)
ends_alone n ts d j rest p q e = sym (read_as d (node_token n) j rest (value_is d _) e).1

-- ---- one after another

pub fewer : (all ts : List Token) (at end : ℕ) → drop at all ≡ ts → at < length all → at < end → length (drop end all) < length ts
fewer all ts at end place within later = omega (arith, length-drop end all, length-drop at all, ap length place)

pub item_over : {P : Type 0} (all : List Token) (at : ℕ) (js : Items) → length all ≤ at → InItems (drop at all) js → P
item_over all at js end h = absurd (items_need_tokens js (subst (λ ts. InItems ts js) (drop_all at all end) h))

pub no_item_here : (all : List Token) (at : ℕ) (n : Node) (js : Items) → drop at all ≡ node_token n ∷ drop (at + 1) all → n ≡ EndArray → InItems (drop at all) js → js ≡ json.no_items
no_item_here all at n js first is h = items_close _ js (subst (λ ts. InItems ts js) (first ∙ ap (λ n. node_token n ∷ drop (at + 1) all) is) h)

no_close : (n : Node) (ts : List Token) → (n ≡ EndArray → ⊥) → after_end_array (node_token n ∷ ts) ≡ None
no_close EndArray ts never = absurd (never refl)
no_close n ts never = refl

pub item_next : (all : List Token) (at end : ℕ) (n : Node) (js : Items) → drop at all ≡ node_token n ∷ drop (at + 1) all → (n ≡ EndArray → ⊥) → EndsAt all at end → InItems (drop at all) js
    → (j : Json) × (rest : Items) × (js ≡ json.item j rest) × BeginsWith (drop at all) j × InItems (drop end all) rest
item_next all at end n js first goes_on ends h =
    let f = items_go_on (drop at all) js (ap after_end_array first ∙ no_close n _ goes_on) h in
    (f.1, f.3, f.5, (f.0, f.2, f.4), subst (λ ts. InItems ts f.3) (ends f.0 f.1 f.2 f.4) f.6)

pub member_over : (all : List Token) (at : ℕ) (ms : Members) → length all ≤ at + 1 → InMembers (drop at all) ms → ms ≡ json.no_members
member_over all at ms end h = members_short (drop at all) ms (omega (arith, length-drop at all)) h

no_key : (n : Node) → ((s : Bor (List ℕ)) → n ≡ Key s → ⊥) → IsKey (node_token n) → ⊥
no_key (Key s) never h = never s refl
no_key n never h = h

pub no_member_here : (all : List Token) (at : ℕ) (n : Node) (ms : Members) → drop at all ≡ node_token n ∷ drop (at + 1) all → ((s : Bor (List ℕ)) → n ≡ Key s → ⊥) → InMembers (drop at all) ms
    → ms ≡ json.no_members
no_member_here all at n ms first other h = members_close (node_token n) _ ms (no_key n other) (subst (λ ts. InMembers ts ms) first h)

pub member_next : (all : List Token) (at end : ℕ) (n : Node) (name : Bor (List ℕ)) (ms : Members) → drop at all ≡ node_token n ∷ drop (at + 1) all → n ≡ Key name → EndsAt all (at + 1) end
    → InMembers (drop at all) ms
    → (j : Json) × (rest : Members) × (ms ≡ json.member name.now j rest) × BeginsWith (drop (at + 1) all) j × InMembers (drop end all) rest
member_next all at end n name ms first is ends h =
    let named = first ∙ ap (λ n. node_token n ∷ drop (at + 1) all) is in
    let f = members_go_on name.now (drop (at + 1) all) ms (subst (λ ts. InMembers ts ms) named h) in
    (f.1, f.3, f.5, (f.0, f.2, f.4), subst (λ ts. InMembers ts f.3) (ends f.0 f.1 f.2 f.4) f.6)

-- ---- a whole tape

pub has_tokens : (ts : List Token) → HasValue ts → 0 < length ts
has_tokens [] h = absurd (not_empty h.0 h.1)
has_tokens (t ∷ ts) h = omega arith

-- ---- the last member of a name

pub get_nothing : (name : List ℕ) (j : Json) → as_object j ≡ None → get name j ≡ None
get_nothing name (json.object ms) e = not_found ms (sym e)
get_nothing name j e = refl

pub or_nothing : (o : Option Json) → later_or o None ≡ o
or_nothing None = refl
or_nothing (Some j) = refl

later_found : (o : Option Json) (j : Json) (before : Option Json) → later_or (later_or o (Some j)) before ≡ later_or o (Some j)
later_found None j before = refl
later_found (Some k) j before = refl

pub found_now : (name key : List ℕ) (j : Json) (left : Members) (before : Option Json) → bytes_eq key name ≡ true
    → later_or (get_member name (json.member key j left)) before ≡ later_or (get_member name left) (Some j)
found_now name key j left before same = rw same (later_found (get_member name left) j before)

pub passed_by : (name key : List ℕ) (j : Json) (left : Members) (before : Option Json) → bytes_eq key name ≡ false
    → later_or (get_member name (json.member key j left)) before ≡ later_or (get_member name left) before
passed_by name key j left before other = rw other (ap (λ o. later_or o before) (or_nothing (get_member name left)))

-- ---- marks of names

other_key : (name key : List ℕ) → (slot name ≡ slot key → ⊥) → bytes_eq key name ≡ false
other_key name key apart = by (bytes_eq key name) refl
  where
    by : (b : Bool) → bytes_eq key name ≡ b → b ≡ false
    by false e = refl
    by true e = absurd (apart (sym (ap slot ((bytes_eq-Decides key name).0 e))))

-- a name that has no mark once a key was marked had none before, and is not that key
pub unmarked : (before after : List ℕ) (name key : List ℕ) → slot key < length before → after ≡ set before (slot key) 1 → get_or after (slot name) 0 ≡ 0
    → ((j : Json) (left : Members) → get_member name (json.member key j left) ≡ get_member name left) × (get_or before (slot name) 0 ≡ 0)
unmarked before after name key within is none = elim (cases_eq (slot name) (slot key)) [
  | inl same ↦
      let there : get_or after (slot name) 0 ≡ 1 = ap (λ xs. get_or xs (slot name) 0) is ∙ get_or-set_at before (slot key) (slot name) 1 0 same within in
      absurd (omega (arith, there, none))
  | inr apart ↦
      let kept : get_or after (slot name) 0 ≡ get_or before (slot name) 0 = ap (λ xs. get_or xs (slot name) 0) is ∙ get_or-set_other before (slot key) (slot name) 1 0 apart in
      (λ j left. rw (other_key name key apart) (or_nothing (get_member name left)), sym kept ∙ none)
]
