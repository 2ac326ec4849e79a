-- The data of a value, by the form that the value has in JSON.
use Rattle.std.proofs.Common.{◌≡◌, ℕ, List, [], ◌∷◌, ◌++◌, Bool, true, false, cond, bytes_eq, not, is_some, Option, Some, None, option_map, option_and_then, Bor, MatchOption, IfNone, Ordering, Less, Equal, Greater, nat_cmp, refl, sym, ap, ◌∙◌, subst, arith, append_assoc}
use Rattle.json_tape.proofs.Common.{bytes_eq-Decides, slice_cmp, match_ordering, Token, BeginsWith, InItems, InMembers, NextItem, NextMember, Finds, later_or, json_tokens, items_tokens, depth, value-json_tokens, value-json_tokens_back, Data, Num, null, boolean, number, string, array, object, Items, no_items, item, Members, no_members, member, put, number_of, of_json, of_items, of_members, Spells, is_readable, data_of}
use Rattle.std.specs.BTreeMap.{insert_entry}
use Rattle.json.specs.Json as json
use Rattle.json.specs.Find as find
use Rattle.json.proofs.Found.{Some_inj, opened, items_close, items_go_on}
use Rattle.json.proofs.Grammar.{closed_array}
use Rattle.serde_json.specs.Find.{get, get_member, as_bool, as_str, as_number, as_array, as_object}
use Rattle.serde_json.proofs.Views.{get_member-put, get_member-put_other}
use Rattle.json_tape.specs.Value.{json_data, items_of, items_at, members_of, is_blank, Entry, members_data}
use Rattle.json_tape.specs.declared.value.Value.{Value}
use Rattle.json_tape.proofs.Spelled.{mapped, chained, readable, spelled_data, spelled_readable}

-- ---- the form of one value

abbrev Form : json.Json → Data → Type 0
Form json.null d = d ≡ null
Form (json.boolean b) d = d ≡ boolean b
Form (json.number s) d = (n : Num) × (number_of s ≡ Some n) × (d ≡ number n)
Form (json.string s) d = d ≡ string s
Form (json.array js) d = (ds : Items) × (of_items js ≡ Some ds) × (d ≡ array ds)
Form (json.object ms) d = (ds : Members) × (of_members ms no_members ≡ Some ds) × (d ≡ object ds)

pub form : (j : json.Json) (d : Data) → of_json j ≡ Some d → Form j d
form (json.number s) d e = let n = mapped number (number_of s) d e in (n.0, n.1, sym n.2)
form (json.array js) d e = let ds = mapped array (of_items js) d e in (ds.0, ds.1, sym ds.2)
form (json.object ms) d e = let ds = mapped object (of_members ms no_members) d e in (ds.0, ds.1, sym ds.2)
form j d e = sym (Some_inj _ _ e)

str_form : (j : json.Json) (d : Data) → Form j d → find.as_str j ≡ as_str d
str_form (json.number s) d f = ap as_str (sym f.2)
str_form (json.array js) d f = ap as_str (sym f.2)
str_form (json.object ms) d f = ap as_str (sym f.2)
str_form j d f = ap as_str (sym f)

bool_form : (j : json.Json) (d : Data) → Form j d → find.as_bool j ≡ as_bool d
bool_form (json.number s) d f = ap as_bool (sym f.2)
bool_form (json.array js) d f = ap as_bool (sym f.2)
bool_form (json.object ms) d f = ap as_bool (sym f.2)
bool_form j d f = ap as_bool (sym f)

number_form : (j : json.Json) (d : Data) → Form j d → option_and_then number_of (find.as_number j) ≡ as_number d
number_form (json.number s) d f = f.1 ∙ ap as_number (sym f.2)
number_form (json.array js) d f = ap as_number (sym f.2)
number_form (json.object ms) d f = ap as_number (sym f.2)
number_form j d f = ap as_number (sym f)

no_array : (j : json.Json) (d : Data) → Form j d → find.as_array j ≡ None → as_array d ≡ None
no_array (json.number s) d f none = ap as_array f.2
no_array (json.array js) d f none = absurd cc
no_array (json.object ms) d f none = ap as_array f.2
no_array j d f none = ap as_array f

no_object : (j : json.Json) (d : Data) → Form j d → find.as_object j ≡ None → as_object d ≡ None
no_object (json.number s) d f none = ap as_object f.2
no_object (json.array js) d f none = ap as_object f.2
no_object (json.object ms) d f none = absurd cc
no_object j d f none = ap as_object f

-- ---- a readable value's tokens

module _ (ts : List Token) (h : is_readable ts ≡ true) where
  pub value_str : (o : Option (List ℕ)) → ((j : json.Json) → BeginsWith ts j → o ≡ find.as_str j) → o ≡ as_str (data_of ts)
  value_str o is = let s = readable ts h in is s.0 s.1 ∙ str_form s.0 (data_of ts) (form s.0 (data_of ts) s.2)

  pub value_bool : (o : Option Bool) → ((j : json.Json) → BeginsWith ts j → o ≡ find.as_bool j) → o ≡ as_bool (data_of ts)
  value_bool o is = let s = readable ts h in is s.0 s.1 ∙ bool_form s.0 (data_of ts) (form s.0 (data_of ts) s.2)

  pub value_number : (o : Option (List ℕ)) → ((j : json.Json) → BeginsWith ts j → o ≡ find.as_number j) → option_and_then number_of o ≡ as_number (data_of ts)
  value_number o is = let s = readable ts h in ap (option_and_then number_of) (is s.0 s.1) ∙ number_form s.0 (data_of ts) (form s.0 (data_of ts) s.2)

  pub value_no_array : ((j : json.Json) → BeginsWith ts j → find.as_array j ≡ None) → as_array (data_of ts) ≡ None
  value_no_array is = let s = readable ts h in no_array s.0 (data_of ts) (form s.0 (data_of ts) s.2) (is s.0 s.1)

  pub value_no_object : ((j : json.Json) → BeginsWith ts j → find.as_object j ≡ None) → as_object (data_of ts) ≡ None
  value_no_object is = let s = readable ts h in no_object s.0 (data_of ts) (form s.0 (data_of ts) s.2) (is s.0 s.1)

-- ---- the items of an array

in_items_at : (js : json.Items) (ts : List Token) (o : Option (List Token)) → json.after_end_array ts ≡ o → InItems ts js → (rest : List Token) × (ts ≡ items_tokens js ++ rest)
in_items_at js ts (Some r) e h =
    let closed : ts ≡ Token.end_array ∷ r = closed_array ts r e in
    let none : js ≡ json.no_items = items_close r js (subst (λ us. InItems us js) closed h) in
    (r, closed ∙ ap (λ ks. items_tokens ks ++ r) (sym none))
in_items_at json.no_items ts None e h = let f = items_go_on ts json.no_items e h in absurd cc
in_items_at (json.item j js) ts None e h =
    let f = items_go_on ts (json.item j js) e h in
    let same : (j ≡ f.1) × (js ≡ f.3) = (cc f.5, cc f.5) in
    let more = in_items_at js f.2 _ refl (subst (InItems f.2) (sym same.1) f.6) in
    let here : ts ≡ json_tokens j ++ f.2 = value-json_tokens_back f.0 ts f.2 f.1 f.4 ∙ ap (λ k. json_tokens k ++ f.2) (sym same.0) in
    (more.0, here ∙ ap (λ us. json_tokens j ++ us) more.1 ∙ sym (append_assoc (json_tokens j) (items_tokens js) more.0))

pub bracket_begins : (ts : List Token) (js : json.Items) → InItems ts js → BeginsWith (Token.begin_array ∷ ts) (json.array js)
bracket_begins ts js h =
    let all = in_items_at js ts _ refl h in
    let found = value-json_tokens (json.array js) (depth (json.array js)) all.0 (omega arith) in
    let same : Token.begin_array ∷ ts ≡ json_tokens (json.array js) ++ all.0 = ap (λ us. Token.begin_array ∷ us) all.1 in
    (depth (json.array js), all.0, ap (json.value (depth (json.array js))) same ∙ found)

pub bracketed : (ts : List Token) (js : json.Items) (ds : Items) → InItems ts js → of_items js ≡ Some ds → Spells (Token.begin_array ∷ ts) (array ds)
bracketed ts js ds h e = (json.array js, bracket_begins ts js h, ap (option_map array) e)

array_begins : (j : json.Json) (ts rest : List Token) → Token.begin_array ∷ ts ≡ json_tokens j ++ rest → (js : json.Items) × (j ≡ json.array js)
array_begins (json.array js) ts rest e = (js, refl)
array_begins j ts rest e = absurd cc

pub inside : (ts : List Token) → is_readable (Token.begin_array ∷ ts) ≡ true → (js : json.Items) × InItems ts js × (of_items js ≡ Some (items_at ts))
inside ts h =
    let s = readable (Token.begin_array ∷ ts) h in
    let js = array_begins s.0 ts s.1.1 (value-json_tokens_back s.1.0 _ s.1.1 s.0 s.1.2) in
    let opens = opened (Token.begin_array ∷ ts) (json.array js.0) (subst (BeginsWith (Token.begin_array ∷ ts)) js.1 s.1) in
    let f = form (json.array js.0) _ (ap of_json (sym js.1) ∙ s.2) in
    (js.0, opens, f.1 ∙ ap (λ d. Some (items_of d)) (sym f.2))

-- the next item of those that are left
pub next_item : (old new : List Token) (e : List Token) → is_readable (Token.begin_array ∷ old) ≡ true → NextItem old (Some e) new
    → (is_readable e ≡ true) × (is_readable (Token.begin_array ∷ new) ≡ true) × (items_at old ≡ item (data_of e) (items_at new))
next_item old new e h steps =
    let js = inside old h in
    let s = steps js.0 js.1 in
    let all : of_items (json.item s.0 s.1) ≡ Some (items_at old) = ap of_items (sym s.2) ∙ js.2 in
    let first = chained (λ d. option_map (item d) (of_items s.1)) (of_json s.0) (items_at old) all in
    let more = mapped (item first.0) (of_items s.1) (items_at old) first.2 in
    let here : Spells e first.0 = (s.0, s.3, first.1) in
    let rest = bracketed new s.1 more.0 s.4 more.1 in
    let left : items_at new ≡ more.0 = ap items_of (spelled_data (Token.begin_array ∷ new) (array more.0) rest) in
    (spelled_readable e first.0 here, spelled_readable (Token.begin_array ∷ new) (array more.0) rest, rw (spelled_data e first.0 here, left) (sym more.2))

pub no_item : (old new : List Token) → is_readable (Token.begin_array ∷ old) ≡ true → NextItem old None new → items_at old ≡ no_items
no_item old new h steps =
    let js = inside old h in
    Some_inj _ _ (sym js.2 ∙ ap of_items (steps js.0 js.1))

-- the items of an array
pub array_items : (ts rest : List Token) → is_readable ts ≡ true → ((j : json.Json) → BeginsWith ts j → (js : json.Items) × (j ≡ json.array js) × InItems rest js)
    → (is_readable (Token.begin_array ∷ rest) ≡ true) × (Some (items_at rest) ≡ as_array (data_of ts))
array_items ts rest h is =
    let s = readable ts h in
    let js = is s.0 s.1 in
    let f = form (json.array js.0) (data_of ts) (ap of_json (sym js.1) ∙ s.2) in
    let all = bracketed rest js.0 f.0 js.2 f.1 in
    (spelled_readable _ (array f.0) all, ap (λ d. Some (items_of d)) (spelled_data _ (array f.0) all) ∙ ap as_array (sym f.2))

-- ---- the members of an object

-- what is found among members, in data, and what was there before them
abbrev Gets : Option json.Json → Option Data → Option Data → Type 0
Gets None earlier found = found ≡ earlier
Gets (Some j) earlier found = (d : Data) × (of_json j ≡ Some d) × (found ≡ Some d)

other_key : (k l : List ℕ) → bytes_eq l k ≡ false → k ≡ l → ⊥
other_key k l e same = let equal = (bytes_eq-Decides l k).1 (sym same) in absurd cc

gets_later : (k l : List ℕ) (j : json.Json) (d : Data) (found ds : Members) (b : Bool) (o : Option json.Json) → bytes_eq l k ≡ b → of_json j ≡ Some d → Gets o (get_member k (put l d found)) (get_member k ds)
    → Gets (later_or o (cond b (Some j) None)) (get_member k found) (get_member k ds)
gets_later k l j d found ds b (Some i) e is h = h
gets_later k l j d found ds true None e is h =
    let same : l ≡ k = (bytes_eq-Decides l k).0 e in
    (d, is, h ∙ ap (λ m. get_member k (put m d found)) same ∙ get_member-put k d found)
gets_later k l j d found ds false None e is h = h ∙ get_member-put_other k l d found (other_key k l e)

gets : (k : List ℕ) (ms : json.Members) (found ds : Members) → of_members ms found ≡ Some ds → Gets (find.get_member k ms) (get_member k found) (get_member k ds)
gets k json.no_members found ds e = ap (get_member k) (sym (Some_inj _ _ e))
gets k (json.member l j ms) found ds e =
    let first = chained (λ d. of_members ms (put l d found)) (of_json j) ds e in
    gets_later k l j first.0 found ds (bytes_eq l k) (find.get_member k ms) refl first.1 (gets k ms (put l first.0 found) ds first.2)

get_form : (k : List ℕ) (j : json.Json) (d : Data) → Form j d → Gets (find.get k j) None (get k d)
get_form k (json.number s) d f = ap (get k) f.2
get_form k (json.array js) d f = ap (get k) f.2
get_form k (json.object ms) d f = rw f.2 (gets k ms no_members f.0 f.1)
get_form k j d f = ap (get k) f

pub found_member : (k : List ℕ) (ts e : List Token) → is_readable ts ≡ true → ((j : json.Json) → BeginsWith ts j → Finds (Some e) (find.get k j)) → (is_readable e ≡ true) × (Some (data_of e) ≡ get k (data_of ts))
found_member k ts e h is =
    let s = readable ts h in
    let there = is s.0 s.1 in
    let g = subst (λ o. Gets o None (get k (data_of ts))) there.1 (get_form k s.0 (data_of ts) (form s.0 (data_of ts) s.2)) in
    let here : Spells e g.0 = (there.0, there.2, g.1) in
    (spelled_readable e g.0 here, ap Some (spelled_data e g.0 here) ∙ sym g.2)

pub no_member : (k : List ℕ) (ts : List Token) → is_readable ts ≡ true → ((j : json.Json) → BeginsWith ts j → Finds None (find.get k j)) → None ≡ get k (data_of ts)
no_member k ts h is =
    let s = readable ts h in
    sym (subst (λ o. Gets o None (get k (data_of ts))) (is s.0 s.1) (get_form k s.0 (data_of ts) (form s.0 (data_of ts) s.2)))

-- ---- an object without members

abbrev IsFilled : Members → Type 0
IsFilled no_members = ⊥
IsFilled (member k d ms) = Unit {0}

put_fills : (k : List ℕ) (d : Data) (ms : Members) → IsFilled (put k d ms)
put_fills k d no_members = tt
put_fills k d (member l e ms) = elim (slice_cmp nat_cmp k l) as (λ o. IsFilled (match_ordering o (member k d (member l e ms)) (member l d ms) (member l e (put k d ms)))) [ Less ↦ tt | Equal ↦ tt | Greater ↦ tt ]

stays_filled : (ms : json.Members) (found ds : Members) → IsFilled found → of_members ms found ≡ Some ds → IsFilled ds
stays_filled json.no_members found ds h e = subst IsFilled (Some_inj _ _ e) h
stays_filled (json.member k j ms) found ds h e =
    let first = chained (λ d. of_members ms (put k d found)) (of_json j) ds e in
    stays_filled ms (put k first.0 found) ds (put_fills k first.0 found) first.2

filled_is : (ds : Members) → IsFilled ds → is_blank (object ds) ≡ false
filled_is no_members h = absurd h
filled_is (member k d ms) h = refl

not_blank : (d : Data) → as_object d ≡ None → is_blank d ≡ false
not_blank (object ms) e = absurd cc
not_blank d e = refl

module _ (ts : List Token) (h : is_readable ts ≡ true) where
  object_of : (rest : List Token) → ((j : json.Json) → BeginsWith ts j → (ms : json.Members) × (j ≡ json.object ms) × InMembers rest ms)
      → (ms : json.Members) × InMembers rest ms × (ds : Members) × (of_members ms no_members ≡ Some ds) × (data_of ts ≡ object ds)
  object_of rest is =
      let s = readable ts h in
      let ms = is s.0 s.1 in
      let f = form (json.object ms.0) (data_of ts) (ap of_json (sym ms.1) ∙ s.2) in
      (ms.0, ms.2, f.0, f.1, f.2)

  pub blank_object : (rest new : List Token) → ((j : json.Json) → BeginsWith ts j → (ms : json.Members) × (j ≡ json.object ms) × InMembers rest ms) → NextMember rest None new → true ≡ is_blank (data_of ts)
  blank_object rest new is over =
      let all = object_of rest is in
      let none = over all.0 all.1 in
      let empty : no_members ≡ all.2 = Some_inj _ _ (ap (λ ms. of_members ms no_members) (sym none) ∙ all.3) in
      sym (ap (λ d. is_blank d) (all.4 ∙ ap object (sym empty)))

  pub filled_object : (rest new : List Token) (m : List ℕ × List Token) → ((j : json.Json) → BeginsWith ts j → (ms : json.Members) × (j ≡ json.object ms) × InMembers rest ms) → NextMember rest (Some m) new
      → false ≡ is_blank (data_of ts)
  filled_object rest new m is steps =
      let all = object_of rest is in
      let s = steps all.0 all.1 in
      let first = chained (λ d. of_members s.1 (put m.0 d no_members)) (of_json s.0) all.2 (ap (λ ms. of_members ms no_members) (sym s.2) ∙ all.3) in
      sym (ap (λ d. is_blank d) all.4 ∙ filled_is all.2 (stays_filled s.1 (put m.0 first.0 no_members) all.2 (put_fills m.0 first.0 no_members) first.2))

  pub not_blank_object : ((j : json.Json) → BeginsWith ts j → find.as_object j ≡ None) → false ≡ is_blank (data_of ts)
  not_blank_object is = sym (not_blank (data_of ts) (value_no_object ts h is))

  pub is_object_value : (rest : List Token) → ((j : json.Json) → BeginsWith ts j → (ms : json.Members) × (j ≡ json.object ms) × InMembers rest ms) → true ≡ is_some (as_object (data_of ts))
  is_object_value rest is = let all = object_of rest is in ap (λ d. is_some (as_object d)) (sym all.4)

  pub no_object_value : ((j : json.Json) → BeginsWith ts j → find.as_object j ≡ None) → false ≡ is_some (as_object (data_of ts))
  no_object_value is = ap is_some (sym (value_no_object ts h is))

-- ---- the members of an object, put in order

abbrev pub AreLeft : List Token → Members → Members → Type 0
AreLeft rest found all = (ms : json.Members) × InMembers rest ms × (of_members ms found ≡ Some all)

no_members_of : (d : Data) → as_object d ≡ None → members_of d ≡ no_members
no_members_of (object ms) e = absurd cc
no_members_of d e = refl

pub members_begin : (ts rest : List Token) → is_readable ts ≡ true → ((j : json.Json) → BeginsWith ts j → (ms : json.Members) × (j ≡ json.object ms) × InMembers rest ms) → AreLeft rest no_members (members_of (data_of ts))
members_begin ts rest h is = let all = object_of ts h rest is in (all.0, all.1, all.3 ∙ ap (λ d. Some (members_of d)) (sym all.4))

pub members_all : (ts rest : List Token) (es : List Entry) → es ≡ [] → is_readable ts ≡ true → ((j : json.Json) → BeginsWith ts j → (ms : json.Members) × (j ≡ json.object ms) × InMembers rest ms)
    → AreLeft rest (members_data es) (members_of (data_of ts))
members_all ts rest es none h is = subst (λ xs. AreLeft rest (members_data xs) (members_of (data_of ts))) (sym none) (members_begin ts rest h is)

pub no_members_value : (ts : List Token) → is_readable ts ≡ true → ((j : json.Json) → BeginsWith ts j → find.as_object j ≡ None) → members_of (data_of ts) ≡ no_members
no_members_value ts h is = no_members_of (data_of ts) (value_no_object ts h is)

pub no_members_in : (ts : List Token) (es : List Entry) → es ≡ [] → is_readable ts ≡ true → ((j : json.Json) → BeginsWith ts j → find.as_object j ≡ None) → members_data es ≡ members_of (data_of ts)
no_members_in ts es none h is = ap members_data none ∙ sym (no_members_value ts h is)

pub members_next : (rest new e : List Token) (k : List ℕ) (found all : Members) → AreLeft rest found all → NextMember rest (Some (k, e)) new → (is_readable e ≡ true) × AreLeft new (put k (data_of e) found) all
members_next rest new e k found all left steps =
    let s = steps left.0 left.1 in
    let first = chained (λ d. of_members s.1 (put k d found)) (of_json s.0) all (ap (λ ms. of_members ms found) (sym s.2) ∙ left.2) in
    let here : Spells e first.0 = (s.0, s.3, first.1) in
    (spelled_readable e first.0 here, (s.1, s.4, ap (λ d. of_members s.1 (put k d found)) (spelled_data e first.0 here) ∙ first.2))

pub members_over : (rest new : List Token) (found all : Members) → AreLeft rest found all → NextMember rest None new → found ≡ all
members_over rest new found all left over = Some_inj _ _ (ap (λ ms. of_members ms found) (sym (over left.0 left.1)) ∙ left.2)

abbrev pub key_cmp : Bor (List ℕ) → Bor (List ℕ) → Ordering
key_cmp x y = slice_cmp nat_cmp x.now y.now

members_data-match_ordering : (o : Ordering) (a b c : List Entry) → members_data (match_ordering o a b c) ≡ match_ordering o (members_data a) (members_data b) (members_data c)
members_data-match_ordering Less a b c = refl
members_data-match_ordering o a b c = refl

members_data-insert_entry : (es : List Entry) (k : Bor (List ℕ)) (v : Value) → members_data (insert_entry key_cmp es k v) ≡ put k.now (json_data v) (members_data es)
members_data-insert_entry [] k v = refl
members_data-insert_entry (e ∷ es) k v = members_data-match_ordering (key_cmp k e.0) _ _ _ ∙ rw (members_data-insert_entry es k v)

pub members_put : (es new : List Entry) (k : Bor (List ℕ)) (v : Value) (rest : List Token) (all : Members) → new ≡ insert_entry key_cmp es k v → AreLeft rest (put k.now (json_data v) (members_data es)) all → AreLeft rest (members_data new) all
members_put es new k v rest all e left = subst (λ ms. AreLeft rest ms all) (sym (ap members_data e ∙ members_data-insert_entry es k v)) left

-- ---- what a call returned, whichever it is

pub left_readable : (old new : List Token) (r : Option (List Token)) → is_readable (Token.begin_array ∷ old) ≡ true → NextItem old r new → IfNone r (new ≡ old) → is_readable (Token.begin_array ∷ new) ≡ true
left_readable old new None h steps stays = ap (λ ts. is_readable (Token.begin_array ∷ ts)) stays ∙ h
left_readable old new (Some e) h steps stays = (next_item old new e h steps).1

module _ (ts : List Token) (h : is_readable ts ≡ true) where
  pub object_value : (r : Option (List Token)) → ((j : json.Json) → BeginsWith ts j → MatchOption r (find.as_object j ≡ None) (λ rest. (ms : json.Members) × (j ≡ json.object ms) × InMembers rest ms))
      → is_some r ≡ is_some (as_object (data_of ts))
  object_value None is = no_object_value ts h is
  object_value (Some rest) is = is_object_value ts h rest is

  pub blank_value : (b : Bool) (rest new : List Token) (r : Option (Bor (List ℕ) × List Token)) → ((j : json.Json) → BeginsWith ts j → (ms : json.Members) × (j ≡ json.object ms) × InMembers rest ms)
      → NextMember rest (option_map (λ m. (m.0.now, m.1)) r) new → is_some r ≡ not b → b ≡ is_blank (data_of ts)
  blank_value true rest new None is steps e = blank_object ts h rest new is steps
  blank_value false rest new (Some m) is steps e = filled_object ts h rest new (m.0.now, m.1) is steps
  blank_value b rest new r is steps e = absurd cc
