-- What is left of an array or an object in which the names of each object rise.
use Rattle.std.proofs.Common.{◌≡◌, ℕ, zero, suc, List, ◌∷◌, ◌++◌, true, Option, Some, None, option_map, option_and_then, Bor, IfNone, Ordering, Less, nat_cmp, is_lt, refl, sym, ap, ◌∙◌, subst, arith, append_assoc}
use Rattle.json_tape.proofs.Common.{and_parts, and_from, slice_cmp, Token, BeginsWith, InItems, InMembers, NextItem, NextMember, json_tokens, members_tokens, depth, value-json_tokens, value-json_tokens_back, Data, object, Members, no_members, member, put, of_json, of_members, Spells, is_readable, data_of}
use Rattle.std.proofs.lemmas.Cmp.{nat_list_cmp_total}
use Rattle.std.specs.Ordering.{match_ordering, ordering_reverse}
use Rattle.json.specs.Json as json
use Rattle.json.specs.declared.tape.Node.TheVariants as nodes
use Rattle.json.proofs.Found.{Some_inj, not_found, members_close, members_go_on}
use Rattle.json.proofs.Grammar.{read_key_is}
use Rattle.serde_json.specs.Find.{as_object}
use Rattle.json_tape.specs.Rise.{names_rise, is_ordered, are_items_ordered, are_members_ordered, begins_ordered}
use Rattle.json_tape.specs.Value.{members_of, members_at}
use Rattle.json_tape.proofs.Elements.{object_here}
use Rattle.json_tape.proofs.Rise.{ordered_is}
use Rattle.json_tape.proofs.Shapes.{form, inside, bracket_begins}
use Rattle.json_tape.proofs.Spelled.{mapped, chained, readable, spelled_data, spelled_readable}

-- ---- members of which the names rise

less : (o : Ordering) → is_lt o ≡ true → o ≡ Less
less Less h = refl
less o h = absurd cc

-- a name that comes first stays first
kept : {A : Type 0} (k l : List ℕ) (a b c : A) → is_lt (slice_cmp nat_cmp k l) ≡ true → match_ordering (slice_cmp nat_cmp l k) a b c ≡ c
kept k l a b c e = rw (nat_list_cmp_total.antisymm l k ∙ ap ordering_reverse (less _ e)) refl

-- what rises behind a name rises behind each name before it
earlier : (k l : List ℕ) (ms : json.Members) → is_lt (slice_cmp nat_cmp k l) ≡ true → names_rise (Some l) ms ≡ true → names_rise (Some k) ms ≡ true
earlier k l json.no_members e h = refl
earlier k l (json.member m j ms) e h =
    let p = and_parts _ _ h in
    and_from _ _ (ap is_lt (nat_list_cmp_total.trans k l m (less _ e) (less _ p.0))) p.1

freed : (k : List ℕ) (ms : json.Members) → names_rise (Some k) ms ≡ true → names_rise None ms ≡ true
freed k json.no_members h = refl
freed k (json.member l j ms) h = (and_parts _ _ h).1

-- members are put behind the one whose name comes before theirs
put_behind : (k : List ℕ) (d : Data) (ms : json.Members) (found : Members) → names_rise (Some k) ms ≡ true → of_members ms (member k d found) ≡ option_map (member k d) (of_members ms found)
put_behind k d json.no_members found h = refl
put_behind k d (json.member l j ms) found h =
    let p = and_parts _ _ h in
    elim (of_json j) as (λ o. option_and_then (λ e. of_members ms (put l e (member k d found))) o ≡ option_map (member k d) (option_and_then (λ e. of_members ms (put l e found)) o))
    [ None ↦ refl | Some x ↦ ap (of_members ms) (kept k l _ _ _ p.0) ∙ put_behind k d ms (put l x found) (earlier k l ms p.0 p.1) ]

-- ---- the tokens of an object

no_key : (ts : List Token) (ms : json.Members) → json.read_key ts ≡ None → InMembers ts ms → ⊥
unfolding json.members
no_key ts ms e (d, zero, r, is) = not_found (ms, r) is
no_key ts ms e (d, suc n, r, is) = not_found (ms, r) (sym (ap (option_and_then (λ p. json.members_step (json.value d) (json.members (json.value d) n) p.0 p.1)) e) ∙ is)

in_members_at : (ms : json.Members) (ts : List Token) (o : Option (Option (List ℕ) × List Token)) → json.read_key ts ≡ o → InMembers ts ms → (rest : List Token) × (ts ≡ members_tokens ms ++ rest)
in_members_at ms ts None e h = absurd (no_key ts ms e h)
in_members_at ms ts (Some (None, s)) e h =
    let closed : ts ≡ Token.end_object ∷ s = read_key_is ts None s e in
    let none : ms ≡ json.no_members = members_close Token.end_object s ms (λ k. k) (subst (λ us. InMembers us ms) closed h) in
    (s, closed ∙ ap (λ ks. members_tokens ks ++ s) (sym none))
in_members_at json.no_members ts (Some (Some k, s)) e h =
    let f = members_go_on k s json.no_members (subst (λ us. InMembers us json.no_members) (read_key_is ts (Some k) s e) h) in
    absurd cc
in_members_at (json.member l j ms) ts (Some (Some k, s)) e h =
    let named : ts ≡ Token.key k ∷ s = read_key_is ts (Some k) s e in
    let f = members_go_on k s (json.member l j ms) (subst (λ us. InMembers us (json.member l j ms)) named h) in
    let same : (l ≡ k) × (j ≡ f.1) × (ms ≡ f.3) = (cc f.5, cc f.5, cc f.5) in
    let more = in_members_at ms f.2 _ refl (subst (InMembers f.2) (sym same.2) f.6) in
    let here : s ≡ json_tokens j ++ f.2 = value-json_tokens_back f.0 s f.2 f.1 f.4 ∙ ap (λ i. json_tokens i ++ f.2) (sym same.1) in
    let all : s ≡ (json_tokens j ++ members_tokens ms) ++ more.0 = here ∙ ap (λ us. json_tokens j ++ us) more.1 ∙ sym (append_assoc (json_tokens j) (members_tokens ms) more.0) in
    (more.0, named ∙ ap (λ n. Token.key n ∷ s) (sym same.0) ∙ ap (λ us. Token.key l ∷ us) all)

object_begins : (ts : List Token) (ms : json.Members) → InMembers ts ms → BeginsWith (Token.begin_object ∷ ts) (json.object ms)
object_begins ts ms h =
    let all = in_members_at ms ts _ refl h in
    let found = value-json_tokens (json.object ms) (depth (json.object ms)) all.0 (omega arith) in
    let same : Token.begin_object ∷ ts ≡ json_tokens (json.object ms) ++ all.0 = ap (λ us. Token.begin_object ∷ us) all.1 in
    (depth (json.object ms), all.0, ap (json.value (depth (json.object ms))) same ∙ found)

-- an object of these members is readable, and that is its data
abbrev Holds : List Token → json.Members → Members → Type 0
Holds ts ms ds = (is_readable (Token.begin_object ∷ ts) ≡ true) × (members_at ts ≡ ds)

holds : (ts : List Token) (ms : json.Members) (ds : Members) → InMembers ts ms → of_members ms no_members ≡ Some ds → Holds ts ms ds
holds ts ms ds h e =
    let spells : Spells (Token.begin_object ∷ ts) (object ds) = (json.object ms, object_begins ts ms h, ap (option_map object) e) in
    (spelled_readable (Token.begin_object ∷ ts) (object ds) spells, ap members_of (spelled_data (Token.begin_object ∷ ts) (object ds) spells))

within : (ts : List Token) → is_readable (Token.begin_object ∷ ts) ≡ true → (ms : json.Members) × InMembers ts ms × (of_members ms no_members ≡ Some (members_at ts))
within ts h =
    let s = readable (Token.begin_object ∷ ts) h in
    let ms = object_here (Token.begin_object ∷ ts) 0 0 (Token.begin_object ∷ ts) (nodes.Object 0) s.0 refl refl refl s.1 in
    let f = form (json.object ms.0) _ (ap of_json (sym ms.1) ∙ s.2) in
    (ms.0, ms.2, f.1 ∙ ap (λ d. Some (members_of d)) (sym f.2))

-- ---- the next member

pub record NextOne (old new e : List Token) (k : List ℕ) : Type 0 where
  pub readable : is_readable e ≡ true
  pub ordered : begins_ordered e ≡ true
  pub left_readable : is_readable (Token.begin_object ∷ new) ≡ true
  pub left_ordered : begins_ordered (Token.begin_object ∷ new) ≡ true
  pub same : members_at old ≡ member k (data_of e) (members_at new)

pub next_one : (old new e : List Token) (k : List ℕ) → is_readable (Token.begin_object ∷ old) ≡ true → begins_ordered (Token.begin_object ∷ old) ≡ true → NextMember old (Some (k, e)) new → NextOne old new e k
next_one old new e k h o steps =
    let all = within old h in
    let s = steps all.0 all.1 in
    let spelled : of_members (json.member k s.0 s.1) no_members ≡ Some (members_at old) = ap (λ ms. of_members ms no_members) (sym s.2) ∙ all.2 in
    let first = chained (λ d. of_members s.1 (put k d no_members)) (of_json s.0) (members_at old) spelled in
    let rise : is_ordered (json.object (json.member k s.0 s.1)) ≡ true =
    ap (λ ms. is_ordered (json.object ms)) (sym s.2) ∙ sym (ordered_is (Token.begin_object ∷ old) (json.object all.0) (object_begins old all.0 all.1)) ∙ o in
    let names = and_parts (names_rise None (json.member k s.0 s.1)) (are_members_ordered (json.member k s.0 s.1)) rise in
    let values = and_parts (is_ordered s.0) (are_members_ordered s.1) names.1 in
    let behind : names_rise (Some k) s.1 ≡ true = names.0 in
    let more = mapped (member k first.0) (of_members s.1 no_members) (members_at old) (sym (put_behind k first.0 s.1 no_members behind) ∙ first.2) in
    let left = holds new s.1 more.0 s.4 more.1 in
    let here : Spells e first.0 = (s.0, s.3, first.1) in
    record {
      readable = spelled_readable e first.0 here;
      ordered = ordered_is e s.0 s.3 ∙ values.0;
      left_readable = left.0;
      left_ordered = ordered_is (Token.begin_object ∷ new) (json.object s.1) (object_begins new s.1 s.4) ∙ and_from _ _ (freed k s.1 behind) values.1;
      same = rw (spelled_data e first.0 here, left.1) (sym more.2);
    }

pub no_one : (old new : List Token) → is_readable (Token.begin_object ∷ old) ≡ true → NextMember old None new → members_at old ≡ no_members
no_one old new h steps = let all = within old h in Some_inj _ _ (sym all.2 ∙ ap (λ ms. of_members ms no_members) (steps all.0 all.1))

pub record IsLeft (ts : List Token) : Type 0 where
  pub readable : is_readable (Token.begin_object ∷ ts) ≡ true
  pub ordered : begins_ordered (Token.begin_object ∷ ts) ≡ true

pub members_left : (old new : List Token) (r : Option (Bor (List ℕ) × List Token)) → is_readable (Token.begin_object ∷ old) ≡ true → begins_ordered (Token.begin_object ∷ old) ≡ true
    → NextMember old (option_map (λ m. (m.0.now, m.1)) r) new → IfNone r (new ≡ old) → IsLeft new
members_left old new None h o steps stays = subst IsLeft (sym stays) (record { readable = h; ordered = o })
members_left old new (Some (name, e)) h o steps stays = let next = next_one old new e name.now h o steps in record { readable = next.left_readable; ordered = next.left_ordered }

-- ---- the next item

pub next_ordered : (old new e : List Token) → is_readable (Token.begin_array ∷ old) ≡ true → begins_ordered (Token.begin_array ∷ old) ≡ true → NextItem old (Some e) new
    → (begins_ordered e ≡ true) × (begins_ordered (Token.begin_array ∷ new) ≡ true)
next_ordered old new e h o steps =
    let js = inside old h in
    let s = steps js.0 js.1 in
    let rise : are_items_ordered (json.item s.0 s.1) ≡ true =
    ap are_items_ordered (sym s.2) ∙ sym (ordered_is (Token.begin_array ∷ old) (json.array js.0) (bracket_begins old js.0 js.1)) ∙ o in
    let values = and_parts (is_ordered s.0) (are_items_ordered s.1) rise in
    (ordered_is e s.0 s.3 ∙ values.0, ordered_is (Token.begin_array ∷ new) (json.array s.1) (bracket_begins new s.1 s.4) ∙ values.1)

pub items_left : (old new : List Token) (r : Option (List Token)) → is_readable (Token.begin_array ∷ old) ≡ true → begins_ordered (Token.begin_array ∷ old) ≡ true → NextItem old r new → IfNone r (new ≡ old)
    → begins_ordered (Token.begin_array ∷ new) ≡ true
items_left old new None h o steps stays = ap (λ ts. begins_ordered (Token.begin_array ∷ ts)) stays ∙ o
items_left old new (Some e) h o steps stays = (next_ordered old new e h o steps).1

-- ---- a value that is an array or an object

module _ (ts rest : List Token) (h : is_readable ts ≡ true) (o : begins_ordered ts ≡ true) where
  pub array_ordered : ((j : json.Json) → BeginsWith ts j → (js : json.Items) × (j ≡ json.array js) × InItems rest js) → begins_ordered (Token.begin_array ∷ rest) ≡ true
  array_ordered is =
      let s = readable ts h in
      let js = is s.0 s.1 in
      ordered_is (Token.begin_array ∷ rest) (json.array js.0) (bracket_begins rest js.0 js.2) ∙ ap is_ordered (sym js.1) ∙ sym (ordered_is ts s.0 s.1) ∙ o

  pub record ObjectLeft : Type 0 where
    pub readable : is_readable (Token.begin_object ∷ rest) ≡ true
    pub ordered : begins_ordered (Token.begin_object ∷ rest) ≡ true
    pub same : Some (members_at rest) ≡ as_object (data_of ts)

  pub object_left : ((j : json.Json) → BeginsWith ts j → (ms : json.Members) × (j ≡ json.object ms) × InMembers rest ms) → ObjectLeft
  object_left is =
      let s = readable ts h in
      let ms = is s.0 s.1 in
      let f = form (json.object ms.0) (data_of ts) (ap of_json (sym ms.1) ∙ s.2) in
      let left = holds rest ms.0 f.0 ms.2 f.1 in
      record {
        readable = left.0;
        ordered = ordered_is (Token.begin_object ∷ rest) (json.object ms.0) (object_begins rest ms.0 ms.2) ∙ ap is_ordered (sym ms.1) ∙ sym (ordered_is ts s.0 s.1) ∙ o;
        same = ap Some left.1 ∙ ap as_object (sym f.2);
      }
