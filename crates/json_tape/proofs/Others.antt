-- Members of other names than two.
use Rattle.std.proofs.Common.{◌≡◌, ℕ, List, Bool, true, false, ◌||◌, Some, None, is_eq, Less, Equal, Greater, nat_cmp, refl, sym, ap, ◌∙◌}
use Rattle.std.proofs.lemmas.Bool.{or_parts, or_right}
use Rattle.std.proofs.lemmas.Map.Text.{is_eq-slice_cmp}
use Rattle.json_tape.proofs.Common.{bytes_eq-Decides, slice_cmp, match_ordering, Token, BeginsWith, InMembers, NextMember, Data, Members, no_members, member, put, of_json, of_members, is_readable, data_of, members_of}
use Rattle.json.specs.Json as json
use Rattle.json.specs.Find as find
use Rattle.json.proofs.Found.{Some_inj}
use Rattle.json_tape.specs.Other.{is_other, has_other}
use Rattle.json_tape.proofs.Shapes.{AreLeft, members_begin, members_next, members_over, no_members_value}
use Rattle.json_tape.proofs.Spelled.{chained}

same_name : (k l : List ℕ) → slice_cmp nat_cmp k l ≡ Equal → k ≡ l
same_name k l e = (bytes_eq-Decides k l).0 (sym (is_eq-slice_cmp k l) ∙ ap is_eq e)

or_more : (a b c : Bool) → (b ≡ true → c ≡ true) → (a || b) ≡ true → (a || c) ≡ true
or_more true b c more h = refl
or_more false b c more h = more h

-- ---- a member put among others

put_known : (a b k : List ℕ) (d : Data) (ms : Members) → is_other a b k ≡ false → has_other a b ms ≡ false → has_other a b (put k d ms) ≡ false
put_known a b k d no_members own none = rw own refl
put_known a b k d (member l e ms) own none =
    let rest = or_parts (is_other a b l) (has_other a b ms) none in
    elim (slice_cmp nat_cmp k l) as (λ o. has_other a b (match_ordering o (member k d (member l e ms)) (member l d ms) (member l e (put k d ms))) ≡ false)
    [ Less ↦ rw own none | Equal ↦ none | Greater ↦ rw rest.0 (put_known a b k d ms own rest.1) ]

put_other : (a b k : List ℕ) (d : Data) (ms : Members) → is_other a b k ≡ true → has_other a b (put k d ms) ≡ true
put_other a b k d no_members other = rw other refl
put_other a b k d (member l e ms) other =
    (elim (slice_cmp nat_cmp k l) as (λ o. slice_cmp nat_cmp k l ≡ o → has_other a b (match_ordering o (member k d (member l e ms)) (member l d ms) (member l e (put k d ms))) ≡ true) [
      | Less ↦ λ is. rw other refl
      | Equal ↦ λ is. ap (λ n. is_other a b n || has_other a b ms) (sym (same_name k l is)) ∙ rw other refl
      | Greater ↦ λ is. or_right (is_other a b l) _ (put_other a b k d ms other)
    ]) refl

still_other : (a b k : List ℕ) (d : Data) (ms : Members) → has_other a b ms ≡ true → has_other a b (put k d ms) ≡ true
still_other a b k d no_members has = absurd cc
still_other a b k d (member l e ms) has =
    elim (slice_cmp nat_cmp k l) as (λ o. has_other a b (match_ordering o (member k d (member l e ms)) (member l d ms) (member l e (put k d ms))) ≡ true)
    [ Less ↦ or_right (is_other a b k) _ has | Equal ↦ has | Greater ↦ or_more (is_other a b l) (has_other a b ms) _ (still_other a b k d ms) has ]

all_other : (a b : List ℕ) (ms : json.Members) (found all : Members) → has_other a b found ≡ true → of_members ms found ≡ Some all → has_other a b all ≡ true
all_other a b json.no_members found all has e = ap (has_other a b) (sym (Some_inj _ _ e)) ∙ has
all_other a b (json.member k j ms) found all has e =
    let first = chained (λ d. of_members ms (put k d found)) (of_json j) all e in
    all_other a b ms (put k first.0 found) all (still_other a b k first.0 found has) first.2

-- ---- the members of an object, one after another

-- these are left, and none before them has another name
abbrev pub NoneYet : List ℕ → List ℕ → List Token → Members → Type 0
NoneYet a b rest all = (found : Members) × (has_other a b found ≡ false) × AreLeft rest found all

pub none_at_first : (a b : List ℕ) (ts rest : List Token) → is_readable ts ≡ true → ((j : json.Json) → BeginsWith ts j → (ms : json.Members) × (j ≡ json.object ms) × InMembers rest ms) → NoneYet a b rest (members_of (data_of ts))
none_at_first a b ts rest h is = (no_members, refl, members_begin ts rest h is)

pub none_after : (a b : List ℕ) (rest new e : List Token) (k : List ℕ) (all : Members) → NoneYet a b rest all → is_other a b k ≡ false → NextMember rest (Some (k, e)) new → NoneYet a b new all
none_after a b rest new e k all now own steps =
    let next = members_next rest new e k now.0 all now.2 steps in
    (put k (data_of e) now.0, put_known a b k (data_of e) now.0 own now.1, next.1)

pub one_now : (a b : List ℕ) (rest new e : List Token) (k : List ℕ) (all : Members) → NoneYet a b rest all → is_other a b k ≡ true → NextMember rest (Some (k, e)) new → true ≡ has_other a b all
one_now a b rest new e k all now other steps =
    let next = members_next rest new e k now.0 all now.2 steps in
    sym (all_other a b next.1.0 (put k (data_of e) now.0) all (put_other a b k (data_of e) now.0 other) next.1.2)

pub none_at_all : (a b : List ℕ) (rest new : List Token) (all : Members) → NoneYet a b rest all → NextMember rest None new → false ≡ has_other a b all
none_at_all a b rest new all now over = sym now.1 ∙ ap (has_other a b) (members_over rest new now.0 all now.2 over)

pub none_inside : (a b : List ℕ) (ts : List Token) → is_readable ts ≡ true → ((j : json.Json) → BeginsWith ts j → find.as_object j ≡ None) → false ≡ has_other a b (members_of (data_of ts))
none_inside a b ts h is = ap (has_other a b) (sym (no_members_value ts h is))
