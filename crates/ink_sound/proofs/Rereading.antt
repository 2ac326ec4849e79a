-- The compact text of data is read back as that data, where its integers have 64 bits and the names in each object rise.
use Rattle.std.proofs.Common.{◌≡◌, ◌∙◌, ap, ap₂, sym, refl, arith, ℕ, suc, ◌<◌, ◌≤◌, ◌^◌, max, pos, negsuc, List, [], Bool, true, ◌&&◌, IsTrue, append-nil, Option, Some, option_map, option_and_then}
use Rattle.ink_sound.proofs.Common.{and_parts, nat_list_cmp_total, slice_cmp}
use Rattle.std.specs.Ordering.{is_lt, nat_cmp, ordering_reverse}
use Rattle.std.specs.declared.cmp.Ordering.TheVariants.{Less}
use Rattle.json.specs.Json as json
use Rattle.json.specs.Lex.{tokens}
use Rattle.json.specs.Print.{IsNumber}
use Rattle.json.specs.Token.{Token}
use Rattle.json.specs.Tree as tree
use Rattle.json.proofs.Printed.Decimals.{IsNumber-decimal, IsNumber-signed_decimal}
use Rattle.json.proofs.Printed.Tokens.{tokens-print}
use Rattle.json.proofs.Printed.Trees.{ArePrintable-json_tokens, value-json_tokens}
use Rattle.serde_json.specs.Data.{Num, unsigned, negative, float, Data, null, boolean, number, string, array, object, Items, no_items, item, Members, no_members, member, put, depth, items_depth, members_depth}
use Rattle.serde_json.specs.Read.{max_depth, number_of, of_items, of_json, of_members, read}
use Rattle.serde_json.specs.Written.{compact_text, items_outline, members_outline, number_text, outline}
use Rattle.serde_json.proofs.Numbers.{number_of-decimal, number_of-negative}
use Rattle.serde_json.proofs.Texts.{print-outline}
use Rattle.ink_sound.proofs.Rows.{less_of}

-- ---- such data

-- an integer of 64 bits
abbrev pub InRange : Num → Type 0
InRange (unsigned n) = n < 2 ^ 64
InRange (negative (pos n)) = ⊥
InRange (negative (negsuc n)) = n < 2 ^ 63
InRange (float x) = ⊥

-- a name comes before all of these
abbrev pub is_first : List ℕ → Members → Bool
is_first k no_members = true
is_first k (member l d ms) = is_lt (slice_cmp nat_cmp k l) && is_first k ms

abbrev pub names_rise : Members → Bool
names_rise no_members = true
names_rise (member k d ms) = is_first k ms && names_rise ms

abbrev mutual
  pub IsOrderly : Data → Type 0
  IsOrderly null = Unit {0}
  IsOrderly (boolean b) = Unit {0}
  IsOrderly (number n) = InRange n
  IsOrderly (string t) = Unit {0}
  IsOrderly (array ds) = AreOrderly ds
  IsOrderly (object ms) = IsTrue (names_rise ms) × HasOrderly ms

  pub AreOrderly : Items → Type 0
  AreOrderly no_items = Unit {0}
  AreOrderly (item d ds) = IsOrderly d × AreOrderly ds

  pub HasOrderly : Members → Type 0
  HasOrderly no_members = Unit {0}
  HasOrderly (member k d ms) = IsOrderly d × HasOrderly ms

-- ---- numbers

number_back : (n : Num) → InRange n → number_of (number_text n) ≡ Some n
number_back (unsigned n) h = number_of-decimal n h
number_back (negative (negsuc n)) h = number_of-negative n h
number_back n h = absurd h

is_number : (n : Num) → InRange n → IsNumber (number_text n)
is_number (unsigned n) h = IsNumber-decimal n h
is_number (negative (negsuc n)) h = IsNumber-signed_decimal (negsuc n) h
is_number n h = absurd h

-- ---- members, put one after another

abbrev before : Members → Members → Members
before no_members more = more
before (member l e done) more = member l e (before done more)

before_more : (done : Members) (k : List ℕ) (d : Data) (ms : Members) → before done (member k d ms) ≡ before (before done (member k d no_members)) ms
before_more no_members k d ms = refl
before_more (member l e done) k d ms = ap (member l e) (before_more done k d ms)

before_nothing : (done : Members) → before done no_members ≡ done
before_nothing no_members = refl
before_nothing (member l e done) = ap (member l e) (before_nothing done)

first_below : (l : List ℕ) (done : Members) (k : List ℕ) (d : Data) (ms : Members) → is_first l (before done (member k d ms)) ≡ true → slice_cmp nat_cmp l k ≡ Less
first_below l no_members k d ms h = less_of (slice_cmp nat_cmp l k) (and_parts (is_lt (slice_cmp nat_cmp l k)) (is_first l ms) h).0
first_below l (member m e done) k d ms h = first_below l done k d ms (and_parts (is_lt (slice_cmp nat_cmp l m)) (is_first l (before done (member k d ms))) h).1

-- a name above those before it goes last
put_last : (done : Members) (k : List ℕ) (d : Data) (ms : Members) → names_rise (before done (member k d ms)) ≡ true → put k d done ≡ before done (member k d no_members)
put_last no_members k d ms h = refl
put_last (member l e done) k d ms h =
    let rest = before done (member k d ms) in
    let parts = and_parts (is_first l rest) (names_rise rest) h in
    rw (nat_list_cmp_total.antisymm k l ∙ ap ordering_reverse (first_below l done k d ms parts.0)) (ap (member l e) (put_last done k d ms parts.1))

-- ---- the data of an outline

mutual
  data_back : (d : Data) → IsOrderly d → of_json (outline d) ≡ Some d
  data_back (number n) h = ap (option_map number) (number_back n h)
  data_back (array ds) h = ap (option_map array) (items_back ds h)
  data_back (object ms) h = ap (option_map object) (members_back ms no_members h.0 h.1)
  data_back d h = refl

  items_back : (ds : Items) → AreOrderly ds → of_items (items_outline ds) ≡ Some ds
  items_back no_items h = refl
  items_back (item d ds) h = rw (data_back d h.0) (ap (option_map (item d)) (items_back ds h.1))

  members_back : (ms done : Members) → names_rise (before done ms) ≡ true → HasOrderly ms → of_members (members_outline ms) done ≡ Some (before done ms)
  members_back no_members done rise h = ap Some (sym (before_nothing done))
  members_back (member k d ms) done rise h =
      let more = before_more done k d ms in
      rw (data_back d h.0, put_last done k d ms rise) (members_back ms (before done (member k d no_members)) (ap names_rise (sym more) ∙ rise) h.1 ∙ ap Some (sym more))

-- ---- the text of an outline

mutual
  outlined : (d : Data) → IsOrderly d → tree.HasNumbers (outline d) × (tree.depth (outline d) ≡ depth d)
  outlined (number n) h = (is_number n h, refl)
  outlined (array ds) h = let r = items_outlined ds h in (r.0, ap suc r.1)
  outlined (object ms) h = let r = members_outlined ms h.1 in (r.0, ap suc r.1)
  outlined d h = (tt, refl)

  items_outlined : (ds : Items) → AreOrderly ds → tree.ItemsHaveNumbers (items_outline ds) × (tree.items_depth (items_outline ds) ≡ items_depth ds)
  items_outlined no_items h = (tt, refl)
  items_outlined (item d ds) h = let r = items_outlined ds h.1 in (((outlined d h.0).0, r.0), ap₂ max (outlined d h.0).1 r.1)

  members_outlined : (ms : Members) → HasOrderly ms → tree.MembersHaveNumbers (members_outline ms) × (tree.members_depth (members_outline ms) ≡ members_depth ms)
  members_outlined no_members h = (tt, refl)
  members_outlined (member k d ms) h = let r = members_outlined ms h.1 in (((outlined d h.0).0, r.0), ap₂ max (outlined d h.0).1 r.1)

-- what `read` makes of what the grammar found
abbrev whole : Option (json.Json × List Token) → Option Data
whole o = option_and_then of_json (option_and_then (λ p. json.if_last p.0 p.1) o)

pub text_back : (d : Data) → IsOrderly d → depth d ≤ max_depth → read (compact_text d) ≡ Some d
text_back d h shallow =
    let ts = tree.json_tokens (outline d) in
    let so = outlined d h in
    let same : tokens (compact_text d) ≡ ts = ap tokens (sym (print-outline d)) ∙ tokens-print ts (ArePrintable-json_tokens (outline d) so.0) in
    ap whole (ap (json.value max_depth) (same ∙ sym (append-nil ts)) ∙ value-json_tokens (outline d) max_depth [] (omega (arith, so.1))) ∙ data_back d h
