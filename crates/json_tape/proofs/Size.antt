-- A JSON text is made of no more values than it has bytes, and one.
use Rattle.std.proofs.Common.{◌≡◌, ℕ, zero, suc, ◌+◌, ◌≤◌, List, [], ◌∷◌, length, Option, Some, None, option_map, option_and_then, Ordering, Less, Equal, Greater, refl, subst, arith}
use Rattle.std.specs.Prelude.{⊤}
use Rattle.json_tape.proofs.Common.{match_ordering, Token, tokens, number_of, of_json, of_items, of_members, max_depth, read}
use Rattle.json.specs.Json as json
use Rattle.json.specs.Json.{Parse, parse_map, after_end_array, read_key, items_step, members_step, value_with}
use Rattle.json.proofs.Grammar.{after_end_array-shorter, read_key-shorter}
use Rattle.serde_json.specs.Data as d
use Rattle.json_tape.specs.Size.{size, items_size, members_size}
use Rattle.json_tape.proofs.Tokens.{fewer_tokens}

-- ---- the values that tokens spell

abbrev mutual
  weight : json.Json → ℕ
  weight (json.array js) = items_weight js + 1
  weight (json.object ms) = members_weight ms + 1
  weight j = 1

  items_weight : json.Items → ℕ
  items_weight json.no_items = 0
  items_weight (json.item j js) = weight j + items_weight js

  members_weight : json.Members → ℕ
  members_weight json.no_members = 0
  members_weight (json.member k j ms) = weight j + members_weight ms

-- what is found and what is left take no more than there was
abbrev Spends : {A : Type 0} → (A → ℕ) → ℕ → Option (A × List Token) → Type 0
Spends f n None = ⊤
Spends f n (Some p) = f p.0 + length p.1 ≤ n

abbrev Within : {A : Type 0} → (A → ℕ) → Parse A → Type 0
Within f p = (ts : List Token) → Spends f (length ts) (p ts)

mapped : {A B : Type 0} (f : A → ℕ) (g : B → ℕ) (m n : ℕ) (h : A → B) → ((a : A) (l : ℕ) → f a + l ≤ m → g (h a) + l ≤ n) → (o : Option (A × List Token)) → Spends f m o → Spends g n (parse_map h o)
mapped f g m n h k None x = tt
mapped f g m n h k (Some p) x = k p.0 (length p.1) x

and_more : {B : Type 0} (g : B → ℕ) (n : ℕ) (h : json.Json → B → B) → ((j : json.Json) (b : B) → g (h j b) ≡ weight j + g b) → (more : Parse B) → Within g more
    → (o : Option (json.Json × List Token)) → Spends weight n o → Spends g n (option_and_then (λ q. parse_map (h q.0) (more q.1)) o)
and_more g n h is more within None x = tt
and_more g n h is more within (Some q) x = mapped g g (length q.1) n (h q.0) (λ b l y. omega (arith, is q.0 b)) _ (within q.1)

module _ (p : Parse json.Json) (within : Within weight p) where
  item_turn : (more : Parse json.Items) → Within items_weight more → (ts : List Token) (o : Option (List Token)) → after_end_array ts ≡ o → Spends items_weight (length ts) (items_step p more ts o)
  item_turn more again ts (Some r) e = omega (arith, after_end_array-shorter ts r e)
  item_turn more again ts None e = and_more items_weight (length ts) json.item (λ j b. refl) more again (p ts) (within ts)

  Within-items : (n : ℕ) → Within items_weight (json.items p n)
  unfolding json.items
  Within-items zero ts = tt
  Within-items (suc n) ts = item_turn (json.items p n) (Within-items n) ts (after_end_array ts) refl

  longer : {A : Type 0} (f : A → ℕ) (m n : ℕ) (o : Option (A × List Token)) → m ≤ n → Spends f m o → Spends f n o
  longer f m n None h x = tt
  longer f m n (Some q) h x = omega arith

  member_turn : (more : Parse json.Members) → Within members_weight more → (ts : List Token) (o : Option (Option (List ℕ) × List Token)) → read_key ts ≡ o → Spends members_weight (length ts) (option_and_then (λ q. members_step p more q.0 q.1) o)
  member_turn more again ts None e = tt
  member_turn more again ts (Some (None, s)) e = omega (arith, read_key-shorter ts None s e)
  member_turn more again ts (Some (Some k, s)) e = longer members_weight (length s) (length ts) _ (omega (arith, read_key-shorter ts (Some k) s e)) (and_more members_weight (length s) (json.member k) (λ j b. refl) more again (p s) (within s))

  Within-members : (n : ℕ) → Within members_weight (json.members p n)
  unfolding json.members
  Within-members zero ts = tt
  Within-members (suc n) ts = member_turn (json.members p n) (Within-members n) ts (read_key ts) refl

one_level : (a : Parse json.Items) (o : Parse json.Members) → Within items_weight a → Within members_weight o → Within weight (value_with a o)
one_level a o p q (Token.begin_object ∷ ts) = mapped members_weight weight (length ts) (suc (length ts)) json.object (λ x l y. omega arith) (o ts) (q ts)
one_level a o p q (Token.begin_array ∷ ts) = mapped items_weight weight (length ts) (suc (length ts)) json.array (λ x l y. omega arith) (a ts) (p ts)
one_level a o p q (Token.string s ∷ ts) = omega arith
one_level a o p q (Token.number s ∷ ts) = omega arith
one_level a o p q (Token.boolean b ∷ ts) = omega arith
one_level a o p q (Token.null ∷ ts) = omega arith
one_level a o p q ts = tt

Within-value : (n : ℕ) → Within weight (json.value n)
unfolding json.value
Within-value zero = one_level (λ ts. None) (λ ts. None) (λ ts. tt) (λ ts. tt)
Within-value (suc n) = one_level (λ ts. json.items (json.value n) (length ts) ts) (λ ts. json.members (json.value n) (length ts) ts)
    (λ ts. Within-items (json.value n) (Within-value n) (length ts) ts)
    (λ ts. Within-members (json.value n) (Within-value n) (length ts) ts)

-- ---- the data that a value is

abbrev AtMost : {A : Type 0} → (A → ℕ) → ℕ → Option A → Type 0
AtMost f n None = ⊤
AtMost f n (Some a) = f a ≤ n

AtMost-map : {A B : Type 0} (f : A → ℕ) (g : B → ℕ) (m n : ℕ) (h : A → B) → ((a : A) → f a ≤ m → g (h a) ≤ n) → (o : Option A) → AtMost f m o → AtMost g n (option_map h o)
AtMost-map f g m n h k None x = tt
AtMost-map f g m n h k (Some a) x = k a x

AtMost-and_then : {A B : Type 0} (f : A → ℕ) (g : B → ℕ) (m n : ℕ) (h : A → Option B) → ((a : A) → f a ≤ m → AtMost g n (h a)) → (o : Option A) → AtMost f m o → AtMost g n (option_and_then h o)
AtMost-and_then f g m n h k None x = tt
AtMost-and_then f g m n h k (Some a) x = k a x

flat : {A : Type 0} (o : Option A) → AtMost (λ _. 0) 0 o
flat None = tt
flat (Some a) = omega arith

match_at_most : (o : Ordering) (a b c : d.Members) (n : ℕ) → members_size a ≤ n → members_size b ≤ n → members_size c ≤ n → members_size (match_ordering o a b c) ≤ n
match_at_most Less a b c n p q r = p
match_at_most Equal a b c n p q r = q
match_at_most Greater a b c n p q r = r

put_at_most : (k : List ℕ) (x : d.Data) (ms : d.Members) → members_size (d.put k x ms) ≤ size x + members_size ms
put_at_most k x d.no_members = omega arith
put_at_most k x (d.member l e ms) =
    match_at_most _ (d.member k x (d.member l e ms)) (d.member l x ms) (d.member l e (d.put k x ms)) (size x + (size e + members_size ms)) (omega arith) (omega arith) (omega (arith, put_at_most k x ms))

mutual
  of_json_at_most : (j : json.Json) (n : ℕ) → weight j ≤ n → AtMost size n (of_json j)
  of_json_at_most (json.number s) n h = AtMost-map (λ _. 0) size 0 n d.number (λ a x. omega arith) (number_of s) (flat _)
  of_json_at_most (json.array js) n h = AtMost-map items_size size (items_weight js) n d.array (λ a x. omega arith) _ (of_items_at_most js _ (omega arith))
  of_json_at_most (json.object ms) n h = AtMost-map members_size size (members_weight ms) n d.object (λ a x. omega arith) _ (of_members_at_most ms d.no_members _ (omega arith))
  of_json_at_most j n h = omega arith

  of_items_at_most : (js : json.Items) (n : ℕ) → items_weight js ≤ n → AtMost items_size n (of_items js)
  of_items_at_most json.no_items n h = omega arith
  of_items_at_most (json.item j js) n h =
      AtMost-and_then size items_size (weight j) n _ (λ x p. AtMost-map items_size items_size (items_weight js) n (d.item x) (λ ds y. omega arith) _ (of_items_at_most js _ (omega arith))) _ (of_json_at_most j _ (omega arith))

  of_members_at_most : (ms : json.Members) (found : d.Members) (n : ℕ) → members_weight ms + members_size found ≤ n → AtMost members_size n (of_members ms found)
  of_members_at_most json.no_members found n h = omega arith
  of_members_at_most (json.member name j ms) found n h =
      AtMost-and_then size members_size (weight j) n _ (λ x p. of_members_at_most ms (d.put name x found) n (omega (arith, put_at_most name x found))) _ (of_json_at_most j _ (omega arith))

last_at_most : (o : Option (json.Json × List Token)) (n : ℕ) → Spends weight n o → AtMost weight n (option_and_then (λ p. json.if_last p.0 p.1) o)
last_at_most (Some (j, [])) n h = omega arith
last_at_most o n h = tt

pub read_size : (text : List ℕ) (x : d.Data) → read text ≡ Some x → size x ≤ suc (length text)
read_size text x e =
    let n = length (tokens text) in
    let within : size x ≤ n = subst (AtMost size n) e (AtMost-and_then weight size n n of_json (λ j h. of_json_at_most j n h) _ (last_at_most _ n (Within-value max_depth (tokens text)))) in
    omega (arith, fewer_tokens text)
