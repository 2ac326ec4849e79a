-- Tokens that become nodes, one after another.
use Rattle.std.proofs.Common.{◌≡◌, ℕ, zero, suc, ◌+◌, ◌-◌, ◌<◌, ◌≤◌, ⊎_elim, List, [], ◌∷◌, ◌++◌, map, length, take, drop, get_or, slice_set, Option, Some, None, option_and_then, Result, Ok, Err, IfOk, MatchOption, IsSome, refl, sym, ap, ap₂, ◌∙◌, subst, arith}
use Rattle.std.proofs.lemmas.List.{append_assoc, append-nil, map-append, length-map, length-append, length-set, take_at, take-take, take-set, drop_at, drop_more, get_or-map, get_or-take, get_or_push, get_or-set_same, get_or-set_other}
use Rattle.std.proofs.lemmas.Bool.{cases_lt}
use Rattle.json_tape.proofs.Common.{Bor, tokens, skip_items, skip_members, HasValue, Node}
use Rattle.json.specs.Token.{Token, begin_object, begin_array}
use Rattle.json.specs.Json.{Json, after_end_array, read_key, items, members, value, skip_value, if_last, max_depth, document}
use Rattle.json.specs.Tape.{node_token, Passes, LinkAt, Linked, Grown}
use Rattle.json.specs.declared.tape.Node.TheVariants as nodes
use Rattle.json.proofs.Grammar.{left, left-parse_map, left_some, read_key-shorter, read_key_is, closed_array, items_end, members_end, skip_item, skip_member, skip_value-shorter}
use Rattle.json_tape.specs.Tape.{leading_to, Moves}

-- ---- in steps

-- what stood before stands where it stood
kept : (a b : List Node) (i : ℕ) (l r : List Token) → Grown a l b r → i < length a → get_or b i nodes.Null ≡ get_or a i nodes.Null
kept a b i l r g h = sym (get_or-take (length a) b i nodes.Null h) ∙ ap (λ ns. get_or ns i nodes.Null) g.front

pub grown_trans : (a b c : List Node) (l m r : List Token) → Grown a l b m → Grown b m c r → Grown a l c r
grown_trans a b c l m r g h = record {
  same = h.same ∙ g.same;
  longer = omega (arith, g.longer, h.longer);
  front = sym (take-take (length a) (length b) c g.longer) ∙ ap (take (length a)) h.front ∙ g.front;
  linked = λ i from below. ⊎_elim
      (λ (early : i < length b). subst (LinkAt (map node_token a ++ l) i) (sym (kept b c i m r h early)) (g.linked i from early))
      (λ (late : length b ≤ i). subst (λ all. LinkAt all i (get_or c i nodes.Null)) g.same (h.linked i late below))
      (cases_lt i (length b));
}

one_more : (ns : List Node) (x : Node) → length (ns ++ x ∷ []) ≡ length ns + 1
one_more ns x = length-append ns (x ∷ [])

tokens_more : (ns : List Node) (x : Node) (rest : List Token) → map node_token (ns ++ x ∷ []) ++ rest ≡ map node_token ns ++ node_token x ∷ rest
tokens_more ns x rest = ap (λ ts. ts ++ rest) (map-append node_token ns (x ∷ [])) ∙ append_assoc (map node_token ns) (node_token x ∷ []) rest

pub grown_push : (x : Node) (old new : List Node) (rest : List Token) → new ≡ old ++ x ∷ [] → ((all : List Token) (i : ℕ) → LinkAt all i x) → Grown old (node_token x ∷ rest) new rest
grown_push x old new rest e plain =
    let long : length new ≡ length old + 1 = ap length e ∙ one_more old x in
    record {
      same = ap (λ ns. map node_token ns ++ rest) e ∙ tokens_more old x rest;
      longer = omega arith;
      front = ap (take (length old)) e ∙ take_at old (x ∷ []) _ refl;
      linked = λ i from below. subst (LinkAt _ i) (sym (ap (λ ns. get_or ns i nodes.Null) e ∙ get_or_push old x nodes.Null i (omega arith))) (plain _ i);
    }

pub grown_length : (a b : List Node) (l r : List Token) → Grown a l b r → length b + length r ≡ length a + length l
grown_length a b l r g = omega (arith, ap length g.same, length-append (map node_token a) l, length-append (map node_token b) r, length-map a node_token, length-map b node_token)

pub here : (ns : List Node) (i : ℕ) → i < length ns → drop i (map node_token ns) ≡ node_token (get_or ns i nodes.Null) ∷ drop (i + 1) (map node_token ns)
here ns i h = drop_more (map node_token ns) i Token.null (omega (arith, length-map ns node_token)) ∙ ap (λ t. t ∷ drop (i + 1) (map node_token ns)) (get_or-map node_token ns i nodes.Null Token.null h)

-- ---- a value of one token

pub moved : (x : Node) (old new : List Node) (depth : ℕ) (rest : List Token) → new ≡ old ++ x ∷ [] → skip_value depth (node_token x ∷ rest) ≡ Some rest → ((all : List Token) (i : ℕ) → LinkAt all i x) → Moves depth old (node_token x ∷ rest) new rest
moved x old new depth rest pushed skipped plain = (grown_push x old new rest pushed plain, skipped)

-- ---- a bracket that is closed

same_tokens : (ns : List Node) (i : ℕ) (x : Node) → i < length ns → node_token x ≡ node_token (get_or ns i nodes.Null) → map node_token (slice_set ns i x) ≡ map node_token ns
same_tokens [] i x h e = let never : ⊥ = omega arith in absurd never
same_tokens (y ∷ ns) zero x h e = ap (λ t. t ∷ map node_token ns) e
same_tokens (y ∷ ns) (suc i) x h e = ap (λ ts. node_token y ∷ ts) (same_tokens ns i x (omega arith) e)

-- an opening bracket, which leads somewhere, and its token
module _ (f : ℕ → Node) (t : Token) (is : (a : ℕ) → node_token (f a) ≡ t) (link : (all : List Token) (i a : ℕ) → Passes all i a → LinkAt all i (f a)) where
  pub begun : (old opened new : List Node) (l r : List Token) → opened ≡ old ++ f 0 ∷ [] → Grown opened l new r → get_or new (length old) nodes.Null ≡ f 0
  begun old opened new l r e g =
      let long : length opened ≡ length old + 1 = ap length e ∙ one_more old (f 0) in
      kept opened new (length old) l r g (omega arith) ∙ ap (λ ns. get_or ns (length old) nodes.Null) e ∙ get_or_push old (f 0) nodes.Null (length old) refl

  grown_close : (old opened new : List Node) (left rest : List Token) (depth : ℕ) → opened ≡ old ++ f 0 ∷ [] → Grown opened left new rest → skip_value depth (t ∷ left) ≡ Some rest
      → Grown old (t ∷ left) (slice_set new (length old) (f (length new))) rest
  grown_close old opened new left rest depth e g skipped =
      let i = length old in
      let x = f (length new) in
      let all = map node_token old ++ t ∷ left in
      let long : length opened ≡ i + 1 = ap length e ∙ one_more old (f 0) in
      let within : i < length new = omega (arith, g.longer) in
      let was : map node_token opened ++ left ≡ all = ap (λ ns. map node_token ns ++ left) e ∙ tokens_more old (f 0) left ∙ ap (λ k. map node_token old ++ k ∷ left) (is 0) in
      let from_here : drop i all ≡ t ∷ left = drop_at (map node_token old) (t ∷ left) i (length-map old node_token) in
      let to_there : drop (length new) all ≡ rest = ap (drop (length new)) (sym (g.same ∙ was)) ∙ drop_at (map node_token new) rest _ (length-map new node_token) in
      let passes : Passes all i (length new) = (depth, ap (skip_value depth) from_here ∙ skipped ∙ ap Some (sym to_there), within, omega (arith, ap length (g.same ∙ was), length-append (map node_token new) rest, length-map new node_token)) in
      record {
        same = ap (λ ts. ts ++ rest) (same_tokens new i x within (is _ ∙ sym (ap node_token (begun old opened new left rest e g) ∙ is 0))) ∙ g.same ∙ was;
        longer = omega (arith, length-set new i x);
        front = take-set new i x ∙ sym (take-take i (length opened) new (omega arith)) ∙ ap (take i) (g.front ∙ e) ∙ take_at old (f 0 ∷ []) i refl;
        linked = λ j from below. ⊎_elim
            (λ (later : i < j). subst (LinkAt all j) (sym (get_or-set_other new i j x nodes.Null (λ z. omega arith))) (subst (λ a. LinkAt a j (get_or new j nodes.Null)) was (g.linked j (omega arith) (omega (arith, length-set new i x)))))
            (λ (at : j ≤ i). (let z : i ≡ j = omega arith in subst (λ k. LinkAt all k (get_or (slice_set new i x) k nodes.Null)) z (subst (LinkAt all i) (sym (get_or-set_same new i x nodes.Null within)) (link all i _ passes))))
            (cases_lt i j);
      }

  -- behind the last value comes the closing bracket, of which the node is put last
  pub closed : (end : Node) (old opened ns new : List Node) (first r : List Token) (depth at : ℕ) → ((n : ℕ) → leading_to n (f 0) ≡ f n) → opened ≡ old ++ f 0 ∷ [] → at ≡ length old
      → Grown opened first ns (node_token end ∷ r) → ((all : List Token) (i : ℕ) → LinkAt all i end) → skip_value depth (t ∷ first) ≡ Some r
      → new ≡ slice_set (ns ++ end ∷ []) at (leading_to (length ns + 1) (get_or ns at nodes.Null)) → Grown old (t ∷ first) new r
  closed end old opened ns new first r depth at leads e a g plain skipped made =
      let full = ns ++ end ∷ [] in
      let all = grown_trans opened ns full first (node_token end ∷ r) r g (grown_push end ns full r refl plain) in
      let there : get_or ns at nodes.Null ≡ f 0 = ap (λ i. get_or ns i nodes.Null) a ∙ begun old opened ns first _ e g in
      let led : leading_to (length ns + 1) (get_or ns at nodes.Null) ≡ f (length full) = ap (leading_to (length ns + 1)) there ∙ leads _ ∙ ap f (sym (one_more ns end)) in
      subst (λ z. Grown old (t ∷ first) z r) (sym (made ∙ ap₂ (slice_set full) a led)) (grown_close old opened full first r depth e all skipped)

-- ---- the items of an array, and the members of an object

-- so many items at most are left, of those that there are behind the bracket
abbrev pub Items : ℕ → ℕ → List Node → List Token → List Node → List Token → Type 0
Items depth n opened first ns now = (length now ≤ n) × (skip_items depth first ≡ left (items (value depth) n now)) × Grown opened first ns now

abbrev pub Members : ℕ → ℕ → List Node → List Token → List Node → List Token → Type 0
Members depth n opened first ns now = (length now ≤ n) × (skip_members depth first ≡ left (members (value depth) n now)) × Grown opened first ns now

pub item_turn : (depth n : ℕ) (opened ns new : List Node) (first now r : List Token) → Items depth n opened first ns now → after_end_array now ≡ None → Moves depth ns now new r → Items depth (n - 1) opened first new r × (length r < length now)
item_turn depth n opened ns new first now r (le, so_far, g) more (h, passed) =
    let less = skip_value-shorter depth now r passed in
    ((omega arith, so_far ∙ skip_item (value depth) n now r (omega arith) more passed, grown_trans opened ns new first now r g h), less)

pub member_turn : (depth n : ℕ) (opened ns named new : List Node) (first now s r : List Token) (k : Bor (List ℕ)) → Members depth n opened first ns now → read_key now ≡ Some (Some k.now, s) → named ≡ ns ++ nodes.Key k ∷ []
    → Moves depth named s new r → Members depth (n - 1) opened first new r × (length r < length now)
member_turn depth n opened ns named new first now s r k (le, so_far, g) found pushed (h, passed) =
    let less = read_key-shorter now (Some k.now) s found in
    let lesser = skip_value-shorter depth s r passed in
    let key : Grown ns now named s = subst (λ ts. Grown ns ts named s) (sym (read_key_is now (Some k.now) s found)) (grown_push (nodes.Key k) ns named s pushed (λ all i. tt)) in
    ((omega arith, so_far ∙ skip_member (value depth) n now s r k.now (omega arith) found passed, grown_trans opened ns new first now r g (grown_trans ns named new now s r key h)), omega arith)

pub items_closed : (depth n at : ℕ) (old opened ns new : List Node) (first now r : List Token) → opened ≡ old ++ nodes.Array 0 ∷ [] → at ≡ length old → Items depth n opened first ns now → after_end_array now ≡ Some r
    → new ≡ slice_set (ns ++ nodes.EndArray ∷ []) at (leading_to (length ns + 1) (get_or ns at nodes.Null)) → Grown old (begin_array ∷ first) new r × (skip_items depth first ≡ Some r)
unfolding value
items_closed depth n at old opened ns new first now r e a (le, so_far, g) closing made =
    let skipped = so_far ∙ ap left (items_end (value depth) n now r le closing) in
    let deeper : skip_value (suc depth) (begin_array ∷ first) ≡ Some r = left-parse_map _ _ ∙ skipped in
    (closed nodes.Array begin_array (λ k. refl) (λ all i k h. h) nodes.EndArray old opened ns new first r (suc depth) at (λ k. refl) e a (subst (Grown opened first ns) (closed_array now r closing) g) (λ all i. tt) deeper made, skipped)

pub members_closed : (depth n at : ℕ) (old opened ns new : List Node) (first now r : List Token) → opened ≡ old ++ nodes.Object 0 ∷ [] → at ≡ length old → Members depth n opened first ns now → read_key now ≡ Some (None, r)
    → new ≡ slice_set (ns ++ nodes.EndObject ∷ []) at (leading_to (length ns + 1) (get_or ns at nodes.Null)) → Grown old (begin_object ∷ first) new r × (skip_members depth first ≡ Some r)
unfolding value
members_closed depth n at old opened ns new first now r e a (le, so_far, g) closing made =
    let skipped = so_far ∙ ap left (members_end (value depth) n now r le closing) in
    let deeper : skip_value (suc depth) (begin_object ∷ first) ≡ Some r = left-parse_map _ _ ∙ skipped in
    (closed nodes.Object begin_object (λ k. refl) (λ all i k h. h) nodes.EndObject old opened ns new first r (suc depth) at (λ k. refl) e a (subst (Grown opened first ns) (read_key_is now None r closing) g) (λ all i. tt) deeper made, skipped)

-- ---- a whole text

last : (text : List ℕ) (j : Json) (rest : List Token) → value max_depth (tokens text) ≡ Some (j, rest) → document text ≡ if_last j rest
last text j rest e = ap (option_and_then (λ p. if_last p.0 p.1)) e

-- what a tape of the text holds
abbrev pub Whole : List ℕ → List Node → Type 0
Whole text ns = (map node_token ns ≡ tokens text) × Linked (map node_token ns) 0 ns × HasValue (map node_token ns) × IsSome (document text)

whole_alone : (text : List ℕ) (ns : List Node) → Moves max_depth [] (tokens text) ns [] → Whole text ns
whole_alone text ns (g, passed) =
    let j = left_some (value max_depth (tokens text)) [] passed in
    let same : map node_token ns ≡ tokens text = sym (append-nil _) ∙ g.same in
    (same, subst (λ ts. Linked ts 0 ns) (sym same) g.linked, (j.0, (max_depth, [], ap (value max_depth) same ∙ j.1)), subst IsSome (sym (last text j.0 [] j.1)) refl)

pub whole : (text : List ℕ) (old ns : List Node) (first rest : List Token) → old ≡ [] → first ≡ tokens text → rest ≡ [] → Moves max_depth old first ns rest → Whole text ns
whole text old ns first rest a b c moves =
    whole_alone text ns (subst (λ o. Moves max_depth o (tokens text) ns []) a (subst (λ ts. Moves max_depth old ts ns []) b (subst (Moves max_depth old first ns) c moves)))

-- a text with no value, or with something behind it, is no document
pub no_document : (text : List ℕ) (first : List Token) → first ≡ tokens text → (skip_value max_depth first ≡ Some [] → ⊥) → document text ≡ None
no_document text first same other = by (value max_depth (tokens text)) (λ e. other (ap (skip_value max_depth) same ∙ e))
  where
    by : (o : Option (Json × List Token)) → (left o ≡ Some [] → ⊥) → option_and_then (λ p. if_last p.0 p.1) o ≡ None
    by (Some (j, [])) h = absurd (h refl)
    by o h = refl

pub without : {A E : Type 0} {I P : Type 0} (Q : A → Type 0) (r : Result (Option A) E) → (I → P) → IfOk r (λ found. (found ≡ None) × I) → IfOk r (λ found. MatchOption found P Q)
without Q (Ok found) f h = rw h.0 (f h.1)
without Q (Err e) f h = tt
