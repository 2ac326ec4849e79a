-- What tokens spell: a whole text, and the data of one value.
use Rattle.std.proofs.Common.{◌≡◌, ℕ, suc, ◌+◌, ◌-◌, ◌<◌, ◌≤◌, List, [], ◌++◌, length, Bool, true, false, ◌&&◌, nat_lt, is_some, if◌then◌else◌, Option, Some, None, option_map, option_and_then, unwrap_or, refl, sym, ap, ◌∙◌, arith, append_assoc, length-append}
use Rattle.std.proofs.lemmas.Bool.{and_parts, and_from, ltb-true, lt-ltb}
use Rattle.json_tape.proofs.Common.{Token, tokens, BeginsWith, HasValue, value-json_tokens, value-json_tokens_back, Data, null, boolean, number, string, array, object, Items, no_items, item, Members, no_members, put, number_of, of_json, of_items, of_members, max_depth, read}
use Rattle.json.specs.Json as json
use Rattle.json.specs.Tree.{json_tokens, items_tokens, members_tokens, depth, items_depth, members_depth}
use Rattle.json.proofs.Nesting.{value-depth}
use Rattle.json.proofs.Found.{Some_inj, document-BeginsWith}
use Rattle.json_tape.specs.Spelled.{Spells, spelled, is_readable, data_of, are_sound, held}

-- ---- what an option holds

pub mapped : {A B : Type 0} (f : A → B) (o : Option A) (b : B) → option_map f o ≡ Some b → (a : A) × (o ≡ Some a) × (f a ≡ b)
mapped f None b e = absurd cc
mapped f (Some a) b e = (a, refl, Some_inj _ _ e)

pub chained : {A B : Type 0} (f : A → Option B) (o : Option A) (b : B) → option_and_then f o ≡ Some b → (a : A) × (o ≡ Some a) × (f a ≡ Some b)
chained f None b e = absurd cc
chained f (Some a) b e = (a, refl, e)

pub there : {A : Type 0} (o : Option A) → is_some o ≡ true → (a : A) × (o ≡ Some a)
there None e = absurd cc
there (Some a) e = (a, refl)

-- ---- the data of one value

mutual
  pub depth_length : (j : json.Json) → depth j ≤ length (json_tokens j)
  depth_length (json.array js) = omega (arith, items_depth_length js)
  depth_length (json.object ms) = omega (arith, members_depth_length ms)
  depth_length j = omega arith

  items_depth_length : (js : json.Items) → items_depth js ≤ length (items_tokens js)
  items_depth_length json.no_items = omega arith
  items_depth_length (json.item j js) = omega (arith, depth_length j, items_depth_length js, length-append (json_tokens j) (items_tokens js))

  members_depth_length : (ms : json.Members) → members_depth ms ≤ length (members_tokens ms)
  members_depth_length json.no_members = omega arith
  members_depth_length (json.member k j ms) = omega (arith, depth_length j, members_depth_length ms, length-append (json_tokens j) (members_tokens ms))

-- a value is found again, nested as deep as there are tokens
pub found_again : (ts : List Token) (j : json.Json) → BeginsWith ts j → (rest : List Token) × (json.value (length ts) ts ≡ Some (j, rest))
found_again ts j (n, rest, e) =
    let same : ts ≡ json_tokens j ++ rest = value-json_tokens_back n ts rest j e in
    let deep : depth j ≤ length ts = omega (arith, depth_length j, length-append (json_tokens j) rest, ap length same) in
    (rest, ap (json.value (length ts)) same ∙ value-json_tokens j (length ts) rest deep)

pub spelled_is : (ts : List Token) (d : Data) → Spells ts d → spelled ts ≡ Some d
spelled_is ts d (j, begins, is) = ap (option_and_then (λ p. of_json p.0)) (found_again ts j begins).1 ∙ is

pub spelled_data : (ts : List Token) (d : Data) → Spells ts d → data_of ts ≡ d
unfolding data_of
spelled_data ts d s = ap (λ o. unwrap_or o null) (spelled_is ts d s)

pub spelled_readable : (ts : List Token) (d : Data) → Spells ts d → is_readable ts ≡ true
spelled_readable ts d s = ap is_some (spelled_is ts d s)

-- a readable value's tokens spell its data
pub readable : (ts : List Token) → is_readable ts ≡ true → Spells ts (data_of ts)
unfolding data_of
readable ts h =
    let d = there (spelled ts) h in
    let p = chained (λ p. of_json p.0) (json.value (length ts) ts) d.0 d.1 in
    (p.0.0, (length ts, p.0.1, p.1), p.2 ∙ sym (ap (λ o. Some (unwrap_or o null)) d.1))

-- ---- tokens that are sound

abbrev AreMembers : json.Members → Type 0
AreMembers ms = (found : Members) → (ds : Members) × (of_members ms found ≡ Some ds)

-- a closing bracket ends a level
up : (levels : ℕ) (ts : List Token) → are_sound (suc levels - 1) ts ≡ are_sound levels ts
up levels ts = let e : suc levels - 1 ≡ levels = omega arith in ap (λ n. are_sound n ts) e

begun : (levels : ℕ) (ts : List Token) → (nat_lt levels max_depth && are_sound (suc levels) ts) ≡ true → (levels < max_depth) × (are_sound (suc levels) ts ≡ true)
begun levels ts h = let p = and_parts _ _ h in (ltb-true levels max_depth p.0, p.1)

mutual
  sound_value : (j : json.Json) (levels : ℕ) (ts : List Token) → levels ≤ max_depth → are_sound levels (json_tokens j ++ ts) ≡ true
      → (levels + depth j ≤ max_depth) × (are_sound levels ts ≡ true) × (d : Data) × (of_json j ≡ Some d)
  sound_value json.null levels ts h s = (omega arith, s, null, refl)
  sound_value (json.boolean b) levels ts h s = (omega arith, s, boolean b, refl)
  sound_value (json.number t) levels ts h s =
      let p = and_parts _ _ s in
      let n = there (number_of t) p.0 in
      (omega arith, p.1, number n.0, ap (option_map number) n.1)
  sound_value (json.string t) levels ts h s = (omega arith, s, string t, refl)
  sound_value (json.array js) levels ts h s =
      let p = begun levels (items_tokens js ++ ts) s in
      let inside = sound_items js levels ts p.0 p.1 in
      (omega (arith, inside.0), inside.1, array inside.2, ap (option_map array) inside.3)
  sound_value (json.object ms) levels ts h s =
      let p = begun levels (members_tokens ms ++ ts) s in
      let inside = sound_members ms levels ts p.0 p.1 in
      let found = inside.2 no_members in
      (omega (arith, inside.0), inside.1, object found.0, ap (option_map object) found.1)

  sound_items : (js : json.Items) (levels : ℕ) (ts : List Token) → levels < max_depth → are_sound (suc levels) (items_tokens js ++ ts) ≡ true
      → (suc levels + items_depth js ≤ max_depth) × (are_sound levels ts ≡ true) × (ds : Items) × (of_items js ≡ Some ds)
  sound_items json.no_items levels ts h s = (omega arith, sym (up levels ts) ∙ s, no_items, refl)
  sound_items (json.item j js) levels ts h s =
      let here = sound_value j (suc levels) (items_tokens js ++ ts) (omega arith) (ap (are_sound (suc levels)) (sym (append_assoc (json_tokens j) (items_tokens js) ts)) ∙ s) in
      let rest = sound_items js levels ts h here.1 in
      (omega (arith, here.0, rest.0), rest.1, item here.2 rest.2, rw (here.3, rest.3) refl)

  sound_members : (ms : json.Members) (levels : ℕ) (ts : List Token) → levels < max_depth → are_sound (suc levels) (members_tokens ms ++ ts) ≡ true
      → (suc levels + members_depth ms ≤ max_depth) × (are_sound levels ts ≡ true) × AreMembers ms
  sound_members json.no_members levels ts h s = (omega arith, sym (up levels ts) ∙ s, λ found. (found, refl))
  sound_members (json.member k j ms) levels ts h s =
      let here = sound_value j (suc levels) (members_tokens ms ++ ts) (omega arith) (ap (are_sound (suc levels)) (sym (append_assoc (json_tokens j) (members_tokens ms) ts)) ∙ s) in
      let rest = sound_members ms levels ts h here.1 in
      (omega (arith, here.0, rest.0), rest.1, λ found. (let more = rest.2 (put k here.2 found) in (more.0, rw here.3 more.1)))

mutual
  value_sound : (j : json.Json) (d : Data) (levels : ℕ) (ts : List Token) → levels + depth j ≤ max_depth → of_json j ≡ Some d → are_sound levels ts ≡ true → are_sound levels (json_tokens j ++ ts) ≡ true
  value_sound (json.number t) d levels ts h e s = let n = mapped number (number_of t) d e in and_from _ _ (ap is_some n.1) s
  value_sound (json.array js) d levels ts h e s =
      let inside = mapped array (of_items js) d e in
      and_from _ _ (lt-ltb levels max_depth (omega arith)) (items_sound js inside.0 levels ts (omega arith) inside.1 s)
  value_sound (json.object ms) d levels ts h e s =
      let inside = mapped object (of_members ms no_members) d e in
      and_from _ _ (lt-ltb levels max_depth (omega arith)) (members_sound ms no_members inside.0 levels ts (omega arith) inside.1 s)
  value_sound j d levels ts h e s = s

  items_sound : (js : json.Items) (ds : Items) (levels : ℕ) (ts : List Token) → suc levels + items_depth js ≤ max_depth → of_items js ≡ Some ds → are_sound levels ts ≡ true
      → are_sound (suc levels) (items_tokens js ++ ts) ≡ true
  items_sound json.no_items ds levels ts h e s = up levels ts ∙ s
  items_sound (json.item j js) ds levels ts h e s =
      let first = chained (λ d. option_map (item d) (of_items js)) (of_json j) ds e in
      let more = mapped (item first.0) (of_items js) ds first.2 in
      ap (are_sound (suc levels)) (append_assoc (json_tokens j) (items_tokens js) ts)
      ∙ value_sound j first.0 (suc levels) (items_tokens js ++ ts) (omega arith) first.1 (items_sound js more.0 levels ts (omega arith) more.1 s)

  members_sound : (ms : json.Members) (found ds : Members) (levels : ℕ) (ts : List Token) → suc levels + members_depth ms ≤ max_depth → of_members ms found ≡ Some ds → are_sound levels ts ≡ true
      → are_sound (suc levels) (members_tokens ms ++ ts) ≡ true
  members_sound json.no_members found ds levels ts h e s = up levels ts ∙ s
  members_sound (json.member k j ms) found ds levels ts h e s =
      let first = chained (λ d. of_members ms (put k d found)) (of_json j) ds e in
      ap (are_sound (suc levels)) (append_assoc (json_tokens j) (members_tokens ms) ts)
      ∙ value_sound j first.0 (suc levels) (members_tokens ms ++ ts) (omega arith) first.1 (members_sound ms (put k first.0 found) ds levels ts (omega arith) first.2 s)

-- ---- a whole text

last : (o : Option (json.Json × List Token)) (j : json.Json) → option_and_then (λ p. json.if_last p.0 p.1) o ≡ Some j → o ≡ Some (j, [])
last (Some (i, [])) j e = ap (λ x. Some (x, [])) (Some_inj i j e)
last o j e = absurd cc

read_is : (text : List ℕ) (j : json.Json) → json.value max_depth (tokens text) ≡ Some (j, []) → read text ≡ of_json j
read_is text j e = ap (λ o. option_and_then of_json (option_and_then (λ p. json.if_last p.0 p.1) o)) e

-- the text of a sound value is read as what its tokens spell
pub text_read : (text : List ℕ) (j : json.Json) → json.document text ≡ Some j → are_sound 0 (tokens text) ≡ true → (d : Data) × (read text ≡ Some d) × Spells (tokens text) d
text_read text j e s =
    let begins = document-BeginsWith text j e in
    let all = last _ j e in
    let same : tokens text ≡ json_tokens j ++ [] = value-json_tokens_back json.max_depth (tokens text) [] j all in
    let sound = sound_value j 0 [] (omega arith) (ap (are_sound 0) (sym same) ∙ s) in
    let found : json.value max_depth (tokens text) ≡ Some (j, []) = ap (json.value max_depth) same ∙ value-json_tokens j max_depth [] (omega (arith, sound.0)) in
    (sound.2, read_is text j found ∙ sound.3, (j, begins, sound.3))

-- and what is read is a sound value's text
read_sound : (text : List ℕ) (d : Data) → read text ≡ Some d → (j : json.Json) × (json.document text ≡ Some j) × (are_sound 0 (tokens text) ≡ true)
read_sound text d e =
    let j = chained of_json _ d e in
    let all = last _ j.0 j.1 in
    let same : tokens text ≡ json_tokens j.0 ++ [] = value-json_tokens_back max_depth (tokens text) [] j.0 all in
    let deep = value-depth max_depth (tokens text) [] j.0 all in
    let found : json.value json.max_depth (tokens text) ≡ Some (j.0, []) = ap (json.value json.max_depth) same ∙ value-json_tokens j.0 json.max_depth [] (omega arith) in
    (j.0, ap (option_and_then (λ p. json.if_last p.0 p.1)) found, ap (are_sound 0) same ∙ value_sound j.0 d 0 [] (omega arith) j.2 refl)

nothing : (o : Option Data) → ((d : Data) → o ≡ Some d → ⊥) → o ≡ None
nothing None h = refl
nothing (Some d) h = absurd (h d refl)

pub text_refused : (text : List ℕ) → json.document text ≡ None → read text ≡ None
text_refused text e = nothing (read text) (λ d is. (let found = (read_sound text d is).1 in absurd cc))

pub text_unsound : (text : List ℕ) → are_sound 0 (tokens text) ≡ false → read text ≡ None
text_unsound text e = nothing (read text) (λ d is. (let sound = (read_sound text d is).2 in absurd cc))

held_when : (ts : List Token) (b : Bool) → are_sound 0 ts ≡ b → held ts ≡ (if b then Some (data_of ts) else None)
held_when ts b e = ap (λ sound. if sound then Some (data_of ts) else None) e

-- what a text's tokens hold is what the text is read as
pub held_is : (text : List ℕ) → is_some (json.document text) ≡ true → held (tokens text) ≡ read text
held_is text whole = by (are_sound 0 (tokens text)) refl
  where
    by : (b : Bool) → are_sound 0 (tokens text) ≡ b → held (tokens text) ≡ read text
    by true e =
        let j = there (json.document text) whole in
        let found = text_read text j.0 j.1 e in
        held_when (tokens text) true e ∙ ap Some (spelled_data (tokens text) found.0 found.2) ∙ sym found.1
    by false e = held_when (tokens text) false e ∙ sym (text_unsound text e)

-- a value whose tokens are sound is readable
pub sound_readable : (ts : List Token) → HasValue ts → are_sound 0 ts ≡ true → is_readable ts ≡ true
sound_readable ts (j, (n, rest, e)) s =
    let same : ts ≡ json_tokens j ++ rest = value-json_tokens_back n ts rest j e in
    let sound = sound_value j 0 rest (omega arith) (ap (are_sound 0) (sym same) ∙ s) in
    spelled_readable ts sound.2 (j, (n, rest, e), sound.3)
