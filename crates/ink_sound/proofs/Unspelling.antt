-- A JSON value that is read as a game is its spelling.
use Rattle.std.proofs.Common.{◌≡◌, ◌∙◌, ◌⊎◌, inl, inr, ap, sym, refl, subst, arith, ℕ, suc, ◌^◌, ℤ, pos, negsuc, List, [], ◌∷◌, map, reverse, codes, Bool, true, false, bytes_eq, nat_lt, ◌==◌, if◌then◌else◌, Option, Some, None, option_and_then}
use Rattle.ink_sound.proofs.Common.{cases_Bool, nat_tests, bytes_eq-Decides, of_integer, items_of, is_small, empty_page, value_data, Base, Function, Tunnel, Part, Index, Name, Value, option_map, option_or, Configuration, FlowOf, Spells}
use Rattle.std.proofs.lemmas.List.{reverse-reverse}
use Rattle.serde_json.specs.Data.{Num, unsigned, negative, Data, null, boolean, number, string, array, object, Items, no_items, item, Members, no_members, member}
use Rattle.ink_model.specs.Run.Flows.{Game, all_flows, alone, current_name, holes}
use Rattle.ink_model.specs.Flow.Frames.{FrameOf, ThreadOf, ThreadsOf}
use Rattle.ink_model.specs.Variables.Named.{Rows, at}
use Rattle.ink_model.specs.Story.Path.{path_text, read_path}
use Rattle.ink_model.specs.declared.value.Value.TheVariants as value
use Rattle.ink_model.specs.Save.Spelling.{choice_data, count_data, frame_data, global_data, kind_data, list_data, named_flow_data, old_spelling, part_data, place_data, place_or_null, row_data, spelling, temps_members, thread_data}
use Rattle.ink_model.specs.Save.Unspelled.{Layout, First, Second, Spelled, all_of, any_place_of, aside_but, choice_of, closed, count_of, format_of, frame_of, game_of, game_spelled, game_with, int_of, integer_of, kind_of, layout_by, list_of, named_flow_of, number_integer, pair_of, part_of, path_if, path_in, place_of, pointer_in, rows_of, small, spelled_by, tag_in, take, target_in, temps_of, text_of, thread_in, thread_with, threads_with, truth_of, unspelled, unspelled_by, value_of}
use Rattle.ink_sound.proofs.Named.{same_name}

-- ---- what was found

bind_some : {A B : Type 0} (o : Option A) (f : A → Option B) (y : B) → option_and_then f o ≡ Some y → (x : A) × (o ≡ Some x) × (f x ≡ Some y)
bind_some None f y e = absurd cc
bind_some (Some x) f y e = (x, refl, e)

map_some : {A B : Type 0} (o : Option A) (f : A → B) (y : B) → option_map f o ≡ Some y → (x : A) × (o ≡ Some x) × (f x ≡ y)
map_some None f y e = absurd cc
map_some (Some x) f y e = (x, refl, cc)

or_some : {A : Type 0} (o p : Option A) (y : A) → option_or o p ≡ Some y → (o ≡ Some y) ⊎ (p ≡ Some y)
or_some None p y e = inr e
or_some (Some x) p y e = inl e

if_some : {A : Type 0} (b : Bool) (x y : A) → (if b then Some x else None) ≡ Some y → (b ≡ true) × (x ≡ y)
if_some true x y e = (refl, cc)
if_some false x y e = absurd cc

-- what f reads is spelled by g
abbrev Reading : {A : Type 0} → (Data → Option A) → (A → Data) → Type 0
Reading {A} f g = (d : Data) (x : A) → f d ≡ Some x → d ≡ g x

-- the first member is taken, and this comes of it and the others
taken : {A B C : Type 0} (f : Data → Option A) (g : A → Data) (k : List ℕ) (so : A → Members → Option B) (ms : Members) (y : B) → Reading f g → take k f so ms ≡ Some y
    → ((x : A) (rest : Members) → ms ≡ member k (g x) rest → so x rest ≡ Some y → C) → C
taken f g k so no_members y h e on = absurd cc
taken {A} {B} {C} f g k so (member l d ms) y h e on = by (bytes_eq k l) refl e
  where
    by : (b : Bool) → bytes_eq k l ≡ b → option_and_then (λ (p : Data × Members). option_and_then (λ x. so x p.1) (f p.0)) (if b then Some (d, ms) else None) ≡ Some y → C
    by false is e = absurd cc
    by true is e =
        let found = bind_some (f d) (λ x. so x ms) y e in
        let reads : d ≡ g found.0 = h d found.0 found.1 in
        let keys : l ≡ k = sym ((bytes_eq-Decides k l).0 is) in
        on found.0 ms (λ i. member (keys i) (reads i) ms) found.2

-- a member that was taken, as it is spelled, and those behind it
behind : {k : List ℕ} {d : Data} {ms rest more : Members} → ms ≡ member k d rest → rest ≡ more → ms ≡ member k d more
behind {k} {d} is e = is ∙ ap (member k d) e

closed_some : {B : Type 0} (y z : B) (ms : Members) → closed y ms ≡ Some z → (ms ≡ no_members) × (y ≡ z)
closed_some y z no_members e = (refl, cc)
closed_some y z (member k d ms) e = absurd cc

-- ---- plain values

count_reading : Reading count_of count_data
count_reading (number (unsigned n)) x e = let same : n ≡ x = cc in ap count_data same
count_reading d x e = absurd cc

truth_reading : Reading truth_of boolean
truth_reading (boolean b) x e = let same : b ≡ x = cc in ap boolean same
truth_reading d x e = absurd cc

text_reading : Reading text_of string
text_reading (string t) x e = let same : t ≡ x = cc in ap string same
text_reading d x e = absurd cc

format_reading : (layout : ℕ) → Reading (format_of layout) (λ u. count_data layout)
format_reading layout (number (unsigned n)) x e = let same : n ≡ layout = grind (arith, nat_tests, (if_some (n == layout) tt x e).0) in ap count_data same
format_reading layout d x e = absurd cc

integer_reading : (n : Num) (z : ℤ) → integer_of n ≡ Some z → n ≡ of_integer z
integer_reading (unsigned n) z e = let same : pos n ≡ z = cc in ap of_integer same
integer_reading (negative (negsuc n)) z e = let same : negsuc n ≡ z = cc in ap of_integer same
integer_reading n z e = absurd cc

small_reading : (n : Num) (z : ℤ) → number_integer n ≡ Some z → n ≡ of_integer z
small_reading n z e =
    let found = bind_some (integer_of n) small z e in
    integer_reading n found.0 found.1 ∙ ap of_integer (if_some (is_small found.0) found.0 z found.2).1

int_reading : Reading int_of (λ z. number (of_integer z))
int_reading (number n) z e = ap number (small_reading n z e)
int_reading d z e = absurd cc

-- ---- lists

all_reading : {A : Type 0} (f : Data → Option A) (g : A → Data) → Reading f g → (ds : Items) (xs : List A) → all_of f ds ≡ Some xs → ds ≡ items_of (map g xs)
all_reading f g h no_items xs e = let same : [] ≡ xs = cc in ap (λ ys. items_of (map g ys)) same
all_reading f g h (item d ds) xs e =
    let first = bind_some (f d) (λ x. option_map (λ ys. x ∷ ys) (all_of f ds)) xs e in
    let rest = map_some (all_of f ds) (λ ys. first.0 ∷ ys) xs first.2 in
    (λ i. item (h d first.0 first.1 i) (all_reading f g h ds rest.0 rest.1 i)) ∙ ap (λ ys. items_of (map g ys)) rest.2

list_reading : {A : Type 0} (f : Data → Option A) (g : A → Data) → Reading f g → Reading (list_of f) (list_data g)
list_reading f g h (array ds) xs e = ap array (all_reading f g h ds xs e)
list_reading f g h d xs e = absurd cc

pair_reading : {A B : Type 0} (f : Data → Option A) (g : Data → Option B) (m : A → Data) (n : B → Data) → Reading f m → Reading g n
    → Reading (pair_of f g) (λ r. array (items_of (m r.0 ∷ n r.1 ∷ [])))
pair_reading f g m n h k (array (item d (item e no_items))) r is =
    let first = bind_some (f d) (λ x. option_map (λ y. (x, y)) (g e)) r is in
    let second = map_some (g e) (λ y. (first.0, y)) r first.2 in
    (λ i. array (item (h d first.0 first.1 i) (item (k e second.0 second.1 i) no_items))) ∙ ap (λ q. array (items_of (m q.0 ∷ n q.1 ∷ []))) second.2
pair_reading f g m n h k d r is = absurd cc

-- ---- values and places

path_reading : Reading path_in (λ p. string (path_text p))
path_reading (string t) p e =
    let found = bind_some (read_path t) (path_if t) p e in
    let same = if_some (bytes_eq (path_text found.0) t) found.0 p found.2 in
    ap string (sym ((bytes_eq-Decides (path_text found.0) t).0 same.0) ∙ ap path_text same.1)
path_reading d p e = absurd cc

target_reads : (ms : Members) (v : Value) → target_in ms ≡ Some v → object ms ≡ value_data v
target_reads ms v e =
    taken path_in (λ p. string (path_text p)) (codes "->") _ ms v path_reading e (λ p a is-a on-a.
    let z = closed_some (value.Target p) v a on-a in
    ap object (behind is-a z.0) ∙ ap value_data z.1)

pointer_reads : (ms : Members) (v : Value) → pointer_in ms ≡ Some v → object ms ≡ value_data v
pointer_reads ms v e =
    taken int_of (λ z. number (of_integer z)) (codes "ci") _ ms v int_reading e (λ n a is-a on-a.
    taken text_of string (codes "var") _ a v text_reading on-a (λ t b is-b on-b.
    let z = closed_some (value.Pointer n t) v b on-b in
    ap object (behind is-a (behind is-b z.0)) ∙ ap value_data z.1))

tag_reads : (ms : Members) (v : Value) → tag_in ms ≡ Some v → object ms ≡ value_data v
tag_reads ms v e =
    taken text_of string (codes "tag") _ ms v text_reading e (λ t a is-a on-a.
    let z = closed_some (value.Tag t) v a on-a in
    ap object (behind is-a z.0) ∙ ap value_data z.1)

value_reading : Reading value_of value_data
value_reading null v e = let same : value.Void ≡ v = cc in ap value_data same
value_reading (boolean b) v e = let same : value.Bool b ≡ v = cc in ap value_data same
value_reading (number n) v e =
    let found = map_some (number_integer n) (λ z. value.Int z) v e in
    ap number (small_reading n found.0 found.1) ∙ ap value_data found.2
value_reading (string t) v e = let same : value.Text t ≡ v = cc in ap value_data same
value_reading (array ds) v e = absurd cc
value_reading (object ms) v e =
    elim (or_some (target_in ms) (option_or (pointer_in ms) (tag_in ms)) v e) [
      | inl h ↦ target_reads ms v h
      | inr h ↦ elim (or_some (pointer_in ms) (tag_in ms) v h) [ inl k ↦ pointer_reads ms v k | inr k ↦ tag_reads ms v k ]
    ]

part_reading : Reading part_of part_data
part_reading (number (unsigned n)) p e = ap part_data (if_some (nat_lt n (2 ^ 32)) (Index n) p e).1
part_reading (string t) p e = let same : Name t ≡ p = cc in ap part_data same
part_reading d p e = absurd cc

place_reading : Reading place_of place_data
place_reading = list_reading part_of part_data part_reading

any_place_reading : Reading any_place_of place_or_null
any_place_reading null p e = let same : None ≡ p = cc in ap place_or_null same
any_place_reading (array ds) p e =
    let found = map_some (all_of part_of ds) (λ q. Some q) p e in
    ap array (all_reading part_of part_data part_reading ds found.0 found.1) ∙ ap place_or_null found.2
any_place_reading d p e = absurd cc

-- ---- frames

kind_reading : Reading kind_of kind_data
kind_reading (string t) k e = by (bytes_eq t (codes "base")) (bytes_eq t (codes "function")) (bytes_eq t (codes "tunnel")) refl refl refl e
  where
    by : (a b c : Bool) → bytes_eq t (codes "base") ≡ a → bytes_eq t (codes "function") ≡ b → bytes_eq t (codes "tunnel") ≡ c
        → (if a then Some Base else (if b then Some Function else (if c then Some Tunnel else None))) ≡ Some k → string t ≡ kind_data k
    by true b c x y z f = let same : Base ≡ k = cc in ap string ((bytes_eq-Decides t (codes "base")).0 x) ∙ ap kind_data same
    by false true c x y z f = let same : Function ≡ k = cc in ap string ((bytes_eq-Decides t (codes "function")).0 y) ∙ ap kind_data same
    by false false true x y z f = let same : Tunnel ≡ k = cc in ap string ((bytes_eq-Decides t (codes "tunnel")).0 z) ∙ ap kind_data same
    by false false false x y z f = absurd cc
kind_reading d k e = absurd cc

rows_reading : (ms : Members) (rs : List (List ℕ × Value)) → rows_of ms ≡ Some rs → ms ≡ temps_members rs
rows_reading no_members rs e = let same : [] ≡ rs = cc in ap temps_members same
rows_reading (member k d ms) rs e =
    let first = bind_some (value_of d) (λ v. option_map (λ qs. (k, v) ∷ qs) (rows_of ms)) rs e in
    let rest = map_some (rows_of ms) (λ qs. (k, first.0) ∷ qs) rs first.2 in
    (λ i. member k (value_reading d first.0 first.1 i) (rows_reading ms rest.0 rest.1 i)) ∙ ap temps_members rest.2

temps_reading : Reading temps_of (λ rs. object (temps_members rs))
temps_reading (object ms) rs e = ap object (rows_reading ms rs e)
temps_reading d rs e = absurd cc

frame_reading : Reading frame_of frame_data
frame_reading (object ms) f e =
    taken count_of count_data (codes "depth") _ ms f count_reading e (λ depth a is-a on-a.
    taken truth_of boolean (codes "eval") _ a f truth_reading on-a (λ eval b is-b on-b.
    taken truth_of boolean (codes "fresh") _ b f truth_reading on-b (λ fresh c is-c on-c.
    taken kind_of kind_data (codes "kind") _ c f kind_reading on-c (λ kind k is-k on-k.
    taken any_place_of place_or_null (codes "place") _ k f any_place_reading on-k (λ place p is-p on-p.
    taken temps_of (λ rs. object (temps_members rs)) (codes "temps") _ p f temps_reading on-p (λ temps t is-t on-t.
    let z = closed_some _ f t on-t in
    ap object (behind is-a (behind is-b (behind is-c (behind is-k (behind is-p (behind is-t z.0)))))) ∙ ap frame_data z.1))))))
frame_reading d f e = absurd cc

-- ---- threads

with_reads : (gs : List (FrameOf (List Part))) (p : Option (List Part)) (t : ThreadOf (List Part)) → thread_with gs p ≡ Some t → (gs ≡ t.frame ∷ t.below) × (p ≡ t.previous)
with_reads [] p t e = absurd cc
with_reads (f ∷ fs) p t e =
    let same : record { frame = f; below = fs; previous = p } ≡ t = cc in
    subst (λ w. (f ∷ fs ≡ w.frame ∷ w.below) × (p ≡ w.previous)) same (refl, refl)

turned : {A : Type 0} (xs ys : List A) → reverse xs ≡ ys → xs ≡ reverse ys
turned xs ys e = sym (reverse-reverse xs) ∙ ap reverse e

thread_reading : Reading thread_in thread_data
thread_reading (object ms) t e =
    taken (list_of frame_of) (list_data frame_data) (codes "frames") _ ms t (list_reading frame_of frame_data frame_reading) e (λ frames a is-a on-a.
    taken any_place_of place_or_null (codes "previous") _ a t any_place_reading on-a (λ previous b is-b on-b.
    let found = bind_some (thread_with (reverse frames) previous) (λ u. closed u b) t on-b in
    let z = closed_some found.0 t b found.2 in
    let w = with_reads (reverse frames) previous found.0 found.1 in
    let all : frames ≡ reverse (found.0.frame ∷ found.0.below) = turned frames (found.0.frame ∷ found.0.below) w.0 in
    ap object (behind (is-a ∙ ap (λ fs. member (codes "frames") (list_data frame_data fs) a) all) (behind (is-b ∙ ap (λ p. member (codes "previous") (place_or_null p) b) w.1) z.0)) ∙ ap thread_data z.1))
thread_reading d t e = absurd cc

-- ---- choices

choice_reading : Reading choice_of choice_data
choice_reading (object ms) x e =
    taken truth_of boolean (codes "hidden") _ ms x truth_reading e (λ hidden a is-a on-a.
    taken (list_of text_of) (list_data string) (codes "tags") _ a x (list_reading text_of string text_reading) on-a (λ tags b is-b on-b.
    taken place_of place_data (codes "target") _ b x place_reading on-b (λ target c is-c on-c.
    taken text_of string (codes "text") _ c x text_reading on-c (λ text t is-t on-t.
    taken thread_in thread_data (codes "thread") _ t x thread_reading on-t (λ thread u is-u on-u.
    let z = closed_some _ x u on-u in
    ap object (behind is-a (behind is-b (behind is-c (behind is-t (behind is-u z.0))))) ∙ ap choice_data z.1)))))
choice_reading d x e = absurd cc

-- ---- configurations

with_threads_reads : (us : List (ThreadOf (List Part))) (ts : ThreadsOf (List Part)) → threads_with us ≡ Some ts → us ≡ ts.thread ∷ ts.below
with_threads_reads [] ts e = absurd cc
with_threads_reads (u ∷ us) ts e =
    let same : record { thread = u; below = us } ≡ ts = cc in
    subst (λ q. u ∷ us ≡ q.thread ∷ q.below) same refl

rows_of_counts : Reading (list_of (pair_of place_of count_of)) (list_data row_data)
rows_of_counts = list_reading (pair_of place_of count_of) row_data (pair_reading place_of count_of place_data count_data place_reading count_reading)

globals_reading : Reading (list_of (pair_of text_of value_of)) (list_data global_data)
globals_reading = list_reading (pair_of text_of value_of) global_data (pair_reading text_of value_of string value_data text_reading value_reading)

-- layout 1
old_reads : (ms : Members) (x : Configuration) → unspelled_by ms ≡ Some x → object ms ≡ old_spelling x
old_reads ms x e =
    taken (list_of choice_of) (list_data choice_data) (codes "choices") _ ms x (list_reading choice_of choice_data choice_reading) e (λ choices a is-a on-a.
    taken (format_of 1) (λ u. count_data 1) (codes "format") _ a x (format_reading 1) on-a (λ format b is-b on-b.
    taken (list_of (pair_of text_of value_of)) (list_data global_data) (codes "globals") _ b x globals_reading on-b (λ globals g is-g on-g.
    taken truth_of boolean (codes "safe") _ g x truth_reading on-g (λ safe f is-f on-f.
    taken (list_of value_of) (list_data value_data) (codes "stack") _ f x (list_reading value_of value_data value_reading) on-f (λ stack s is-s on-s.
    taken (list_of thread_in) (list_data thread_data) (codes "threads") _ s x (list_reading thread_in thread_data thread_reading) on-s (λ threads t is-t on-t.
    taken count_of count_data (codes "turn") _ t x count_reading on-t (λ turn n is-n on-n.
    taken (list_of (pair_of place_of count_of)) (list_data row_data) (codes "turns") _ n x rows_of_counts on-n (λ turns m is-m on-m.
    taken (list_of (pair_of place_of count_of)) (list_data row_data) (codes "visits") _ m x rows_of_counts on-m (λ visits v is-v on-v.
    let found = bind_some (threads_with (reverse threads)) _ x on-v in
    let z = closed_some _ x v found.2 in
    let all : threads ≡ reverse (found.0.thread ∷ found.0.below) = turned threads (found.0.thread ∷ found.0.below) (with_threads_reads (reverse threads) found.0 found.1) in
    let stood = is-t ∙ ap (λ us. member (codes "threads") (list_data thread_data us) t) all in
    ap object (behind is-a (behind is-b (behind is-g (behind is-f (behind is-s (behind stood (behind is-n (behind is-m (behind is-v z.0))))))))) ∙ ap old_spelling z.1)))))))))

-- ---- flows

named_flow_reading : Reading named_flow_of named_flow_data
named_flow_reading (object ms) r e =
    taken (list_of choice_of) (list_data choice_data) (codes "choices") _ ms r (list_reading choice_of choice_data choice_reading) e (λ choices a is-a on-a.
    taken text_of string (codes "name") _ a r text_reading on-a (λ name n is-n on-n.
    taken truth_of boolean (codes "safe") _ n r truth_reading on-n (λ safe f is-f on-f.
    taken (list_of value_of) (list_data value_data) (codes "stack") _ f r (list_reading value_of value_data value_reading) on-f (λ stack s is-s on-s.
    taken (list_of thread_in) (list_data thread_data) (codes "threads") _ s r (list_reading thread_in thread_data thread_reading) on-s (λ threads t is-t on-t.
    let found = bind_some (threads_with (reverse threads)) _ r on-t in
    let z = closed_some _ r t found.2 in
    let all : threads ≡ reverse (found.0.thread ∷ found.0.below) = turned threads (found.0.thread ∷ found.0.below) (with_threads_reads (reverse threads) found.0 found.1) in
    let stood = is-t ∙ ap (λ us. member (codes "threads") (list_data thread_data us) t) all in
    ap object (behind is-a (behind is-n (behind is-f (behind is-s (behind stood z.0))))) ∙ ap named_flow_data z.1)))))
named_flow_reading d r e = absurd cc

-- ---- layout 2

abbrev spelled_data : Spelled → Data
spelled_data x = object
    (member (codes "current") (string x.current)
    (member (codes "flows") (list_data named_flow_data x.flows)
    (member (codes "format") (count_data 2)
    (member (codes "globals") (list_data global_data x.shared.globals)
    (member (codes "turn") (count_data x.shared.turn)
    (member (codes "turns") (list_data row_data x.shared.counts.turns)
    (member (codes "visits") (list_data row_data x.shared.counts.visits) no_members)))))))

spelled_reads : (ms : Members) (x : Spelled) → spelled_by ms ≡ Some x → object ms ≡ spelled_data x
spelled_reads ms x e =
    taken text_of string (codes "current") _ ms x text_reading e (λ current a is-a on-a.
    taken (list_of named_flow_of) (list_data named_flow_data) (codes "flows") _ a x (list_reading named_flow_of named_flow_data named_flow_reading) on-a (λ flows f is-f on-f.
    taken (format_of 2) (λ u. count_data 2) (codes "format") _ f x (format_reading 2) on-f (λ format b is-b on-b.
    taken (list_of (pair_of text_of value_of)) (list_data global_data) (codes "globals") _ b x globals_reading on-b (λ globals g is-g on-g.
    taken count_of count_data (codes "turn") _ g x count_reading on-g (λ turn n is-n on-n.
    taken (list_of (pair_of place_of count_of)) (list_data row_data) (codes "turns") _ n x rows_of_counts on-n (λ turns m is-m on-m.
    taken (list_of (pair_of place_of count_of)) (list_data row_data) (codes "visits") _ m x rows_of_counts on-m (λ visits v is-v on-v.
    let z = closed_some _ x v on-v in
    ap object (behind is-a (behind is-f (behind is-b (behind is-g (behind is-n (behind is-m (behind is-v z.0))))))) ∙ ap spelled_data z.1)))))))

-- the flows that were read, where the current one's name stands once among theirs
module _ (current : List ℕ) (f : FlowOf (List Part)) where
  none_current : (flows : Rows (FlowOf (List Part))) → holes (aside_but current flows) ≡ 0 → all_flows f (aside_but current flows) ≡ flows
  none_current [] h = refl
  none_current (r ∷ rows) h = elim (cases_Bool (bytes_eq current r.0)) [
    | inl e ↦ (let more : suc (holes (aside_but current rows)) ≡ 0 = rw e at h in absurd (omega arith))
    | inr e ↦ rw e (ap (λ l. r ∷ l) (none_current rows (rw e at h)))
  ]

  as_read : (flows : Rows (FlowOf (List Part))) → at current flows ≡ Some f → holes (aside_but current flows) ≡ 1
      → (current_name (aside_but current flows) ≡ current) × (all_flows f (aside_but current flows) ≡ flows)
  as_read [] e h = absurd cc
  as_read (r ∷ rows) e h = elim (cases_Bool (bytes_eq current r.0)) [
    | inl is ↦
        let found : Some r.1 ≡ Some f = rw is at e in
        let same : f ≡ r.1 = cc in
        let one : suc (holes (aside_but current rows)) ≡ 1 = rw is at h in
        rw is (sym (same_name current r.0 is), (λ i. (r.0, same i) ∷ none_current rows (omega arith) i))
    | inr is ↦ (let y = as_read rows (rw is at e) (rw is at h) in rw is (y.0, ap (λ l. r ∷ l) y.1))
  ]

game_reads : (x : Spelled) (g : Game) → game_spelled x ≡ Some g → holes g.aside ≡ 1 → spelled_data x ≡ spelling g
game_reads x g e h = (elim (at x.current x.flows) as (λ o. at x.current x.flows ≡ o → game_with x o ≡ Some g → spelled_data x ≡ spelling g) [
  | None ↦ λ is k. absurd cc
  | Some f ↦ λ is k.
      let made : Game = record { now = record { flow = f; shared = x.shared; page = empty_page }; aside = aside_but x.current x.flows } in
      let same : made ≡ g = cc in
      let read = as_read x.current f x.flows is (ap (λ (m : Game). holes m.aside) same ∙ h) in
      (λ i. spelled_data (record { current = sym read.0 i; flows = sym read.1 i; shared = x.shared })) ∙ ap spelling same
]) refl e

-- ---- either layout

first_reads : (ms : Members) (l : Layout) (g : Game) → option_map First (unspelled_by ms) ≡ Some l → game_of l ≡ Some g → Spells (object ms) g
first_reads ms l g e k =
    let found = map_some (unspelled_by ms) First l e in
    let read : Some (alone found.0) ≡ Some g = ap game_of found.2 ∙ k in
    let same : alone found.0 ≡ g = cc in
    inr (old_reads ms found.0 found.1 ∙ ap (λ (m : Game). old_spelling m.now) same, sym (ap (λ (m : Game). m.aside) same))

second_reads : (ms : Members) (l : Layout) (g : Game) → option_map Second (spelled_by ms) ≡ Some l → game_of l ≡ Some g → holes g.aside ≡ 1 → Spells (object ms) g
second_reads ms l g e k h =
    let found = map_some (spelled_by ms) Second l e in
    inl (spelled_reads ms found.0 found.1 ∙ game_reads found.0 g (ap game_of found.2 ∙ k) h)

pub unspelled_reads : (j : Data) (g : Game) → unspelled j ≡ Some g → holes g.aside ≡ 1 → Spells j g
unspelled_reads (object ms) g e h =
    let found = bind_some (layout_by ms) game_of g e in
    elim (or_some (option_map Second (spelled_by ms)) (option_map First (unspelled_by ms)) found.0 found.1) [
      | inl k ↦ second_reads ms found.0 g k found.2 h
      | inr k ↦ first_reads ms found.0 g k found.2
    ]
unspelled_reads j g e h = absurd cc
