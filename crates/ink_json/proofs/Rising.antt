-- The keys of a story that bytes spell rise, since those of each object that is read do.
use Rattle.std.proofs.Common.{◌≡◌, ℕ, List, Bool, true, false, codes, Option, Some, None, IfSome, option_map, option_and_then, Ok, Ordering, Less, Equal, Greater, nat_cmp, is_lt, refl, sym, ap, subst, ◌∙◌}
use Rattle.std.proofs.lemmas.Bool.{and_from, cond_both}
use Rattle.std.proofs.lemmas.Cmp.{nat_list_cmp_total}
use Rattle.std.specs.Prelude.{⊤}
use Rattle.ink_json.proofs.Common.{slice_cmp, StoryTree, is_own, tree_of, content_of, keyed_in, keyed_last, keyed_by, story, InkVersion}
use Rattle.std.specs.Ordering.{match_ordering, ordering_reverse}
use Rattle.json.specs.Lex.{tokens}
use Rattle.json.specs.Json as json
use Rattle.serde_json.specs.Data.{Data, null, boolean, number, string, array, object, Items, no_items, item, Members, no_members, member, put}
use Rattle.serde_json.specs.Find.{get, get_member}
use Rattle.serde_json.specs.Read.{number_of, of_json, of_items, of_members, max_depth, read}
use Rattle.json_tape.proofs.Spelled.{chained}
use Rattle.ink_json.specs.Order.{is_below, keys_rise, keys_rise_in, keys_rise_by_key}
use Rattle.ink_json.proofs.Root.{Root, story_root}

-- ---- data

-- a key comes before all of these
abbrev Below : List ℕ → Members → Type 0
Below k no_members = ⊤
Below k (member l d ms) = (slice_cmp nat_cmp k l ≡ Less) × Below k ms

-- in every object the keys rise by their bytes
abbrev mutual
  Rises : Data → Type 0
  Rises null = ⊤
  Rises (boolean b) = ⊤
  Rises (number n) = ⊤
  Rises (string s) = ⊤
  Rises (array ds) = RisesIn ds
  Rises (object ms) = RisesByKey ms

  RisesIn : Items → Type 0
  RisesIn no_items = ⊤
  RisesIn (item d ds) = Rises d × RisesIn ds

  RisesByKey : Members → Type 0
  RisesByKey no_members = ⊤
  RisesByKey (member k d ms) = Below k ms × Rises d × RisesByKey ms

-- what holds whichever of two keys comes first
either_way : {A : Type 0} (P : A → Type 0) (o : Ordering) (a b c : A) → (o ≡ Less → P a) → (o ≡ Equal → P b) → (o ≡ Greater → P c) → P (match_ordering o a b c)
either_way P Less a b c p q r = p refl
either_way P Equal a b c p q r = q refl
either_way P Greater a b c p q r = r refl

-- of two keys one comes first
after : (k l : List ℕ) → slice_cmp nat_cmp k l ≡ Greater → slice_cmp nat_cmp l k ≡ Less
after k l e = nat_list_cmp_total.antisymm l k ∙ ap ordering_reverse e

-- what comes before a key comes before those after it
below_more : (k l : List ℕ) (ms : Members) → slice_cmp nat_cmp k l ≡ Less → Below l ms → Below k ms
below_more k l no_members e h = tt
below_more k l (member m d ms) e h = (nat_list_cmp_total.trans k l m e h.0, below_more k l ms e h.1)

-- a key comes before members of which one is put in, if it comes before that one
below_put : (k l : List ℕ) (d : Data) (ms : Members) → slice_cmp nat_cmp k l ≡ Less → Below k ms → Below k (put l d ms)
below_put k l d no_members e h = (e, tt)
below_put k l d (member m c ms) e h =
    either_way (Below k) (slice_cmp nat_cmp l m) _ _ _ (λ _. (e, h)) (λ _. h) (λ _. (h.0, below_put k l d ms e h.1))

-- a member that is put goes where its key belongs
put_rises : (k : List ℕ) (d : Data) (ms : Members) → Rises d → RisesByKey ms → RisesByKey (put k d ms)
put_rises k d no_members r h = (tt, r, tt)
put_rises k d (member l c ms) r h =
    either_way RisesByKey (slice_cmp nat_cmp k l) (member k d (member l c ms)) (member l d ms) (member l c (put k d ms))
    (λ e. ((e, below_more k l ms e h.0), r, h)) (λ _. (h.0, r, h.2)) (λ e. (below_put l k d ms (after k l e) h.0, h.1, put_rises k d ms r h.2))

-- ---- what is read

-- what holds of what an option holds, under f
mapped : {A B : Type 0} (P : A → Type 0) (Q : B → Type 0) (f : A → B) → ((a : A) → P a → Q (f a)) → (o : Option A) → IfSome o P → IfSome (option_map f o) Q
mapped P Q f k None h = tt
mapped P Q f k (Some a) h = k a h

and_then : {A B : Type 0} (P : A → Type 0) (Q : B → Type 0) (f : A → Option B) → ((a : A) → P a → IfSome (f a) Q) → (o : Option A) → IfSome o P → IfSome (option_and_then f o) Q
and_then P Q f k None h = tt
and_then P Q f k (Some a) h = k a h

any : {A : Type 0} (o : Option A) → IfSome o (λ _. ⊤)
any None = tt
any (Some a) = tt

mutual
  -- members are put in one after another
  json_rises : (j : json.Json) → IfSome (of_json j) Rises
  json_rises json.null = tt
  json_rises (json.boolean b) = tt
  json_rises (json.number s) = mapped (λ _. ⊤) Rises number (λ n h. tt) (number_of s) (any _)
  json_rises (json.string s) = tt
  json_rises (json.array js) = mapped RisesIn Rises array (λ ds h. h) (of_items js) (items_rise js)
  json_rises (json.object ms) = mapped RisesByKey Rises object (λ ds h. h) (of_members ms no_members) (members_rise ms no_members tt)

  items_rise : (js : json.Items) → IfSome (of_items js) RisesIn
  items_rise json.no_items = tt
  items_rise (json.item j js) = and_then Rises RisesIn _ (λ d r. mapped RisesIn RisesIn (item d) (λ ds h. (r, h)) (of_items js) (items_rise js)) (of_json j) (json_rises j)

  members_rise : (ms : json.Members) (found : Members) → RisesByKey found → IfSome (of_members ms found) RisesByKey
  members_rise json.no_members found h = h
  members_rise (json.member k j ms) found h = and_then Rises RisesByKey _ (λ d r. members_rise ms (put k d found) (put_rises k d found r h)) (of_json j) (json_rises j)

-- all that is read rises
read_rises : (text : List ℕ) (d : Data) → read text ≡ Some d → Rises d
read_rises text d e =
    let j = chained of_json (option_and_then (λ p. json.if_last p.0 p.1) (json.value max_depth (tokens text))) d e in
    subst (λ o. IfSome o Rises) j.2 (json_rises j.0)

-- ---- what is found in it

-- a member of what rises rises
member_rises : (k : List ℕ) (ms : Members) → RisesByKey ms → IfSome (get_member k ms) Rises
member_rises k no_members h = tt
member_rises k (member l d ms) h =
    either_way (λ o. IfSome o Rises) (slice_cmp nat_cmp k l) _ _ _ (λ _. member_rises k ms h.2) (λ _. h.1) (λ _. member_rises k ms h.2)

get_rises : (k : List ℕ) (d : Data) → Rises d → IfSome (get k d) Rises
get_rises k null h = tt
get_rises k (boolean b) h = tt
get_rises k (number n) h = tt
get_rises k (string s) h = tt
get_rises k (array ds) h = tt
get_rises k (object ms) h = member_rises k ms h

-- so does the root of a story, a member of it
root_rises : (t : StoryTree) (r : Root t) → Rises r.root
root_rises t r = subst (λ o. IfSome o Rises) r.is_root (get_rises (codes "root") r.whole (read_rises r.text r.whole r.is_read))

-- ---- trees

-- the containers by key keep the order of the members
keyed_below : (version : InkVersion) (k : List ℕ) (ms : Members) → Below k ms → is_below k (keyed_by version ms) ≡ true
keyed_below version k no_members h = refl
keyed_below version k (member l d ms) h =
    let rest = keyed_below version k ms h.1 in
    cond_both (is_own l) _ _ (λ ks. is_below k ks ≡ true) (λ _. rest) (λ _. and_from _ _ (ap is_lt h.0) rest)

mutual
  -- in the tree of data whose keys rise they do too
  tree_rises : (version : InkVersion) (listed : Bool) (d : Data) → Rises d → keys_rise (tree_of version listed d) ≡ true
  tree_rises version listed null h = refl
  tree_rises version listed (boolean b) h = refl
  tree_rises version listed (number n) h = refl
  tree_rises version listed (string s) h = refl
  tree_rises version listed (object ms) h = refl
  tree_rises version listed (array ds) h = and_from (keys_rise_in (content_of version ds)) (keys_rise_by_key (keyed_in version ds)) (content_rises version ds h) (keyed_in_rises version ds h)

  content_rises : (version : InkVersion) (ds : Items) → RisesIn ds → keys_rise_in (content_of version ds) ≡ true
  content_rises version no_items h = refl
  content_rises version (item d no_items) h = refl
  content_rises version (item d (item e ds)) h = and_from _ _ (tree_rises version true d h.0) (content_rises version (item e ds) h.1)

  keyed_in_rises : (version : InkVersion) (ds : Items) → RisesIn ds → keys_rise_by_key (keyed_in version ds) ≡ true
  keyed_in_rises version no_items h = refl
  keyed_in_rises version (item d no_items) h = keyed_last_rises version d h.0
  keyed_in_rises version (item d (item e ds)) h = keyed_in_rises version (item e ds) h.1

  keyed_last_rises : (version : InkVersion) (d : Data) → Rises d → keys_rise_by_key (keyed_last version d) ≡ true
  keyed_last_rises version null h = refl
  keyed_last_rises version (boolean b) h = refl
  keyed_last_rises version (number n) h = refl
  keyed_last_rises version (string s) h = refl
  keyed_last_rises version (array ds) h = refl
  keyed_last_rises version (object ms) h = keyed_by_rises version ms h

  keyed_by_rises : (version : InkVersion) (ms : Members) → RisesByKey ms → keys_rise_by_key (keyed_by version ms) ≡ true
  keyed_by_rises version no_members h = refl
  keyed_by_rises version (member k d ms) h =
      let rest = keyed_by_rises version ms h.2 in
      cond_both (is_own k) _ _ (λ ks. keys_rise_by_key ks ≡ true) (λ _. rest) (λ _. and_from _ _ (keyed_below version k ms h.0) (and_from _ _ (tree_rises version false d h.1) rest))

-- ---- the file

pub story_rises : (bytes : List ℕ) (t : StoryTree) → story bytes ≡ Ok t → keys_rise t ≡ true
story_rises bytes t e =
    let r = story_root bytes t e in
    ap keys_rise (sym r.is_tree) ∙ tree_rises r.version false r.root (root_rises t r)
