-- Reading content element by element and key by key, beside its faults and its tree.
use Rattle.std.proofs.Common.{◌≡◌, ℕ, ◌+◌, ◌≤◌, List, [], ◌∷◌, ◌++◌, map, Bool, true, false, not, ◌&&◌, ◌||◌, cond, Option, Some, None, Ok, Err, refl, sym, ap, ◌∙◌, append_assoc, arith}
use Rattle.ink_json.proofs.Common.{Data, null, boolean, number, string, array, object, Items, no_items, item, Members, no_members, member, size, items_size, InkVersion, ReadRefusal, Part, Index, Name}
use Rattle.json_tape.specs.Other.{has_other}
use Rattle.json_tape.specs.Value.{json_data, members_of, Entry, members_data}
use Rattle.json_tape.proofs.Conditions.{both, neither}
use Rattle.ink_model.specs.Story.Leaves.{string_leaf}
use Rattle.ink_model.specs.Story.Tree.{StoryTree, leaf, container, Keyed, no_keys}
use Rattle.ink_model.specs.declared.content.Leaf.{Leaf}
use Rattle.ink_model.specs.declared.limits.TheConstants.{MAX_NESTING}
use Rattle.ink_model.specs.Story.Grammar.{here, under, first, own, own_after, is_empty, is_last, are_flags, member_of, name_key, flags_key, flags_of, name_in, name_of, is_misnamed, is_taken, with_name, is_own, content, faults, faults_inside, faults_keyed, faults_by, tree_of, content_of, keyed_in, keyed_last, keyed_by}
use Rattle.ink_model.specs.declared.fault.Cause.TheVariants.{Shape}
use Rattle.ink_model.specs.declared.fault.Failure.{Failure}
use Rattle.ink_model.specs.declared.fault.Failure.TheVariants.{OutOfMemory, Refused}
use Rattle.ink_json.specs.Reading.{takes_memory, Fails, IsFirst, is_whole, faults_named}
use Rattle.ink_json.proofs.Conditions.{not_above}

-- ---- sizes

pub last_within : (d last : Data) (ds : Items) → own_after d ds ≡ last → size last ≤ items_size (item d ds)
last_within d last no_items e = omega (arith, ap size e)
last_within d last (item f ds) e = omega (arith, last_within f last ds e)

-- ---- lists of faults

pub first_ok : {A : Type 0} (fs : List ReadRefusal) (a b : A) → first fs a ≡ Ok b → (fs ≡ []) × (a ≡ b)
first_ok [] a b e = (refl, cc)
first_ok (f ∷ fs) a b e = absurd cc

-- an error of the front is one of the whole
pub fails_first : {A : Type 0} (e : Failure ReadRefusal) (fs more : List ReadRefusal) (a : A) → Fails e (first fs a) → IsFirst e (fs ++ more)
fails_first OutOfMemory fs more a h = tt
fails_first (Refused r) [] more a h = absurd cc
fails_first (Refused r) (f ∷ fs) more a h = cc

pub fails_more : {A B : Type 0} (e : Failure ReadRefusal) (fs more : List ReadRefusal) (a : A) (b : B) → takes_memory (first more b) ≡ true → Fails e (first fs a) → Fails e (first (fs ++ more) b)
fails_more OutOfMemory [] more a b m h = m
fails_more OutOfMemory (f ∷ fs) more a b m h = h
fails_more (Refused r) [] more a b m h = absurd cc
fails_more (Refused r) (f ∷ fs) more a b m h = cc

pub first_fails : {A : Type 0} (e : Failure ReadRefusal) (fs : List ReadRefusal) (a : A) → takes_memory (first fs a) ≡ true → IsFirst e fs → Fails e (first fs a)
first_fails OutOfMemory fs a m h = m
first_fails (Refused r) [] a m h = absurd h
first_fails (Refused r) (f ∷ fs) a m h = ap Err h

-- what is wrong below, and what follows it, takes memory for its place
below_takes : {A : Type 0} (p : Part) (fs more : List ReadRefusal) (a : A) → takes_memory (first more a) ≡ true → takes_memory (first (map (under p) fs ++ more) a) ≡ true
below_takes p [] more a h = h
below_takes p (f ∷ fs) more a h = refl

unless_takes : {A : Type 0} (b : Bool) (fs gs : List ReadRefusal) (a : A) → takes_memory (first fs a) ≡ true → takes_memory (first gs a) ≡ true → takes_memory (first (cond b fs gs) a) ≡ true
unless_takes true fs gs a h k = h
unless_takes false fs gs a h k = k

pub by_takes : {A : Type 0} (version : InkVersion) (nesting : ℕ) (taken : List (List ℕ)) (ms : Members) (a : A) → takes_memory (first (faults_by version nesting taken ms) a) ≡ true
by_takes version nesting taken no_members a = refl
by_takes version nesting taken (member k d ms) a =
    let rest = by_takes version nesting taken ms a in
    unless_takes (is_own k) _ _ a rest (below_takes (Name k) _ _ a rest)

pub keyed_takes : {A : Type 0} (version : InkVersion) (nesting : ℕ) (taken : List (List ℕ)) (d : Data) (a : A) → takes_memory (first (faults_keyed version nesting taken d) a) ≡ true
keyed_takes version nesting taken null a = refl
keyed_takes version nesting taken (boolean b) a = refl
keyed_takes version nesting taken (number n) a = refl
keyed_takes version nesting taken (string s) a = refl
keyed_takes version nesting taken (array ds) a = refl
keyed_takes version nesting taken (object ms) a = by_takes version nesting taken ms a

-- nothing that is wrong inside a container is wrong at its very place
pub inside_takes : {A : Type 0} (version : InkVersion) (nesting i : ℕ) (taken : List (List ℕ)) (ds : Items) (a : A) → takes_memory (first (faults_inside version nesting i taken ds) a) ≡ true
inside_takes version nesting i taken no_items a = refl
inside_takes version nesting i taken (item d ds) a =
    unless_takes (is_empty ds) _ _ a (keyed_takes version nesting taken d a) (below_takes (Index i) _ _ a (inside_takes version nesting (i + 1) (with_name taken (name_of d)) ds a))

-- ---- a container's own object

faults_are_inside : (version : InkVersion) (nesting : ℕ) (misnamed : Bool) (ds : Items) → nesting ≤ MAX_NESTING → is_whole (own ds) ≡ true → misnamed ≡ false
    → faults version nesting misnamed (array ds) ≡ faults_inside version nesting 0 [] ds
faults_are_inside version nesting misnamed ds h w m =
    let deep = not_above MAX_NESTING nesting h in
    let two = both (is_last (own ds)) (are_flags (member_of flags_key (own ds))) w in
    let last = two.0 in
    let flags = two.1 in
    rw (deep, last, flags, m) refl

-- a container is refused whose own object is no such, or which has a name that may not stand there
unsound : (a b m : Bool) → a && b ≡ false → not a || (not b || m) ≡ true
unsound false b m h = refl
unsound true false m h = refl
unsound true true m h = absurd cc

unfit : (a b : Bool) → not a || (not b || true) ≡ true
unfit false b = refl
unfit true false = refl
unfit true true = refl

module _ (version : InkVersion) (nesting : ℕ) (misnamed listed : Bool) (ds : Items) (h : nesting ≤ MAX_NESTING) where
  pub container_unsound : is_whole (own ds) ≡ false → content version nesting misnamed listed (array ds) ≡ Err (here Shape)
  container_unsound w =
      let deep = not_above MAX_NESTING nesting h in
      let wrong = unsound (is_last (own ds)) (are_flags (member_of flags_key (own ds))) misnamed w in
      rw (deep, wrong) refl

  pub container_misnamed : misnamed ≡ true → content version nesting misnamed listed (array ds) ≡ Err (here Shape)
  container_misnamed m =
      let deep = not_above MAX_NESTING nesting h in
      let wrong = unfit (is_last (own ds)) (are_flags (member_of flags_key (own ds))) in
      rw (m, deep, wrong) refl

-- a container whose own object is good takes memory, whatever is wrong inside
pub container_takes : (version : InkVersion) (nesting : ℕ) (misnamed listed : Bool) (ds : Items) → nesting ≤ MAX_NESTING → is_whole (own ds) ≡ true → misnamed ≡ false → takes_memory (content version nesting misnamed listed (array ds)) ≡ true
container_takes version nesting misnamed listed ds h w m =
    rw (faults_are_inside version nesting misnamed ds h w m) (inside_takes version nesting 0 [] ds (tree_of version listed (array ds)))

-- a container stops at the first fault among its elements
pub container_stops : (version : InkVersion) (nesting : ℕ) (misnamed listed : Bool) (ds : Items) (e : Failure ReadRefusal) → nesting ≤ MAX_NESTING → is_whole (own ds) ≡ true → misnamed ≡ false
    → IsFirst e (faults_inside version nesting 0 [] ds) → Fails e (content version nesting misnamed listed (array ds))
container_stops version nesting misnamed listed ds e h w m stops =
    rw (faults_are_inside version nesting misnamed ds h w m) (first_fails e (faults_inside version nesting 0 [] ds) (tree_of version listed (array ds)) (inside_takes version nesting 0 [] ds _) stops)

-- and is read where there is none
pub container_read : (version : InkVersion) (nesting : ℕ) (misnamed listed : Bool) (ds : Items) (name : Option (List ℕ)) (flags : ℕ) → nesting ≤ MAX_NESTING → is_whole (own ds) ≡ true → misnamed ≡ false
    → faults_inside version nesting 0 [] ds ≡ [] → name ≡ cond listed (name_in (own ds)) None → flags ≡ flags_of (own ds)
    → content version nesting misnamed listed (array ds) ≡ Ok (container name flags (content_of version ds) (keyed_in version ds))
container_read version nesting misnamed listed ds name flags h w m good n f =
    let none : faults version nesting misnamed (array ds) ≡ [] = faults_are_inside version nesting misnamed ds h w m ∙ good in
    ap (λ fs. first fs (tree_of version listed (array ds))) none ∙ rw (n, f) refl

-- ---- the elements

module _ (version : InkVersion) (nesting i : ℕ) (d e : Data) (ds : Items) (taken : List (List ℕ)) (all : List ReadRefusal) (same : all ≡ faults_inside version nesting i taken (item d (item e ds))) where
  -- one element more
  pub element_goes : (read : StoryTree) → first (map (under (Index i)) (faults version (nesting + 1) (is_misnamed taken d) d)) (tree_of version true d) ≡ Ok read
      → (all ≡ faults_inside version nesting (i + 1) (with_name taken (name_of d)) (item e ds)) × (tree_of version true d ≡ read)
  element_goes read given =
      let k = first_ok _ (tree_of version true d) read given in
      (same ∙ ap (λ fs. fs ++ faults_inside version nesting (i + 1) (with_name taken (name_of d)) (item e ds)) k.0, k.1)

  pub element_stops : (error : Failure ReadRefusal) → Fails error (first (map (under (Index i)) (faults version (nesting + 1) (is_misnamed taken d) d)) (tree_of version true d)) → IsFirst error all
  element_stops error given = rw same (fails_first error _ _ (tree_of version true d) given)

-- a word is the leaf that it stands for
pub word_read : (version : InkVersion) (nesting i : ℕ) (misnamed : Bool) (d : Data) (text : List ℕ) (l : Leaf) → d ≡ string text → string_leaf text ≡ Ok l
    → first (map (under (Index i)) (faults version nesting misnamed d)) (tree_of version true d) ≡ Ok (leaf l)
word_read version nesting i misnamed d text l is read = rw (is, read) refl

-- and gives no name
pub word_names : (d : Data) (text : List ℕ) (taken : List (List ℕ)) → d ≡ string text → with_name taken (name_of d) ≡ taken
word_names d text taken is = rw is refl

-- ---- the containers by key

keyed_in_last : (version : InkVersion) (d : Data) (ds : Items) → keyed_in version (item d ds) ≡ keyed_last version (own_after d ds)
keyed_in_last version d no_items = refl
keyed_in_last version d (item e ds) = keyed_in_last version e ds

pub keyed_is : (version : InkVersion) (d last : Data) (ds : Items) → own_after d ds ≡ last → keyed_in version (item d ds) ≡ keyed_last version last
keyed_is version d last ds e = keyed_in_last version d ds ∙ ap (keyed_last version) e

-- what is no object gives none
pub keyed_members : (version : InkVersion) (nesting : ℕ) (taken : List (List ℕ)) (d : Data) → (faults_keyed version nesting taken d ≡ faults_by version nesting taken (members_of d)) × (keyed_last version d ≡ keyed_by version (members_of d))
keyed_members version nesting taken null = (refl, refl)
keyed_members version nesting taken (boolean b) = (refl, refl)
keyed_members version nesting taken (number n) = (refl, refl)
keyed_members version nesting taken (string s) = (refl, refl)
keyed_members version nesting taken (array ds) = (refl, refl)
keyed_members version nesting taken (object ms) = (refl, refl)

-- nor does an object that has nothing but keys of its own
pub own_only : (version : InkVersion) (nesting : ℕ) (taken : List (List ℕ)) (ms : Members) → has_other name_key flags_key ms ≡ false → (faults_by version nesting taken ms ≡ []) × (keyed_by version ms ≡ no_keys)
own_only version nesting taken no_members e = (refl, refl)
own_only version nesting taken (member k d ms) e =
    let two = neither (not (is_own k)) (has_other name_key flags_key ms) e in
    let own : is_own k ≡ true = grind (arith, two.0) in
    rw own (own_only version nesting taken ms two.1)

-- one key more
module _ (version : InkVersion) (nesting : ℕ) (e : Entry) (more : List Entry) (name : List ℕ) (misnamed : Bool) (is : name ≡ e.0.now) (named : is_own name ≡ false) where
  key_faults : (taken : List (List ℕ)) → misnamed ≡ is_taken taken (Some name)
      → faults_by version nesting taken (members_data (e ∷ more)) ≡ map (under (Name name)) (faults_named version (nesting + 1) misnamed (json_data e.1)) ++ faults_by version nesting taken (members_data more)
  key_faults taken given = let own : is_own e.0.now ≡ false = ap is_own (sym is) ∙ named in rw (own, given, is) refl

  pub key_stops : (error : Failure ReadRefusal) (whole : Keyed) (taken : List (List ℕ)) (all : List ReadRefusal) → misnamed ≡ is_taken taken (Some name) → all ≡ faults_by version nesting taken (members_data (e ∷ more))
      → Fails error (first (map (under (Name name)) (faults_named version (nesting + 1) misnamed (json_data e.1))) (tree_of version false (json_data e.1))) → Fails error (first all whole)
  key_stops error whole taken all given same stops =
      rw (same, key_faults taken given) (fails_more error _ _ (tree_of version false (json_data e.1)) whole (by_takes version nesting taken (members_data more) whole) stops)

  module _ (read : StoryTree) (good : first (map (under (Name name)) (faults_named version (nesting + 1) misnamed (json_data e.1))) (tree_of version false (json_data e.1)) ≡ Ok read) where
    pub key_goes : (taken : List (List ℕ)) (all : List ReadRefusal) → misnamed ≡ is_taken taken (Some name) → all ≡ faults_by version nesting taken (members_data (e ∷ more)) → all ≡ faults_by version nesting taken (members_data more)
    key_goes taken all given same =
        let none = (first_ok _ (tree_of version false (json_data e.1)) read good).0 in
        same ∙ key_faults taken given ∙ ap (λ fs. fs ++ faults_by version nesting taken (members_data more)) none

pub own_key_faults : (version : InkVersion) (nesting : ℕ) (taken : List (List ℕ)) (e : Entry) (more : List Entry) (name : List ℕ) → name ≡ e.0.now → is_own name ≡ true → faults_by version nesting taken (members_data (e ∷ more)) ≡ faults_by version nesting taken (members_data more)
own_key_faults version nesting taken e more name is own = let h : is_own e.0.now ≡ true = ap is_own (sym is) ∙ own in rw h refl

-- the next key
pub next_key : (all done rest : List Entry) (e : Entry) (more : List Entry) → all ≡ done ++ rest → rest ≡ e ∷ more → all ≡ done ++ e ∷ more
next_key all done rest e more split steps = split ∙ ap (λ es. done ++ es) steps

pub after_key : (all done : List Entry) (e : Entry) (more : List Entry) → all ≡ done ++ e ∷ more → all ≡ (done ++ e ∷ []) ++ more
after_key all done e more split = split ∙ sym (append_assoc done (e ∷ []) more)
