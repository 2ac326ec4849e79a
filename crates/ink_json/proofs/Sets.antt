-- A name added to a set of names.
use Rattle.std.proofs.Common.{◌≡◌, ℕ, ◌+◌, ◌*◌, ◌%◌, ◌^◌, ◌<◌, ◌≤◌, drop, get_or, length, List, [], ◌∷◌, ◌++◌, Bool, true, false, ◌||◌, not, Some, bytes_eq, Ordering, Less, Equal, Greater, is_eq, nat_cmp, Bor, refl, sym, ap, ap₂, ◌∙◌}
use Rattle.std.proofs.lemmas.List.{drop_all, drop_more}
use Rattle.std.proofs.lemmas.Map.Lookups.{exact_unsigned}
use Rattle.std.proofs.lemmas.Map.Text.{is_eq-slice_cmp}
use Rattle.std.proofs.lemmas.Slice.Eq.{bytes_eq-Decides}
use Rattle.std.specs.BTreeMap.{is_at}
use Rattle.std.specs.Cmp.{nat_cmp_is}
use Rattle.std.specs.BTreeSet.{contains_by, insert_key}
use Rattle.std.specs.Cmp.Lexicographic.{slice_cmp}
use Rattle.std.specs.List.{list_any}
use Rattle.std.specs.Ordering.{match_ordering, ordering_then}
use Rattle.ink_model.specs.Story.Grammar.{is_taken}
use Rattle.ink_json.specs.Reading.{Holds, ending, name_order, number_before}
use Rattle.ink_json.specs.declared.names.Given.{Given}

abbrev Name : Type 0
Name = ℕ × Bor (List ℕ)

-- whether a name is among these
abbrev among : Bor (List ℕ) → List Name → Bool
among q = list_any (is_at (name_order (ending q.now, q)))

or_assoc : (a b c : Bool) → (a || (b || c)) ≡ ((a || b) || c)
or_assoc true b c = refl
or_assoc false b c = refl

or_swap : (a b : Bool) → (a || b) ≡ (b || a)
or_swap true true = refl
or_swap true false = refl
or_swap false true = refl
or_swap false false = refl

or_same : (a b : Bool) → (a || b) ≡ ((a || b) || a)
or_same true b = refl
or_same false true = refl
or_same false false = refl

list_any_push : {X : Type 0} (test : X → Bool) (xs : List X) (x : X) → list_any test (xs ++ x ∷ []) ≡ (list_any test xs || test x)
list_any_push test [] x = or_swap (test x) false
list_any_push test (y ∷ xs) x = ap (λ b. test y || b) (list_any_push test xs x) ∙ or_assoc (test y) (list_any test xs) (test x)

then_equal : (o p : Ordering) → ordering_then o p ≡ Equal → (o ≡ Equal) × (p ≡ Equal)
then_equal Less p e = absurd cc
then_equal Equal p e = (refl, e)
then_equal Greater p e = absurd cc

same_text : (xs ys : List ℕ) → slice_cmp nat_cmp xs ys ≡ Equal → xs ≡ ys
same_text xs ys e = (bytes_eq-Decides xs ys).0 (sym (is_eq-slice_cmp xs ys) ∙ ap is_eq e)

no_text : (o : Ordering) (b : Bool) (p : Ordering) → is_eq p ≡ b → (b ≡ true → o ≡ Equal) → is_eq (ordering_then o p) ≡ b
no_text Equal b p e same = e
no_text Less true p e same = let never : ⊥ = (let x = same refl in cc) in absurd never
no_text Less false p e same = refl
no_text Greater true p e same = let never : ⊥ = (let x = same refl in cc) in absurd never
no_text Greater false p e same = refl

-- names are the same where they stand at one place
told_apart : (q k : Bor (List ℕ)) → is_eq (name_order (ending q.now, q) (ending k.now, k)) ≡ bytes_eq q.now k.now
told_apart q k =
    no_text (nat_cmp (ending q.now) (ending k.now)) (bytes_eq q.now k.now) (slice_cmp nat_cmp q.now k.now) (is_eq-slice_cmp q.now k.now)
    (λ same. ap (λ n. nat_cmp (ending n) (ending k.now)) ((bytes_eq-Decides q.now k.now).0 same) ∙ sym (nat_cmp_is (ending k.now) (ending k.now) Equal refl))

inserted_at : (o : Ordering) (q k : Bor (List ℕ)) (x : Name) (xs ys : List Name) → name_order (ending k.now, k) x ≡ o → among q ys ≡ (among q xs || bytes_eq q.now k.now)
    → among q (match_ordering o ((ending k.now, k) ∷ x ∷ xs) (x ∷ xs) (x ∷ ys)) ≡ (among q (x ∷ xs) || bytes_eq q.now k.now)
inserted_at Less q k x xs ys e later = ap (λ b. b || among q (x ∷ xs)) (told_apart q k) ∙ or_swap (bytes_eq q.now k.now) (among q (x ∷ xs))
inserted_at Equal q k x xs ys e later =
    let both = then_equal (nat_cmp (ending k.now) x.0) (slice_cmp nat_cmp k.now x.1.now) e in
    let number : ending k.now ≡ x.0 = exact_unsigned (ending k.now) x.0 both.0 in
    let text : k.now ≡ x.1.now = same_text k.now x.1.now both.1 in
    let here : is_eq (name_order (ending q.now, q) x) ≡ bytes_eq q.now k.now =
    ap₂ (λ n t. is_eq (ordering_then (nat_cmp (ending q.now) n) (slice_cmp nat_cmp q.now t))) (sym number) (sym text) ∙ told_apart q k in
    rw here (or_same (bytes_eq q.now k.now) (among q xs))
inserted_at Greater q k x xs ys e later = ap (λ b. is_eq (name_order (ending q.now, q) x) || b) later ∙ or_assoc (is_eq (name_order (ending q.now, q) x)) (among q xs) (bytes_eq q.now k.now)

inserted : (q k : Bor (List ℕ)) (xs : List Name) → among q (insert_key name_order xs (ending k.now, k)) ≡ (among q xs || bytes_eq q.now k.now)
inserted q k [] = ap (λ b. b || false) (told_apart q k) ∙ or_swap (bytes_eq q.now k.now) false
inserted q k (x ∷ xs) = inserted_at (name_order (ending k.now, k) x) q k x xs _ refl (inserted q k xs)

twice : (b : Bool) → not (not b) ≡ b
twice true = refl
twice false = refl

-- given one name more, it is among those before
pub holds_more : (old new : Given) (taken : List (List ℕ)) (k : Bor (List ℕ)) → new.names.keys ≡ insert_key name_order old.names.keys (ending k.now, k) → Holds old taken → Holds new (taken ++ k.now ∷ [])
holds_more old new taken k e h = λ q. ap (among q) e ∙ inserted q k old.names.keys ∙ ap (λ b. b || bytes_eq q.now k.now) (h q) ∙ sym (list_any_push (λ n. bytes_eq q.now n) taken k.now)

no_name : (q : Bor (List ℕ)) (xs : List Name) → length xs ≡ 0 → among q xs ≡ false
no_name q [] e = refl
no_name q (x ∷ xs) e = absurd cc

-- where none was given, no name was
pub none_given : (given : Given) (taken : List (List ℕ)) (q : Bor (List ℕ)) → length given.names.keys ≡ 0 → Holds given taken → false ≡ is_taken taken (Some q.now)
none_given given taken q e h = sym (no_name q given.names.keys e) ∙ h q

-- a name that is not new was given before
pub given_before : (old : Given) (taken : List (List ℕ)) (k : Bor (List ℕ)) (new : Bool) → new ≡ not (contains_by (name_order (ending k.now, k)) old.names) → Holds old taken → not new ≡ is_taken taken (Some k.now)
given_before old taken k new e h = ap not e ∙ twice (contains_by (name_order (ending k.now, k)) old.names) ∙ h k

-- ---- the number of a name's last bytes

pub one_byte : (n : ℕ) (bytes : List ℕ) (i : ℕ) → i < length bytes
    → number_before (((n * 256) % 2 ^ 64 + get_or bytes i 0) % 2 ^ 64) (drop (i + 1) bytes) ≡ number_before n (drop i bytes)
one_byte n bytes i inside = ap (number_before n) (sym (drop_more bytes i 0 inside))

pub no_byte : (n : ℕ) (bytes : List ℕ) (i : ℕ) → length bytes ≤ i → n ≡ number_before n (drop i bytes)
no_byte n bytes i end = ap (number_before n) (sym (drop_all i bytes end))
