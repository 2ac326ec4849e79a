-- Each text that a story spells is within its limit, and each number has 32 bits.
use Rattle.std.proofs.Common.{◌≡◌, refl, arith, ℕ, zero, suc, ◌^◌, ℤ, pos, negsuc, List, [], ◌∷◌, ◌++◌, length, Bool, true, false, ◌==◌, bytes_eq, codes, nat_lt, if◌then◌else◌, Option, Some, None, unwrap_or, Result, Ok, Err, IsTrue}
use Rattle.ink_sound.proofs.Common.{and_parts, cond_both, nat_tests, Leaf, Each, list_all, ok_or, Destination, Cause, InkVersion}
use Rattle.serde_json.specs.Data.{Data, number, string, object}
use Rattle.serde_json.specs.Find.{as_integer, as_str, get}
use Rattle.ink_model.specs.Story.Leaves.{by_head, choice_leaf, external_leaf, frame_option, integer_leaf, is_beyond, is_small, jump_leaf, jump_readings, leading_to, leaf_of, object_leaf, plain_leaf, pointer_frame, pointer_leaf, pointer_to, read_choice, read_external, read_jump, read_plain, read_pointer, read_store, read_tag, sole, store_leaf, store_readings, string_leaf, switch, tag_leaf, under_head, value_readings, whole_or}
use Rattle.ink_model.specs.Story.Word.{arithmetic_words, comparison_words, count_words, evaluation_words, flow_words, frame_words, logic_words, meant, number_words, operator_word, section_words, word}
use Rattle.ink_model.specs.declared.content.Leaf.TheVariants as leaves
use Rattle.ink_model.specs.declared.fault.Cause.TheVariants.{Limit, Unsupported}
use Rattle.ink_model.specs.declared.limits.TheConstants.{MAX_TEXT}
use Rattle.ink_sound.specs.Kept.{Finds, TextsFit, Yields}
use Rattle.ink_sound.proofs.Values.{each_append, or_finds}

-- ---- words

-- the leaf has no text
abbrev has_none : Leaf → Bool
has_none (leaves.Text t) = false
has_none (leaves.Tag t) = false
has_none (leaves.Int z) = false
has_none (leaves.Pointer name frame) = false
has_none l = true

none_fits : (l : Leaf) → has_none l ≡ true → TextsFit l
none_fits (leaves.Text t) e = absurd cc
none_fits (leaves.Tag t) e = absurd cc
none_fits (leaves.Int z) e = absurd cc
none_fits (leaves.Pointer name frame) e = absurd cc
none_fits l e = tt

meant_fits : (s : List ℕ) (words : List (List ℕ × Leaf)) → list_all (λ e. has_none e.1) words ≡ true → Finds TextsFit (meant s words)
meant_fits s [] e = tt
meant_fits s (w ∷ words) e =
    let parts = and_parts (has_none w.1) _ e in cond_both (bytes_eq s w.0) _ _ (Finds TextsFit) (λ _. none_fits w.1 parts.0) (λ _. meant_fits s words parts.1)

operator_fits : (s : List ℕ) → Finds TextsFit (operator_word s)
unfolding operator_word
operator_fits s = or_finds TextsFit (meant s arithmetic_words) _ (meant_fits s arithmetic_words refl) (or_finds TextsFit (meant s comparison_words) _ (meant_fits s comparison_words refl)
    (or_finds TextsFit (meant s logic_words) (meant s number_words) (meant_fits s logic_words refl) (meant_fits s number_words refl)))

word_fits : (s : List ℕ) → Finds TextsFit (word s)
unfolding word
word_fits s = or_finds TextsFit (meant s flow_words) _ (meant_fits s flow_words refl) (or_finds TextsFit (meant s evaluation_words) _ (meant_fits s evaluation_words refl)
    (or_finds TextsFit (meant s section_words) _ (meant_fits s section_words refl) (or_finds TextsFit (meant s frame_words) _ (meant_fits s frame_words refl)
    (or_finds TextsFit (meant s count_words) (operator_word s) (meant_fits s count_words refl) (operator_fits s)))))

-- ---- texts

ok_fits : (o : Option Leaf) → Finds TextsFit o → Yields TextsFit (ok_or o Unsupported)
ok_fits None h = tt
ok_fits (Some l) h = h

text_fits : (t : List ℕ) → Yields {E = Cause} TextsFit (if nat_lt MAX_TEXT (length t) then Err Limit else Ok (leaves.Text t))
text_fits t = cond_both (nat_lt MAX_TEXT (length t)) _ _ (Yields TextsFit) (λ _. tt) (λ e. grind (arith, nat_tests, e))

tag_fits : (t : Option (List ℕ)) → Yields TextsFit (tag_leaf t)
tag_fits None = tt
tag_fits (Some t) = cond_both (nat_lt MAX_TEXT (length t)) _ _ (Yields TextsFit) (λ _. tt) (λ e. grind (arith, nat_tests, e))

string_fits : (s : List ℕ) → Yields TextsFit (string_leaf s)
unfolding string_leaf
string_fits [] = ok_fits (word []) (word_fits [])
string_fits (c ∷ cs) = cond_both (c == 94) _ _ (λ o. Yields TextsFit (unwrap_or o (ok_or (word (c ∷ cs)) Unsupported))) (λ _. text_fits cs) (λ _. ok_fits (word (c ∷ cs)) (word_fits (c ∷ cs)))

-- ---- objects

jump_fits : (make : Destination → Bool → Leaf) → ((d : Destination) (b : Bool) → TextsFit (make d b)) → (t : Option (List ℕ)) (v c : Option Bool) → Yields TextsFit (jump_leaf make t v c)
jump_fits make h (Some t) (Some v) (Some c) = h (leading_to v t) c
jump_fits make h t v c = tt

external_fits : (t : Option (List ℕ)) (n : Option ℕ) (c : Option Bool) → Yields TextsFit (external_leaf t n c)
external_fits (Some t) (Some n) (Some c) = cond_both (nat_lt n (2 ^ 31)) _ _ (Yields TextsFit) (λ _. tt) (λ _. tt)
external_fits t n c = tt

frame_fits : (z : ℤ) → Yields (λ frame. IsTrue (is_small frame)) (pointer_frame z)
frame_fits (pos n) = cond_both (nat_lt n (2 ^ 31)) _ _ (Yields (λ frame. IsTrue (is_small frame))) (λ e. e) (λ _. tt)
frame_fits (negsuc zero) = refl
frame_fits (negsuc (suc n)) = tt

pointer_fits : (name : List ℕ) (r : Result ℤ Cause) → Yields (λ frame. IsTrue (is_small frame)) r → Yields TextsFit (pointer_to name r)
pointer_fits name (Ok frame) h = h
pointer_fits name (Err c) h = tt

pointer_leaf_fits : (t : Option (List ℕ)) (z : Option ℤ) → Yields TextsFit (pointer_leaf t z)
pointer_leaf_fits (Some t) (Some z) = pointer_fits t (pointer_frame z) (frame_fits z)
pointer_leaf_fits t z = tt

choice_fits : (t : Option (List ℕ)) (n : Option ℕ) → Yields TextsFit (choice_leaf t n)
choice_fits (Some t) (Some n) = cond_both (nat_lt n 32) _ _ (Yields TextsFit) (λ _. tt) (λ _. tt)
choice_fits t n = tt

store_fits : (declare assign : List ℕ → Leaf) → ((t : List ℕ) → TextsFit (declare t)) → ((t : List ℕ) → TextsFit (assign t)) → (t : Option (List ℕ)) (b : Option Bool) → Yields TextsFit (store_leaf declare assign t b)
store_fits declare assign h k (Some t) (Some true) = k t
store_fits declare assign h k (Some t) (Some false) = h t
store_fits declare assign h k t b = tt

plain_fits : (make : List ℕ → Leaf) → ((t : List ℕ) → TextsFit (make t)) → (t : Option (List ℕ)) → Yields TextsFit (plain_leaf make t)
plain_fits make h None = tt
plain_fits make h (Some t) = h t

abbrev AllFit : List (Result Leaf Cause) → Type 0
AllFit rs = Each (Yields TextsFit) rs

head_fits : (k : List ℕ) (read : Data → Data → Result Leaf Cause) (d : Data) → ((v : Data) → Yields TextsFit (read d v)) → AllFit (by_head k read d)
head_fits k read d h = elim (get k d) as (λ o. AllFit (under_head read d o)) [ None ↦ tt | Some v ↦ (h v, tt) ]

jump_head : (k : List ℕ) (make : Destination → Bool → Leaf) (d : Data) → ((t : Destination) (b : Bool) → TextsFit (make t b)) → AllFit (by_head k (read_jump make) d)
jump_head k make d h = head_fits k (read_jump make) d (λ v. jump_fits make h (as_str v) (switch (get (codes "var") d)) (switch (get (codes "c") d)))

plain_head : (k : List ℕ) (make : List ℕ → Leaf) (d : Data) → ((t : List ℕ) → TextsFit (make t)) → AllFit (by_head k (read_plain make) d)
plain_head k make d h = head_fits k (read_plain make) d (λ v. plain_fits make h (as_str v))

store_head : (k : List ℕ) (declare assign : List ℕ → Leaf) (d : Data) → ((t : List ℕ) → TextsFit (declare t)) → ((t : List ℕ) → TextsFit (assign t)) → AllFit (by_head k (read_store declare assign) d)
store_head k declare assign d h g = head_fits k (read_store declare assign) d (λ v. store_fits declare assign h g (as_str v) (switch (get (codes "re") d)))

jumps_fit : (d : Data) → AllFit (jump_readings d)
unfolding jump_readings
jumps_fit d = each_append _ _ (by_head (codes "*") read_choice d)
    (each_append _ _ (by_head (codes "x()") read_external d)
    (each_append _ _ (by_head (codes "->t->") (read_jump leaves.Tunnel) d)
    (each_append _ (by_head (codes "->") (read_jump leaves.Divert) d) (by_head (codes "f()") (read_jump leaves.Call) d)
    (jump_head (codes "->") leaves.Divert d (λ t b. tt)) (jump_head (codes "f()") leaves.Call d (λ t b. tt)))
    (jump_head (codes "->t->") leaves.Tunnel d (λ t b. tt)))
    (head_fits (codes "x()") read_external d (λ v. external_fits (as_str v) (whole_or 0 (get (codes "exArgs") d)) (switch (get (codes "c") d)))))
    (head_fits (codes "*") read_choice d (λ v. choice_fits (as_str v) (whole_or 16 (get (codes "flg") d))))

values_fit : (d : Data) → AllFit (value_readings d)
unfolding value_readings
values_fit d = each_append _ _ (by_head (codes "#") read_tag d)
    (each_append _ _ (by_head (codes "CNT?") (read_plain leaves.Count) d)
    (each_append _ _ (by_head (codes "VAR?") (read_plain leaves.Variable) d)
    (each_append _ (by_head (codes "^->") (read_plain leaves.Target) d) (by_head (codes "^var") read_pointer d)
    (plain_head (codes "^->") leaves.Target d (λ t. tt)) (head_fits (codes "^var") read_pointer d (λ v. pointer_leaf_fits (as_str v) (frame_option (get (codes "ci") d)))))
    (plain_head (codes "VAR?") leaves.Variable d (λ t. tt)))
    (plain_head (codes "CNT?") leaves.Count d (λ t. tt)))
    (head_fits (codes "#") read_tag d (λ v. tag_fits (as_str v)))

stores_fit : (d : Data) → AllFit (store_readings d)
unfolding store_readings
stores_fit d = each_append _ (by_head (codes "VAR=") (read_store leaves.Declare leaves.Assign) d) (by_head (codes "temp=") (read_store leaves.DeclareTemp leaves.AssignTemp) d)
    (store_head (codes "VAR=") leaves.Declare leaves.Assign d (λ t. tt) (λ t. tt)) (store_head (codes "temp=") leaves.DeclareTemp leaves.AssignTemp d (λ t. tt) (λ t. tt))

sole_fits : (rs : List (Result Leaf Cause)) → AllFit rs → Yields TextsFit (sole rs)
sole_fits (r ∷ []) h = h.0
sole_fits rs h = tt

object_fits : (version : InkVersion) (d : Data) → Yields TextsFit (object_leaf version d)
unfolding object_leaf
object_fits version d = cond_both (is_beyond version d) _ _ (Yields TextsFit)
    (λ _. tt) (λ _. sole_fits _ (each_append _ (jump_readings d) (value_readings d ++ store_readings d) (jumps_fit d) (each_append _ (value_readings d) (store_readings d) (values_fit d) (stores_fit d))))

-- ---- all leaves

integer_fits : (o : Option ℤ) → Yields TextsFit (integer_leaf o)
integer_fits None = tt
integer_fits (Some z) = cond_both (is_small z) _ _ (Yields {E = Cause} TextsFit) (λ e. e) (λ _. tt)

pub leaf_of_fits : (version : InkVersion) (d : Data) → Yields TextsFit (leaf_of version d)
leaf_of_fits version (number n) = integer_fits (as_integer n)
leaf_of_fits version (string s) = string_fits s
leaf_of_fits version (object ms) = object_fits version (object ms)
leaf_of_fits version d = tt
