-- From bytes to the value of their JSON, and from it to the root.
use Rattle.std.proofs.Common.{◌≡◌, ℕ, ◌+◌, ◌<◌, ◌≤◌, List, [], ◌∷◌, length, Bool, true, false, ◌==◌, Option, Some, None, Result, Ok, Err, IsSome, IsUtf8, Ordering, Less, Equal, Greater, nat_cmp, refl, sym, ap, ◌∙◌, arith}
use Rattle.std.proofs.lemmas.Bool.{eqb-true, eqb-false}
use Rattle.std.proofs.lemmas.Str.{IsUtf8-from_is_utf8, is_utf8-from_IsUtf8}
use Rattle.ink_json.proofs.Common.{slice_cmp, match_ordering, Data, null, boolean, number, string, array, object, Members, no_members, member, read, size, members_size, ReadRefusal}
use Rattle.std.specs.Str.{is_utf8}
use Rattle.json.specs.Token.{Token}
use Rattle.json.specs.Lex.{tokens}
use Rattle.json.specs.Json.{document}
use Rattle.serde_json.specs.Find.{get, get_member}
use Rattle.serde_json.proofs.OnLiterals.{serde_json_on_literals}
use Rattle.json_tape.specs.Spelled.{are_sound, data_of, held}
use Rattle.json_tape.proofs.Size.{read_size}
use Rattle.json_tape.proofs.Spelled.{there, text_read, held_is, spelled_data}
use Rattle.ink_model.specs.declared.limits.TheConstants.{MAX_STORY}
use Rattle.ink_model.specs.Story.Grammar.{here, json, unmarked, of_json, story}
use Rattle.ink_model.specs.declared.fault.Cause.TheVariants.{NotJson}
use Rattle.ink_model.specs.declared.fault.Failure.{Failure}
use Rattle.ink_model.specs.declared.fault.Failure.TheVariants.{OutOfMemory, Refused}
use Rattle.ink_json.specs.Reading.{is_parsable, is_parsed, Reads, ReadsOr}
use Rattle.ink_json.proofs.Conditions.{not_above}

-- ---- text and JSON

not_text : (bytes : List ℕ) (b : Bool) → is_utf8 bytes ≡ b → (IsUtf8 bytes → ⊥) → json bytes ≡ None
not_text bytes true e bad = absurd (bad (IsUtf8-from_is_utf8 bytes e))
not_text bytes false e bad = rw e refl

pub no_text : (bytes : List ℕ) → (IsUtf8 bytes → ⊥) → of_json (json bytes) ≡ Err (here NotJson)
no_text bytes bad = ap of_json (not_text bytes (is_utf8 bytes) refl bad)

text_json : (bytes text : List ℕ) → text ≡ bytes → IsUtf8 bytes → json bytes ≡ read text
text_json bytes text same utf8 = let e = is_utf8-from_IsUtf8 bytes utf8 in rw e (ap read (sym same))

pub no_json : (bytes text : List ℕ) → text ≡ bytes → IsUtf8 bytes → read text ≡ None → of_json (json bytes) ≡ Err (here NotJson)
no_json bytes text same utf8 none = ap of_json (text_json bytes text same utf8 ∙ none)

nothing_read : read [] ≡ None
unfolding serde_json_on_literals
nothing_read = refl

nothing : (text : List ℕ) → length text ≡ 0 → read text ≡ None
nothing [] e = nothing_read
nothing (c ∷ cs) e = absurd (omega (arith, e))

pub empty : (text : List ℕ) (b : Bool) → b ≡ (length text == 0) → b ≡ true → read text ≡ None
empty text b e is = nothing text (eqb-true (length text) 0 (sym e ∙ is))

filled : (text : List ℕ) (b : Bool) → b ≡ (length text == 0) → b ≡ false → 0 < length text
filled [] b e is = absurd (eqb-false (length {A = ℕ} []) 0 (sym e ∙ is) refl)
filled (c ∷ cs) b e is = omega arith

-- text of which there is a byte
pub parsable : (bytes text : List ℕ) (b : Bool) → text ≡ bytes → IsUtf8 bytes → b ≡ (length text == 0) → b ≡ false → is_parsable bytes ≡ true
parsable [] text b same utf8 e is = absurd (omega (arith, filled text b e is, ap length same))
parsable (c ∷ cs) text b same utf8 e is = let h = is_utf8-from_IsUtf8 (c ∷ cs) utf8 in rw h refl

-- ---- the tape of a text

pub tape_json : (bytes text : List ℕ) (tape : List Token) → text ≡ bytes → IsUtf8 bytes → tape ≡ tokens text → IsSome (document text) → held tape ≡ json bytes
tape_json bytes text tape same utf8 all is = ap held all ∙ held_is text is ∙ sym (text_json bytes text same utf8)

pub tape_size : (text : List ℕ) (tape : List Token) → tape ≡ tokens text → IsSome (document text) → are_sound 0 tape ≡ true → size (data_of tape) ≤ length text + 1
tape_size text tape all is e =
    let j = there (document text) is in
    let found = text_read text j.0 j.1 (ap (are_sound 0) (sym all) ∙ e) in
    let same : data_of tape ≡ found.0 = ap data_of all ∙ spelled_data (tokens text) found.0 found.2 in
    omega (arith, read_size text found.0 found.1, ap size same)

-- ---- the file

pub story_is : (bytes : List ℕ) → length bytes ≤ MAX_STORY → story bytes ≡ of_json (json (unmarked bytes))
unfolding story
story_is bytes h = rw (not_above MAX_STORY (length bytes) h) refl

pub parsed_is : (bytes : List ℕ) → length bytes ≤ MAX_STORY → is_parsed bytes ≡ is_parsable (unmarked bytes)
parsed_is bytes h = rw (not_above MAX_STORY (length bytes) h) refl

-- where memory may be refused anyhow
pub reads_or : {X A : Type 0} (may : Bool) (view : X → A) (result : Result X (Failure ReadRefusal)) (read : Result A ReadRefusal) → may ≡ true → Reads view result read → ReadsOr may view result read
reads_or may view (Ok x) read m h = h
reads_or may view (Err OutOfMemory) read m h = m
reads_or may view (Err (Refused r)) read m h = h

-- ---- sizes of what is found

member_found : (o : Ordering) (e : Data) (rest : Option Data) (d : Data) (n : ℕ) → (rest ≡ Some d → size d ≤ n) → match_ordering o rest (Some e) rest ≡ Some d → size d ≤ size e + n
member_found Less e rest d n h is = omega (arith, h is)
member_found Equal e rest d n h is = let same : e ≡ d = cc in omega (arith, ap size same)
member_found Greater e rest d n h is = omega (arith, h is)

member_size : (k : List ℕ) (ms : Members) (d : Data) → get_member k ms ≡ Some d → size d ≤ members_size ms
member_size k no_members d is = absurd cc
member_size k (member l e ms) d is = member_found (slice_cmp nat_cmp k l) e (get_member k ms) d (members_size ms) (member_size k ms d) is

pub get_size : (k : List ℕ) (d e : Data) → Some e ≡ get k d → size e ≤ size d
get_size k null e is = absurd cc
get_size k (boolean b) e is = absurd cc
get_size k (number n) e is = absurd cc
get_size k (string s) e is = absurd cc
get_size k (array ds) e is = absurd cc
get_size k (object ms) e is = omega (arith, member_size k ms e (sym is))
