-- Values that are spelled as they are printed, and what their spelling reads as.
use Rattle.std.proofs.Common.{◌≡◌, ◌∙◌, ap, sym, subst, refl, ℕ, ℤ, pos, negsuc, suc, ◌+◌, ◌-◌, ◌^◌, ◌<◌, ◌≤◌, Bool, true, false, cond, bytes_eq, w32, Result, Ok, Err, List, [], ◌∷◌, ◌++◌, length, take, drop, get_or, flat_map, Option, Some, None, option_map, option_and_then, decimal, arith, append-nil, lt-ltb}
use Rattle.std.proofs.Math.Seq.{take-suc}
use Rattle.std.proofs.lemmas.Bool.{true≢false}
use Rattle.std.proofs.lemmas.Bool.Decides.{nat_tests}
use Rattle.std.proofs.lemmas.Fmt.{parse-signed_decimal}
use Rattle.std.proofs.lemmas.Grind.{flat_map-append}
use Rattle.std.proofs.lemmas.Slice.Eq.{bytes_eq-Decides}
use Rattle.std.specs.Bool.{OnTrue}
use Rattle.std.specs.Fmt.{signed_decimal}
use Rattle.std.specs.Str.Parse.{ParsesSigned}
use lib.Signed.{mag}
use Rattle.json.specs.Token.{Token}
use Rattle.json.specs.Json as json
use Rattle.json.specs.Lex.{tokens}
use Rattle.json.specs.Print.{print, print_from, token_text, quoted, escape, escape_byte, IsPrintable, ArePrintable}
use Rattle.json.specs.Tree as tree
use Rattle.json.specs.Tree.{json_tokens}
use Rattle.json.proofs.Printed.Trees.{value-json_tokens}
use Rattle.json.proofs.Printed.Tokens.{tokens-print}
use Rattle.json.proofs.Printed.Decimals.{IsNumber-decimal, IsNumber-signed_decimal}
use Rattle.json.proofs.Printed.Strings.{escape_byte_plain}
use Rattle.serde_json.specs.Data.{Data, null, boolean, number, string, array, object, unsigned, negative}
use Rattle.serde_json.specs.Find.{as_integer}
use Rattle.serde_json.specs.Read.{read, max_depth, of_json}
use Rattle.serde_json.proofs.Numbers.{number_of-decimal, number_of-negative}
use Rattle.ink_model.specs.Text.Bytes.{fits_text}
use Rattle.ink_model.specs.Story.Leaves.{is_small}
use Rattle.ink_model.specs.Protocol.ValueJson.{given_by, given_integer, given_of}
use Rattle.ink_model.specs.declared.host.Given.{Given}
use Rattle.ink_model.specs.declared.host.Given.TheVariants as given
use Rattle.ink_protocol.proofs.Commands.{given_read}

-- ---- one token

one_printable : (t : Token) → IsPrintable t → ArePrintable (t ∷ [])
unfolding ArePrintable
one_printable t h = (h, tt)

print_one : (t : Token) → print (t ∷ []) ≡ token_text t
unfolding print_from
print_one t = append-nil (token_text t)

tokens_one : (t : Token) → IsPrintable t → tokens (token_text t) ≡ t ∷ []
tokens_one t h = ap tokens (sym (print_one t)) ∙ tokens-print (t ∷ []) (one_printable t h)

abbrev whole : Option (json.Json × List Token) → Option Data
whole o = option_and_then of_json (option_and_then (λ p. json.if_last p.0 p.1) o)

-- the text of a token that is a value of its own reads as that value
read_token : (t : Token) (j : json.Json) (d : Data) → json_tokens j ++ [] ≡ t ∷ [] → IsPrintable t → tree.depth j ≤ max_depth → of_json j ≡ Some d → read (token_text t) ≡ Some d
read_token t j d same h shallow is = ap whole (ap (json.value max_depth) (tokens_one t h ∙ sym same) ∙ value-json_tokens j max_depth [] shallow) ∙ is

-- ---- values

read_natural : (n : ℕ) → n < 2 ^ 31 → read (decimal n) ≡ Some (number (unsigned n))
read_natural n h =
    read_token (Token.number (decimal n)) (json.number (decimal n)) (number (unsigned n)) refl (IsNumber-decimal n (omega arith)) (omega arith)
    (ap (option_map number) (number_of-decimal n (omega arith)))

read_negative : (n : ℕ) → n < 2 ^ 31 → read (signed_decimal (negsuc n)) ≡ Some (number (negative (negsuc n)))
read_negative n h =
    read_token (Token.number (signed_decimal (negsuc n))) (json.number (signed_decimal (negsuc n))) (number (negative (negsuc n))) refl
    (IsNumber-signed_decimal (negsuc n) (omega arith)) (omega arith) (ap (option_map number) (number_of-negative n (omega arith)))

given_integer_of : (z : ℤ) → mag z < 2 ^ 31 → given_of (signed_decimal z) ≡ Some (given.Int z)
given_integer_of (pos n) h =
    given_read (decimal n) (number (unsigned n)) (read_natural n h) ∙ ap (λ b. cond b (Some (given.Int (pos n))) None) (lt-ltb n (2 ^ 31) h)
given_integer_of (negsuc n) h =
    given_read (signed_decimal (negsuc n)) (number (negative (negsuc n))) (read_negative n h) ∙ ap (λ b. cond b (Some (given.Int (negsuc n))) None) (lt-ltb n (2 ^ 31) h)

-- a text that is found to be what a number is printed as
pub printed : (z : ℤ) (shown text : List ℕ) (same : Bool) → mag z < 2 ^ 31 → shown ≡ signed_decimal z → same ≡ bytes_eq shown text → OnTrue same (given_of text ≡ Some (given.Int z))
printed z shown text true h e k = ap given_of (sym ((bytes_eq-Decides shown text).0 (sym k)) ∙ e) ∙ given_integer_of z h
printed z shown text false h e k = tt

pub same_bytes : (text word : List ℕ) (value : Option Given) → bytes_eq text word ≡ true → given_of word ≡ value → given_of text ≡ value
same_bytes text word value h e = ap given_of ((bytes_eq-Decides text word).0 h) ∙ e

pub given_truth_of : (b : Bool) → given_of (token_text (Token.boolean b)) ≡ Some (given.Bool b)
given_truth_of b = given_read (token_text (Token.boolean b)) (boolean b) (read_token (Token.boolean b) (json.boolean b) (boolean b) refl tt (omega arith) refl)

read_quoted : (t : List ℕ) → read (quoted t) ≡ Some (string t)
read_quoted t = read_token (Token.string t) (json.string t) (string t) refl tt (omega arith) refl

pub given_text_of : (text t : List ℕ) → text ≡ 34 ∷ (t ++ 34 ∷ []) → escape t ≡ t → fits_text t ≡ true → given_of text ≡ Some (given.Text t)
given_text_of text t e plain fits =
    ap given_of (e ∙ ap (λ l. 34 ∷ (l ++ 34 ∷ [])) (sym plain)) ∙ given_read (quoted t) (string t) (read_quoted t) ∙ ap (λ b. cond b (Some (given.Text t)) None) fits

-- what stands before and behind a text without its quotes
pub in_quotes : (text rest inner : List ℕ) (n m : ℕ) → text ≡ 34 ∷ drop n text → rest ≡ drop n text → rest ≡ take (length rest - m) rest ++ 34 ∷ [] → inner ≡ take (length rest - m) rest
    → text ≡ 34 ∷ (inner ++ 34 ∷ [])
in_quotes text rest inner n m e f g h = e ∙ ap (λ l. 34 ∷ l) (sym f ∙ g ∙ ap (λ l. l ++ 34 ∷ []) (sym h))

-- ---- bytes that stand in a string as they are

pub plain_more : (xs : List ℕ) (i : ℕ) → i < length xs → escape (take i xs) ≡ take i xs → 32 ≤ get_or xs i 0 → (get_or xs i 0 ≡ 34 → ⊥) → (get_or xs i 0 ≡ 92 → ⊥)
    → escape (take (i + 1) xs) ≡ take (i + 1) xs
plain_more xs i h before low quote slash =
    let x = get_or xs i 0 in
    let next : i + 1 ≡ suc i = omega arith in
    let more : take (i + 1) xs ≡ take i xs ++ x ∷ [] = ap (λ n. take n xs) next ∙ take-suc xs i 0 h in
    rw more (flat_map-append escape_byte (take i xs) (x ∷ []) ∙ ap (λ l. l ++ flat_map escape_byte (x ∷ [])) before
    ∙ ap (λ l. take i xs ++ l) (append-nil (escape_byte x) ∙ escape_byte_plain x quote slash low))

-- ---- integers that are not printed so

-- an integer is one of 32 bits
abbrev within : Option Given → Bool
within (Some (given.Int z)) = is_small z
within value = true

within_small : (z : ℤ) (b : Bool) → is_small z ≡ b → within (cond b (Some (given.Int z)) None) ≡ true
within_small z true e = e
within_small z false e = refl

within_integer : (o : Option ℤ) → within (given_integer o) ≡ true
within_integer None = refl
within_integer (Some z) = within_small z (is_small z) refl

within_text : (t : List ℕ) (b : Bool) → within (cond b (Some (given.Text t)) None) ≡ true
within_text t true = refl
within_text t false = refl

within_data : (o : Option Data) → within (option_and_then given_by o) ≡ true
within_data None = refl
within_data (Some null) = refl
within_data (Some (boolean b)) = refl
within_data (Some (number n)) = within_integer (as_integer n)
within_data (Some (string t)) = within_text t (fits_text t)
within_data (Some (array ds)) = refl
within_data (Some (object ms)) = refl

given_within : (text : List ℕ) → within (given_of text) ≡ true
unfolding given_of
given_within text = within_data (read text)

small_mag : (z : ℤ) → is_small z ≡ true → mag z < 2 ^ 31
small_mag (pos n) h = grind (arith, nat_tests, h)
small_mag (negsuc n) h = grind (arith, nat_tests, h)

not_true : (b : Bool) → (b ≡ true → ⊥) → b ≡ false
not_true true h = absurd (h refl)
not_true false h = refl

-- the number that was read is not printed so, or none was
abbrev pub Misses : {E : Type 0} → List ℕ → Result ℤ E → Type 0
Misses text (Ok z) = bytes_eq (signed_decimal z) text ≡ false
Misses text (Err e) = Unit {0}

missed : {E : Type 0} (text : List ℕ) (r : Result ℤ E) (z : ℤ) → r ≡ Ok z → Misses text r → text ≡ signed_decimal z → ⊥
missed text r z is h e = true≢false (sym ((bytes_eq-Decides (signed_decimal z) text).1 (sym e)) ∙ subst (Misses text) is h)

-- what a text spells is no integer that is printed so, if reading one comes to none
pub none_printed : {E : Type 0} (text : List ℕ) (r : Result ℤ E) → ParsesSigned w32 10 text r → Misses text r → (z : ℤ) → given_of text ≡ Some (given.Int z) → bytes_eq text (signed_decimal z) ≡ false
none_printed text r parses h z is =
    let small : mag z < 2 ^ 31 = small_mag z (sym (ap within is) ∙ given_within text) in
    not_true _ (λ same.
    let e : text ≡ signed_decimal z = (bytes_eq-Decides text (signed_decimal z)).0 same in
    missed text r z (parse-signed_decimal w32 z text r (record { sfits = small }) (omega arith) e parses) h e)
